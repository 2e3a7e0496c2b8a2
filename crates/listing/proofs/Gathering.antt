-- Text gathered in a buffer (talk's Gathered): one text after another is both at once; where there is room for all of it the buffer holds
-- what it held with the text behind it, and every other byte is as before.
use Rattle.std.proofs.Common.{◌≡◌, ℕ, suc, ◌+◌, ◌<◌, ◌≤◌, List, [], ◌∷◌, ◌++◌, length, get_or, take, drop, set, sym, refl, ap, ◌∙◌, add-zero, arith, length-append, length-set, drop_of_length-le, length-take-le, drop-cons, take_at}
use lib.Seq.{sets, sets-eq}
use Rattle.meaning.proofs.Choice.{lt_yes, lt-either}
use Rattle.talk.specs.Gathered.{Piece, with_byte, gather}

-- ---- one text after another

pub gather_append : (one other : List ℕ) (p : Piece) → gather (one ++ other) p ≡ gather other (gather one p)
unfolding gather
gather_append [] other p = refl
gather_append (x ∷ one) other p = gather_append one other (with_byte x p)

-- ---- the bytes held stay within the buffer, whose length stays

within-byte : (x : ℕ) (p : Piece) → p.held ≤ length p.bytes
    → ((with_byte x p).held ≤ length (with_byte x p).bytes) × (length (with_byte x p).bytes ≡ length p.bytes)
unfolding with_byte
within-byte x p h = lt-either (λ (q : Piece). (q.held ≤ length q.bytes) × (length q.bytes ≡ length p.bytes)) _ _ _ _
    (λ l. let e = length-set p.bytes p.held x in (omega arith, e)) (λ l. (h, refl))

pub gather-within : (text : List ℕ) (p : Piece) → p.held ≤ length p.bytes
    → ((gather text p).held ≤ length (gather text p).bytes) × (length (gather text p).bytes ≡ length p.bytes)
unfolding gather
gather-within [] p h = (h, refl)
gather-within (x ∷ text) p h =
    let (k, e) = within-byte x p h in let (l, f) = gather-within text (with_byte x p) k in (l, f ∙ e)

-- ---- where there is room for all of it

stored : (text : List ℕ) (p : Piece) → p.held + length text ≤ length p.bytes
    → gather text p ≡ record { bytes = sets p.bytes p.held text; held = p.held + length text }
unfolding gather with_byte
stored [] p h = λ i. record { bytes = p.bytes; held = sym (add-zero p.held) i }
stored (x ∷ text) p h =
    let e = length-set p.bytes p.held x in
    let one : p.held + 1 ≡ suc p.held = omega arith in
    let all : p.held + 1 + length text ≡ p.held + suc (length text) = omega arith in
    ap (gather text) (lt_yes _ _ _ _ (omega arith))
    ∙ stored text (record { bytes = set p.bytes p.held x; held = p.held + 1 }) (omega arith)
    ∙ (λ i. record { bytes = sets (set p.bytes p.held x) (one i) text; held = all i })

-- what was held, the text, and every other byte as before
pub gather-fits : (text : List ℕ) (p : Piece) → p.held + length text ≤ length p.bytes
    → gather text p ≡ record {
      bytes = take p.held p.bytes ++ text ++ drop (p.held + length text) p.bytes;
      held = p.held + length text;
    }
gather-fits text p h =
    stored text p h ∙ (λ i. record { bytes = sets-eq text p.bytes p.held h i; held = p.held + length text })

-- so that what is held then is what was held before, and the text
pub gather-held : (text : List ℕ) (p : Piece) → p.held + length text ≤ length p.bytes
    → take (gather text p).held (gather text p).bytes ≡ take p.held p.bytes ++ text
gather-held text p h =
    rw (gather-fits text p h)
    (take_at (take p.held p.bytes ++ text) _ _
    (length-append (take p.held p.bytes) text
    ∙ ap (λ (n : ℕ). n + length text) (length-take-le p.held p.bytes (omega arith))))

-- ---- a turn of a loop

-- one byte of a text, and what is left of it
pub gather-turn : (text : List ℕ) (i : ℕ) (p q : Piece) → i < length text → q ≡ with_byte (get_or text i 0) p
    → gather (drop i text) p ≡ gather (drop (i + 1) text) q
unfolding gather
gather-turn text i p q h e =
    let next : i + 1 ≡ suc i = omega arith in
    rw next (ap (λ (l : List ℕ). gather l p) (drop-cons text i 0 h) ∙ ap (gather (drop (suc i) text)) (sym e))

pub gather-end : (text : List ℕ) (i : ℕ) (p : Piece) → length text ≤ i → gather (drop i text) p ≡ p
unfolding gather
gather-end text i p h = ap (λ (l : List ℕ). gather l p) (drop_of_length-le text {i = i} h)
