-- Words read one after the other, from what is due to what is due behind them: what is heard of more words behind them, where reading stops,
-- and that every beginning can be completed.
use mathlib.Core.Path.{◌≡◌, refl, ap, sym, ◌∙◌}
use mathlib.Core.Bool.{Bool, true, false}
use mathlib.Core.List.{List, [], ◌∷◌, ◌++◌}
use Prim.Native.Nat.{ℕ, zero, suc, ◌-◌}
use native.Mathlib.Omega.{arith}
use Rattle.std.specs.Prelude.{Some, Ok, Err}
use Rattle.meaning.specs.Choice.{ifb, if_lt}
use Rattle.meaning.proofs.Tests.{apart}
use Rattle.meaning.proofs.Choice.{b-yes, eq_yes, eq_no, lt_no}
use Rattle.decimal.specs.Digits.{value_from}
use Rattle.lparse.specs.declared.due.Role.{Role}
use Rattle.lparse.specs.declared.due.Role.TheVariants.{Kind, Head, HeadCount, Heads, Literals, Negatives, Negative, Positive, Table, Plus, Minus, Models}
use Rattle.lparse.specs.declared.due.Due.{Due}
use Rattle.lparse.specs.declared.due.Due.TheVariants.{Number, Name, PlusWord, MinusWord, End}
use Rattle.lparse.specs.declared.due.Standing.TheVariants.{Head as InHead, Free as InFree, Negative as InNegative, Positive as InPositive}
use Rattle.lparse.specs.declared.due.Said.{Said}
use Rattle.lparse.specs.declared.due.Said.TheVariants.{Nothing as Silent}
use Rattle.lparse.specs.declared.due.Misplaced.TheVariants.{Format, Kind as OtherKind}
use Rattle.lparse.specs.Words.{Word}
use Rattle.lparse.specs.Reading.{Move, body_of, heads_of, on_kind, on_listed, on_head_count, on_negatives, on_number, number_in, on_sign, move_of, whole, Part, nothing_more, with, Heard, says, wrong, adding, on_move, heard}
use Rattle.lparse.proofs.Tokens.{number-move, atom-move, sign-move}
use Rattle.lparse.proofs.Later.{heard-one}

pub data Walked : Due → List Word → Due → Type 0 where
  here : {due : Due} → Walked due [] due
  on : {due next end : Due} {said : Said} {w : Word} {ws : List Word} → move_of due w.bytes ≡ Ok (next, said) → Walked next ws end
      → Walked due (w ∷ ws) end

-- ---- what is due behind them

pub walked_one : {due a b : Due} {ws : List Word} → Walked due ws a → Walked due ws b → a ≡ b
walked_one here here = refl
walked_one (on {next = n} {said = x} m k) (on {next = o} {said = y} q r) =
    let g = sym m ∙ q in
    let e : ◌≡◌ {A = Due × Said} (n, x) (o, y) = cc in walked_one (rw (ap (λ p. p.0) e) at k) r

module _ (w : Word) {mid end : Due} {said : Said} (m : move_of mid w.bytes ≡ Ok (end, said)) where
  pub walked-last : {due : Due} {ws : List Word} → Walked due ws mid → Walked due (ws ++ (w ∷ [])) end
  walked-last here = on m here
  walked-last (on q k) = on q (walked-last k)

pub walked-parted : (ws : List Word) (w : Word) {due end : Due} → Walked due (ws ++ (w ∷ [])) end
    → (mid : Due) × (said : Said) × Walked due ws mid × (move_of mid w.bytes ≡ Ok (end, said))
walked-parted [] w {due} (on {said = said} m here) = (due, said, here, m)
walked-parted (v ∷ ws) w (on m k) = let (mid, said, r, q) = walked-parted ws w k in (mid, said, on m r, q)

-- ---- what is heard

module _ (len : ℕ) where
  pub walked-says : {due end : Due} {ws : List Word} (more : List Word) → Walked due ws end → (p : Part) → heard len end more ≡ says p
      → (q : Part) × (heard len due (ws ++ more) ≡ says q)
  walked-says more here p e = (p, e)
  walked-says more (on {due} {next} {said = said} {w = w} {ws = ws} m k) p e =
      let (q, f) = walked-says more k p e in
      (with w said q, heard-one len w (ws ++ more) due next said q (with w said q) m f refl)

  pub walked-wrong : {due end : Due} {ws : List Word} (more : List Word) → Walked due ws end → (i at : ℕ) → heard len end more ≡ wrong i at
      → heard len due (ws ++ more) ≡ wrong i at
  unfolding heard on_move adding
  walked-wrong more here i at e = e
  walked-wrong more (on m k) i at e = rw (m, walked-wrong more k i at e)

  added-says : (w : Word) (said : Said) (h : Heard) (q : Part) → adding w said h ≡ says q → (p : Part) × (h ≡ says p)
  unfolding adding
  added-says w said (says p) q e = (p, refl)
  added-says w said (wrong i at) q e = apart cc

  walked-move : (due : Due) (w : Word) (ws more : List Word) → ((next : Due) (p : Part) → heard len next (ws ++ more) ≡ says p → (end : Due) × Walked next ws end)
      → (m : Move) → move_of due w.bytes ≡ m → (q : Part) → on_move m w (λ next. heard len next (ws ++ more)) ≡ says q
      → (end : Due) × Walked due (w ∷ ws) end
  unfolding on_move
  walked-move due w ws more rest (Ok (next, said)) e q f =
      let (p, g) = added-says w said (heard len next (ws ++ more)) q f in
      let (end, k) = rest next p g in
      (end, on e k)
  walked-move due w ws more rest (Err Format) e q f = apart cc
  walked-move due w ws more rest (Err OtherKind) e q f = apart cc

  pub says-walked : (due : Due) (ws more : List Word) (q : Part) → heard len due (ws ++ more) ≡ says q → (end : Due) × Walked due ws end
  unfolding heard
  says-walked due [] more q e = (due, here)
  says-walked due (w ∷ ws) more q e =
      walked-move due w ws more (λ next p f. says-walked next ws more p f) (move_of due w.bytes) refl q e

-- ---- where reading stops

pub data Stopped (len : ℕ) (due : Due) (ws : List Word) (i at : ℕ) : Type 0 where
  at-word : (before : List Word) (w : Word) (after : List Word) (end : Due) → ws ≡ before ++ (w ∷ after) → Walked due before end
      → move_of end w.bytes ≡ Err Format → i ≡ 30 → at ≡ w.place → Stopped len due ws i at
  at-type : (before : List Word) (w : Word) (after : List Word) (end : Due) → ws ≡ before ++ (w ∷ after) → Walked due before end
      → move_of end w.bytes ≡ Err OtherKind → i ≡ 31 → at ≡ w.place → Stopped len due ws i at
  at-end : (end : Due) → Walked due ws end → whole end ≡ false → i ≡ 30 → at ≡ len → Stopped len due ws i at

module _ (len i at : ℕ) where
  stopped-on : {due next : Due} {said : Said} (w : Word) {ws : List Word} → move_of due w.bytes ≡ Ok (next, said) → Stopped len next ws i at
      → Stopped len due (w ∷ ws) i at
  stopped-on w m (at-word before v after end e k f n p) = at-word (w ∷ before) v after end (ap (λ l. w ∷ l) e) (on m k) f n p
  stopped-on w m (at-type before v after end e k f n p) = at-type (w ∷ before) v after end (ap (λ l. w ∷ l) e) (on m k) f n p
  stopped-on w m (at-end end k f n p) = at-end end (on m k) f n p

  added-wrong : (w : Word) (said : Said) (h : Heard) → adding w said h ≡ wrong i at → h ≡ wrong i at
  unfolding adding
  added-wrong w said (says p) e = apart cc
  added-wrong w said (wrong j to) e = e

  stopped-move : (due : Due) (w : Word) (ws : List Word) → ((next : Due) → heard len next ws ≡ wrong i at → Stopped len next ws i at)
      → (m : Move) → move_of due w.bytes ≡ m → on_move m w (λ next. heard len next ws) ≡ wrong i at → Stopped len due (w ∷ ws) i at
  unfolding on_move
  stopped-move due w ws rest (Ok (next, said)) e f = stopped-on w e (rest next (added-wrong w said (heard len next ws) f))
  stopped-move due w ws rest (Err Format) e f =
      let n : 30 ≡ i = cc in let p : w.place ≡ at = cc in at-word [] w ws due refl here e (sym n) (sym p)
  stopped-move due w ws rest (Err OtherKind) e f =
      let n : 31 ≡ i = cc in let p : w.place ≡ at = cc in at-type [] w ws due refl here e (sym n) (sym p)

  stopped-end : (due : Due) (b : Bool) → whole due ≡ b → ifb b (says nothing_more) (wrong 30 len) ≡ wrong i at → Stopped len due [] i at
  unfolding ifb
  stopped-end due true e f = apart cc
  stopped-end due false e f =
      let n : 30 ≡ i = cc in let p : len ≡ at = cc in at-end due here e (sym n) (sym p)

  pub wrong-stopped : (due : Due) (ws : List Word) → heard len due ws ≡ wrong i at → Stopped len due ws i at
  unfolding heard
  wrong-stopped due [] e = stopped-end due (whole due) refl e
  wrong-stopped due (w ∷ ws) e = stopped-move due w ws (λ next f. wrong-stopped next ws f) (move_of due w.bytes) refl e

-- ---- every due can be completed

pub record Completed (due : Due) : Type 0 where
  pub words : List Word
  pub part : Part
  pub heard-so : (len : ℕ) → heard len due words ≡ says part

abbrev word : List ℕ → Word
word l = record { place = 0; bytes = l }

abbrev zero_word : Word
zero_word = word (48 ∷ [])

abbrev one_word : Word
one_word = word (49 ∷ [])

abbrev plus_sign : Word
plus_sign = word (66 ∷ (43 ∷ []))

abbrev minus_sign : Word
minus_sign = word (66 ∷ (45 ∷ []))

zero-read : number_in zero_word.bytes ≡ Some 0
unfolding value_from if_lt ifb
zero-read = refl

one-read : number_in one_word.bytes ≡ Some 1
unfolding value_from if_lt ifb
one-read = refl

completed-by : {due next : Due} {said : Said} (w : Word) → move_of due w.bytes ≡ Ok (next, said) → Completed next → Completed due
completed-by {due} {next} {said} w m c = record {
  words = w ∷ c.words;
  part = with w said c.part;
  heard-so = λ len. heard-one len w c.words due next said c.part (with w said c.part) m (c.heard-so len) refl;
}

-- a list's end, a rule's atom
ends-list : (role : Role) (end next : Due) (said : Said) → on_number role 0 ≡ on_listed 0 end next said → move_of (Number role) zero_word.bytes ≡ Ok (end, Silent)
unfolding on_listed
ends-list role end next said e = number-move zero_word role 0 zero-read ∙ e ∙ eq_yes _ _ _ _ refl

closes-rules : move_of (Number Kind) zero_word.bytes ≡ Ok ((Number Table), Silent)
unfolding on_number on_kind
closes-rules = number-move zero_word Kind 0 zero-read ∙ eq_yes _ _ _ _ refl

-- words that close the text and say nothing
pub record Closes (due : Due) (ws : List Word) : Type 0 where
  pub heard-so : (len : ℕ) → heard len due ws ≡ says nothing_more

end-closed : Closes End []
unfolding heard whole ifb
end-closed = record { heard-so = λ len. refl }

closed-by : {due next : Due} {w : Word} {ws : List Word} → move_of due w.bytes ≡ Ok (next, Silent) → Closes next ws → Closes due (w ∷ ws)
unfolding with
closed-by {due} {next} {w} {ws} m c =
    record { heard-so = λ len. heard-one len w ws due next Silent nothing_more nothing_more m (c.heard-so len) refl }

abbrev behind_plus : List Word
behind_plus = zero_word ∷ (minus_sign ∷ (zero_word ∷ (zero_word ∷ [])))

abbrev pub closing : List Word
closing = zero_word ∷ (zero_word ∷ (plus_sign ∷ behind_plus))

models-closed : Closes (Number Models) (zero_word ∷ [])
unfolding on_number
models-closed = closed-by (number-move zero_word Models 0 zero-read) end-closed

minus-closed : Closes (Number Minus) (zero_word ∷ (zero_word ∷ []))
unfolding on_number
minus-closed = closed-by (ends-list Minus _ _ _ refl) models-closed

minus-word-closed : Closes MinusWord (minus_sign ∷ (zero_word ∷ (zero_word ∷ [])))
unfolding move_of on_sign
minus-word-closed = closed-by (b-yes _ _ _ (sign-move (66 ∷ (45 ∷ [])) 45 refl)) minus-closed

plus-closed : Closes (Number Plus) behind_plus
unfolding on_number
plus-closed = closed-by (ends-list Plus _ _ _ refl) minus-word-closed

plus-word-closed : Closes PlusWord (plus_sign ∷ behind_plus)
unfolding move_of on_sign
plus-word-closed = closed-by (b-yes _ _ _ (sign-move (66 ∷ (43 ∷ [])) 43 refl)) plus-closed

table-closed : Closes (Number Table) (zero_word ∷ (plus_sign ∷ behind_plus))
unfolding on_number
table-closed = closed-by (ends-list Table _ _ _ refl) plus-word-closed

pub rules-closed : Closes (Number Kind) closing
rules-closed = closed-by closes-rules table-closed

completed-of : {due : Due} {ws : List Word} → Closes due ws → Completed due
completed-of {ws = ws} c = record { words = ws; part = nothing_more; heard-so = c.heard-so }

-- what is due in a body
pub body-none : body_of 0 0 ≡ Kind
unfolding body_of
body-none = eq_yes _ _ _ _ refl ∙ eq_yes _ _ _ _ refl

pub body-positive : (j : ℕ) → body_of 0 (suc j) ≡ Positive j
unfolding body_of
body-positive j =
    let e : suc j - 1 ≡ j = omega arith in eq_yes _ _ _ _ refl ∙ eq_no _ _ _ _ (λ z. omega arith) ∙ ap Positive e

pub body-negative : (i j : ℕ) → body_of (suc i) j ≡ Negative i j
unfolding body_of
body-negative i j = let e : suc i - 1 ≡ i = omega arith in eq_no _ _ _ _ (λ z. omega arith) ∙ ap (λ n. Negative n j) e

completed-body : (i j : ℕ) → Completed (Number (body_of i j))
unfolding on_number
completed-body zero zero = rw body-none (completed-of rules-closed)
completed-body zero (suc j) = rw (body-positive j)
    (completed-by one_word (atom-move one_word (Positive j) (body_of 0 j) InPositive 1 refl (λ z. omega arith) one-read) (completed-body zero j))
completed-body (suc i) j = rw (body-negative i j)
    (completed-by one_word (atom-move one_word (Negative i j) (body_of i j) InNegative 1 refl (λ z. omega arith) one-read) (completed-body i j))

completed-negatives : (n : ℕ) → Completed (Number (Negatives n))
unfolding on_number on_negatives
completed-negatives n =
    completed-by zero_word (number-move zero_word (Negatives n) 0 zero-read ∙ lt_no _ _ _ _ (omega arith)) (completed-body 0 _)

completed-literals : Completed (Number Literals)
unfolding on_number
completed-literals = completed-by zero_word (number-move zero_word Literals 0 zero-read) (completed-negatives 0)

pub heads-none : heads_of 0 ≡ Literals
unfolding heads_of
heads-none = eq_yes _ _ _ _ refl

pub heads-some : (n : ℕ) → heads_of (suc n) ≡ Heads n
unfolding heads_of
heads-some n = let e : suc n - 1 ≡ n = omega arith in eq_no _ _ _ _ (λ z. omega arith) ∙ ap Heads e

completed-heads : (n : ℕ) → Completed (Number (heads_of n))
unfolding on_number
completed-heads zero = rw heads-none completed-literals
completed-heads (suc n) = rw (heads-some n)
    (completed-by one_word (atom-move one_word (Heads n) (heads_of n) InFree 1 refl (λ z. omega arith) one-read) (completed-heads n))

completed-head-count : Completed (Number HeadCount)
unfolding on_number on_head_count
completed-head-count =
    completed-by one_word (number-move one_word HeadCount 1 one-read ∙ eq_no _ _ _ _ (λ z. omega arith)) (completed-heads 1)

completed-head : Completed (Number Head)
unfolding on_number
completed-head = completed-by one_word (atom-move one_word Head Literals InHead 1 refl (λ z. omega arith) one-read) completed-literals

completed-role : (role : Role) → Completed (Number role)
completed-role Kind = completed-of rules-closed
completed-role Head = completed-head
completed-role HeadCount = completed-head-count
completed-role (Heads n) = rw (heads-some n) at (completed-heads (suc n))
completed-role Literals = completed-literals
completed-role (Negatives n) = completed-negatives n
completed-role (Negative i j) = rw (body-negative i j) at (completed-body (suc i) j)
completed-role (Positive j) = rw (body-positive j) at (completed-body 0 (suc j))
completed-role Table = completed-of table-closed
completed-role Plus = completed-of plus-closed
completed-role Minus = completed-of minus-closed
completed-role Models = completed-of models-closed

pub completed : (due : Due) → Completed due
unfolding move_of
completed (Number role) = completed-role role
completed (Name a) = completed-by zero_word refl (completed-of table-closed)
completed PlusWord = completed-of plus-word-closed
completed MinusWord = completed-of minus-word-closed
completed End = completed-of end-closed
