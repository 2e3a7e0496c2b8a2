-- 30, 31 and 32 are told exactly where their rows say so (specs/Rows), nothing is written then, and else the book is handed over.
use mathlib.Core.Path.{◌≡◌, refl, ap, sym, ◌∙◌}
use mathlib.Core.Logic.{◌⊎◌, inl, inr, ⊎_elim, ◌↔◌}
use mathlib.Core.Bool.{Bool, true, false}
use mathlib.Core.List.{List, [], ◌∷◌, ◌++◌, append-nil}
use Prim.Native.Nat.{ℕ, ◌<◌, ◌≤◌}
use native.Mathlib.Omega.{arith}
use lib.ListN.{length}
use Rattle.std.specs.Prelude.{Option, Some, None, Ok, Err}
use Rattle.meaning.specs.Choice.{ifb}
use Rattle.meaning.specs.Books.{Book}
use Rattle.meaning.specs.Told.{success, refused_at, refused}
use Rattle.meaning.proofs.Tests.{true-and-false, apart}
use Rattle.meaning.proofs.Choice.{b-yes, b-either, lt_no, lt-either, eq-either, eq_no}
use Rattle.book.specs.Writing.{bytes_of_book}
use Rattle.imported.specs.Making.{made_book, fits_in}
use Rattle.lparse.specs.declared.due.Role.{Role}
use Rattle.lparse.specs.declared.due.Role.TheVariants.{Kind, Head, HeadCount, Heads, Literals, Negatives, Negative, Positive, Table, Plus, Minus, Models}
use Rattle.lparse.specs.declared.due.Due.{Due}
use Rattle.lparse.specs.declared.due.Due.TheVariants.{Number, Name, PlusWord, MinusWord, End}
use Rattle.lparse.specs.declared.due.Misplaced.TheVariants.{Format, Kind as OtherKind}
use Rattle.lparse.specs.Words.{Word, words}
use Rattle.lparse.specs.Reading.{Move, on_kind, on_atom, on_listed, on_head_count, on_negatives, on_number, number_in, on_value, signed, on_sign, move_of, whole, nothing_more, Heard, says, wrong, on_move, heard, heard_at}
use Rattle.lparse.specs.Collect.{text_in, text_of}
use Rattle.lparse.specs.Says.{Written, text_said, Says}
use Rattle.lparse.specs.Import.{laid_of, hand_laid, book_given, import_heard, import_of}
use Rattle.lparse.specs.Rows.{Begins, OtherType, AnotherType, WrongWord, Missing, NotInFormat, TooLarge, Fitting}
use Rattle.lparse.proofs.Tokens.{number-move}
use Rattle.lparse.proofs.Importing.{laid-within}
use Rattle.lparse.proofs.SaidText.{written, heard_as, read-words, words-read, read-says, says-read}
use Rattle.lparse.proofs.Walked.{Walked, walked_one, walked-last, walked-parted, walked-says, walked-wrong, says-walked, Stopped, at-word, at-type, at-end, wrong-stopped, completed}
use Rattle.lparse.proofs.RulesWalked.{rules-walked, walked-rules}

abbrev kind : Due
kind = Number Kind

-- ---- a beginning is what can be read

walked-begins : {ws : List Word} {end : Due} → Walked kind ws end → Begins ws
walked-begins {ws} {end} k =
    let c = completed end in
    let (q, e) = walked-says 0 c.words k c.part (c.heard-so 0) in
    (c.words, written q, read-words 0 (ws ++ c.words) q e)

begins-walked : {ws : List Word} → Begins ws → (end : Due) × Walked kind ws end
begins-walked {ws} (more, t, s) = says-walked 0 kind ws more (heard_as t) (words-read 0 (ws ++ more) t s)

-- ---- another rule type is told only where a type is due

unfoldable Other : Due → List ℕ → Move → Type 0
Other due l (Ok (next, said)) = Unit {0}
Other due l (Err Format) = Unit {0}
Other due l (Err OtherKind) = (due ≡ kind) × ((n : ℕ) × (number_in l ≡ Some n) × (n ≡ 0 → ⊥) × (n ≡ 1 → ⊥) × (n ≡ 3 → ⊥))

module _ (l : List ℕ) where
  other-number : (role : Role) (n : ℕ) → number_in l ≡ Some n → Other (Number role) l (on_number role n)
  unfolding Other on_number on_kind on_atom on_listed on_head_count on_negatives
  other-number Kind n v =
      eq-either (Other kind l) n 0 _ _ (λ e. tt) (λ e. eq-either (Other kind l) n 1 _ _ (λ f. tt)
      (λ f. eq-either (Other kind l) n 3 _ _ (λ g. tt) (λ g. (refl, (n, v, e, f, g)))))
  other-number Head n v = eq-either (Other (Number Head) l) n 0 _ _ (λ e. tt) (λ e. tt)
  other-number HeadCount n v = eq-either (Other (Number HeadCount) l) n 0 _ _ (λ e. tt) (λ e. tt)
  other-number (Heads m) n v = eq-either (Other (Number (Heads m)) l) n 0 _ _ (λ e. tt) (λ e. tt)
  other-number Literals n v = tt
  other-number (Negatives m) n v = lt-either (Other (Number (Negatives m)) l) m n _ _ (λ e. tt) (λ e. tt)
  other-number (Negative i j) n v = eq-either (Other (Number (Negative i j)) l) n 0 _ _ (λ e. tt) (λ e. tt)
  other-number (Positive j) n v = eq-either (Other (Number (Positive j)) l) n 0 _ _ (λ e. tt) (λ e. tt)
  other-number Table n v = eq-either (Other (Number Table) l) n 0 _ _ (λ e. tt) (λ e. tt)
  other-number Plus n v = eq-either (Other (Number Plus) l) n 0 _ _ (λ e. tt) (λ e. tt)
  other-number Minus n v = eq-either (Other (Number Minus) l) n 0 _ _ (λ e. tt) (λ e. tt)
  other-number Models n v = tt

  other-value : (role : Role) (d : Option ℕ) → number_in l ≡ d → Other (Number role) l (on_value role d)
  unfolding Other on_value
  other-value role (Some n) v = other-number role n v
  other-value role None v = tt

  other : (due : Due) → Other due l (move_of due l)
  unfolding Other move_of on_sign
  other (Number role) = other-value role (number_in l) refl
  other (Name a) = tt
  other PlusWord = b-either (Other PlusWord l) (signed l 43) _ _ (λ e. tt) (λ e. tt)
  other MinusWord = b-either (Other MinusWord l) (signed l 45) _ _ (λ e. tt) (λ e. tt)
  other End = tt

other-told : {ws : List Word} {w : Word} {end : Due} → Walked kind ws end → move_of end w.bytes ≡ Err OtherKind → OtherType ws w
unfolding Other
other-told {ws} {w} {end} k m =
    let (e, (n, v, zero, one, three)) = rw m at (other w.bytes end) in
    record { behind = walked-rules ws (rw e at k); number = n; read = v; not-closing = zero; not-basic = one; not-choice = three }

other-move : {ws : List Word} {w : Word} → OtherType ws w → Walked kind ws kind × (move_of kind w.bytes ≡ Err OtherKind)
unfolding on_number on_kind
other-move {ws} {w} o =
    (rules-walked ws o.behind, number-move w Kind o.number o.read ∙ eq_no _ _ _ _ o.not-closing ∙ eq_no _ _ _ _ o.not-basic ∙ eq_no _ _ _ _ o.not-choice)

-- ---- what is heard of a text that is refused

module _ (s : List ℕ) (at : ℕ) where
  abbrev Refused : ℕ → Type 0
  Refused i = text_in s ≡ wrong i at

  type-heard : AnotherType s at → Refused 31
  unfolding heard_at heard on_move
  type-heard t =
      let (k, m) = other-move t.other in
      let after = t.stands.after in
      let e : heard (length s) kind (t.word ∷ after) ≡ wrong 31 at = rw (m, t.stands.place) in
      ap (heard (length s) kind) t.stands.parted ∙ walked-wrong (length s) (t.word ∷ after) k 31 at e

  heard-type : Refused 31 → AnotherType s at
  unfolding heard_at
  heard-type e = go (wrong-stopped (length s) 31 at kind (words s) e)
    where
      go : Stopped (length s) kind (words s) 31 at → AnotherType s at
      go (at-word before w after end p k m n q) = apart (omega (arith, n))
      go (at-type before w after end p k m n q) =
          record { before = before; word = w; stands = record { after = after; parted = p; place = q }; other = other-told k m }
      go (at-end end k m n q) = apart (omega (arith, n))

  heard-format : Refused 30 → NotInFormat s at
  unfolding heard_at
  heard-format e = go (wrong-stopped (length s) 30 at kind (words s) e)
    where
      go : Stopped (length s) kind (words s) 30 at → NotInFormat s at
      go (at-type before w after end p k m n q) = apart (omega (arith, n))
      go (at-word before w after end p k m n q) = inl (record {
        before = before;
        word = w;
        stands = record { after = after; parted = p; place = q };
        begins = walked-begins k;
        no-beginning = λ b.
            let (to, r) = begins-walked b in
            let (mid, said, h, g) = walked-parted before w r in
            let z = walked_one h k in
            let f : Ok (to, said) ≡ Err Format = sym g ∙ ap (λ d. move_of d w.bytes) z ∙ m in apart cc;
        no-type = λ o.
            let (h, g) = other-move o in
            let f : Err OtherKind ≡ Err Format = sym g ∙ ap (λ d. move_of d w.bytes) (walked_one h k) ∙ m in apart cc;
      })
      go (at-end end k m n q) = inr (record {
        place = q;
        begins = walked-begins k;
        no_text = λ t says. let f = sym e ∙ says-read s t says in apart cc;
      })

  word-heard : WrongWord s at → Refused 30
  unfolding heard_at heard on_move
  word-heard t =
      let (end, k) = begins-walked t.begins in
      let after = t.stands.after in
      let e : heard (length s) end (t.word ∷ after) ≡ wrong 30 at = go end k (move_of end t.word.bytes) refl in
      ap (heard (length s) kind) t.stands.parted ∙ walked-wrong (length s) (t.word ∷ after) k 30 at e
    where
      go : (end : Due) → Walked kind t.before end → (m : Move) → move_of end t.word.bytes ≡ m
          → on_move m t.word (λ next. heard (length s) next t.stands.after) ≡ wrong 30 at
      go end k (Ok (next, said)) m = absurd (t.no-beginning (walked-begins (walked-last t.word m k)))
      go end k (Err Format) m = rw t.stands.place
      go end k (Err OtherKind) m = absurd (t.no-type (other-told k m))

  missing-heard : Missing s at → Refused 30
  unfolding heard_at heard ifb
  missing-heard t =
      let (end, k) = begins-walked t.begins in
      rw append-nil at (walked-wrong (length s) [] k 30 at (go end k (whole end) refl))
    where
      go : (end : Due) → Walked kind (words s) end → (b : Bool) → whole end ≡ b → ifb b (says nothing_more) (wrong 30 (length s)) ≡ wrong 30 at
      go end k false e = rw t.place
      go end k true e =
          let (q, f) = walked-says (length s) [] k nothing_more (b-yes _ _ _ e) in
          absurd (t.no_text (written q) (read-says s q (rw append-nil at f)))

-- ---- what is told

module _ (b : Book) (out : List ℕ) where
  laid-no-place : (x : Option ℕ) {i at : ℕ} → (hand_laid x b out).told ≡ refused_at i at → ⊥
  unfolding hand_laid
  laid-no-place (Some n) e = apart cc
  laid-no-place None e = apart cc

  laid-refused : (x : Option ℕ) → (hand_laid x b out).told ≡ refused 32 → x ≡ None
  unfolding hand_laid
  laid-refused (Some n) e = apart cc
  laid-refused None e = refl

  laid-keeps : (x : Option ℕ) → ((n : ℕ) → (hand_laid x b out).told ≡ success n → ⊥) → (hand_laid x b out).buffer ≡ out
  unfolding hand_laid
  laid-keeps (Some n) f = absurd (f n refl)
  laid-keeps None f = refl

  laid-success : (x : Option ℕ) {n : ℕ} → (hand_laid x b out).told ≡ success n → x ≡ Some n
  unfolding hand_laid
  laid-success (Some m) e = cc
  laid-success None e = apart cc

  short-large : laid_of b (length out) ≡ None → (fits_in b ≡ false) ⊎ (length out < length (bytes_of_book b))
  unfolding laid_of
  short-large = b-either P (fits_in b) _ _ (λ f. lt-either P _ _ _ _ (λ k e. inr k) (λ k e. apart cc)) (λ f e. inl f)
    where
      P : Option ℕ → Type 0
      P x = x ≡ None → (fits_in b ≡ false) ⊎ (length out < length (bytes_of_book b))

  large-short : (fits_in b ≡ false) ⊎ (length out < length (bytes_of_book b)) → laid_of b (length out) ≡ None
  unfolding laid_of
  large-short h = b-either (λ x. x ≡ None) (fits_in b) _ _
      (λ f. lt-either (λ x. x ≡ None) _ _ _ _ (λ k. refl) (λ k. absurd (⊎_elim (λ g. true-and-false f g) (λ g. omega arith) h))) (λ f. refl)

  within-laid : fits_in b ≡ true → length (bytes_of_book b) ≤ length out → laid_of b (length out) ≡ Some (length (bytes_of_book b))
  unfolding laid_of
  within-laid e h = b-yes _ _ _ e ∙ lt_no _ _ _ _ h

module _ (s out : List ℕ) where
  told-heard : (h : Heard) {i at : ℕ} → (import_heard h out).told ≡ refused_at i at → h ≡ wrong i at
  unfolding import_heard
  told-heard (says p) e = absurd (laid-no-place (made_book (text_of p)) out _ e)
  told-heard (wrong j to) e = cc

  heard-told : {i at : ℕ} → text_in s ≡ wrong i at → (import_of s out).told ≡ refused_at i at
  unfolding import_heard
  heard-told e = rw e

  pub refused-30 : (at : ℕ) → ((import_of s out).told ≡ refused_at 30 at) ↔ NotInFormat s at
  refused-30 at = (
    λ e. heard-format s at (told-heard (text_in s) e),
    λ r. heard-told (⊎_elim (word-heard s at) (missing-heard s at) r),
  )

  pub refused-31 : (at : ℕ) → ((import_of s out).told ≡ refused_at 31 at) ↔ AnotherType s at
  refused-31 at = (λ e. heard-type s at (told-heard (text_in s) e), λ r. heard-told (type-heard s at r))

  -- no other number has a place
  pub refused-place : (i at : ℕ) → (import_of s out).told ≡ refused_at i at → (i ≡ 30) ⊎ (i ≡ 31)
  unfolding heard_at
  refused-place i at e = go (wrong-stopped (length s) i at kind (words s) (told-heard (text_in s) e))
    where
      go : Stopped (length s) kind (words s) i at → (i ≡ 30) ⊎ (i ≡ 31)
      go (at-word before w after end p k m n q) = inl n
      go (at-type before w after end p k m n q) = inr n
      go (at-end end k m n q) = inl n

  told-large : (h : Heard) → text_in s ≡ h → (import_heard h out).told ≡ refused 32 → TooLarge s out
  unfolding import_heard
  told-large (says p) k e = record {
    text = written p;
    says = read-says s p k;
    large = short-large (made_book (text_of p)) out (laid-refused (made_book (text_of p)) out _ e);
  }
  told-large (wrong i at) k e = apart cc

  pub refused-32 : ((import_of s out).told ≡ refused 32) ↔ TooLarge s out
  unfolding import_heard hand_laid
  refused-32 = (
    told-large (text_in s) refl,
    λ t. rw (says-read s t.text t.says, large-short (made_book (text_said t.text)) out t.large),
  )

  keeps-heard : (h : Heard) → ((n : ℕ) → (import_heard h out).told ≡ success n → ⊥) → (import_heard h out).buffer ≡ out
  unfolding import_heard
  keeps-heard (says p) f = laid-keeps (made_book (text_of p)) out _ f
  keeps-heard (wrong i at) f = refl

  -- nothing is written on a refusal
  pub import-keeps : ((n : ℕ) → (import_of s out).told ≡ success n → ⊥) → (import_of s out).buffer ≡ out
  import-keeps = keeps-heard (text_in s)

  -- a text whose book fits: the bytes of the book, and the later bytes kept
  pub import-given : (t : Written) → Says s t → fits_in (made_book (text_said t)) ≡ true
      → length (bytes_of_book (made_book (text_said t))) ≤ length out → import_of s out ≡ book_given (made_book (text_said t)) out
  unfolding import_heard hand_laid
  import-given t h fit room = rw (says-read s t h, within-laid (made_book (text_said t)) out fit room)

  made-heard : (h : Heard) → text_in s ≡ h → {n : ℕ} → (import_heard h out).told ≡ success n → Fitting s out n
  unfolding import_heard
  made-heard (wrong i at) k e = apart cc
  made-heard (says p) k e =
      let (f, size, room) = laid-within (made_book (text_of p)) (length out) (laid-success (made_book (text_of p)) out _ e) in
      record { text = written p; says = read-says s p k; fits = f; size = size; room = room }

  -- and only of such a text a book is told
  pub import-made : {n : ℕ} → (import_of s out).told ≡ success n → Fitting s out n
  import-made e = made-heard (text_in s) refl e
