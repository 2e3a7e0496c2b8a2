-- The memory of readings that count (specs/Search, Kept): a reading that matches one of them counts exactly if it is the same; and a row
-- more is kept beside the others.
use mathlib.Core.Path.{◌≡◌, refl, sym, ◌∙◌, ap, subst, fun_ext}
use mathlib.Core.Logic.{⊎_elim}
use mathlib.Core.Bool.{Bool, true}
use mathlib.Core.List.{List, [], ◌∷◌, Memᴰ}
use Prim.Native.Nat.{ℕ, ◌+◌, ◌*◌, ◌/◌, ◌≤◌, ◌<◌}
use native.Mathlib.Omega.{arith}
use lib.ListN.{length, get_or, set, length-set}
use lib.Seq.{get_or-set_same, get_or-set_other}
use Rattle.meaning.specs.declared.AtomNo.{AtomNo}
use Rattle.meaning.specs.Sets.{Set, every_below}
use Rattle.meaning.specs.Books.{Atoms, Book, count}
use Rattle.meaning.specs.AnswerSet.{AnswerSet, generating}
use Rattle.meaning.specs.Bits.{members, listed}
use Rattle.meaning.specs.Choice.{agree}
use Rattle.meaning.specs.Colours.{heads}
use Rattle.meaning.specs.Written.{of}
use Rattle.meaning.proofs.Tests.{same, lt-or-le}
use Rattle.meaning.proofs.Choice.{lt_yes, lt_no}
use Rattle.book.specs.RuleRows.{row}
use Rattle.walk.specs.Shown.{alike}
use Rattle.walk.specs.FirstAlike.{same_reading, fresh}
use Rattle.walk.specs.Search.{Generated, KeptOne, Kept, Remembers}
use Rattle.walk.specs.Memory.{stored, kept_at}
use Rattle.walk.proofs.Order.{before-or-agree}
use Rattle.walk.proofs.Alike.{alike_all, alike-sym, same-reading, same-reading-refl}
use Rattle.walk.proofs.Fresh.{fresh-first}
use Rattle.walk.proofs.Searching.{same-words}

-- ---- a reading that matches one that counts

module _ (b : Book) (fits : count b ≤ 255) (s : List AtomNo) where
  -- both would be the first
  pub fresh-only : (x y : Atoms) → AnswerSet b x → AnswerSet b y → fresh b s y ≡ true → alike s x y ≡ true → fresh b s x ≡ same_reading b x y
  fresh-only x y p q t e = same _ _
      (λ u. subst (λ (v : Atoms). same_reading b x v ≡ true) (equal u) (same-reading-refl b x))
      (λ u. subst (λ (v : Atoms). fresh b s v ≡ true) (sym (same-reading b x y p q u)) t)
    where
      equal : fresh b s x ≡ true → x ≡ y
      equal u = ⊎_elim fun_ext (λ h. absurd (⊎_elim
          (λ o. fresh-first b fits s y q t x p (alike-sym s x y e) o) (λ o. fresh-first b fits s x p u y q e o) h))
          (before-or-agree b x y p q)

  pub known-first : {part on : List ℕ} → KeptOne b s part on → (here mine : List ℕ) → members part ≡ members here
      → ((a : AtomNo) → Memᴰ a s → members here a.0 ≡ heads b (of (listed mine)) a) → Generated b (listed mine)
      → {n : ℕ} → count b ≡ n → {x : Bool} → x ≡ every_below n (λ i. agree (members mine i) (members on i))
      → x ≡ fresh b s (heads b (of (listed mine)))
  unfolding same_reading
  known-first {on = on} k here mine e f g q z =
      let y = heads b (of (listed mine)) in
      z ∙ sym (fresh-only y k.reading g.answer k.answer k.counts
      (alike_all s y k.reading (λ a m. sym (f a m) ∙ sym (ap (λ (u : Set ℕ). u a.0) e) ∙ sym (k.shows a m)))
      ∙ same-words b (generating b y) (generating b k.reading) mine on q g.rules k.rules)

-- ---- the rows of the memory

four-words : (w : List ℕ) → length w ≡ 4 → get_or w 0 0 ∷ (get_or w 1 0 ∷ (get_or w 2 0 ∷ (get_or w 3 0 ∷ []))) ≡ w
four-words [] e = absurd (omega arith)
four-words (x ∷ []) e = absurd (omega arith)
four-words (x ∷ (y ∷ [])) e = absurd (omega arith)
four-words (x ∷ (y ∷ (z ∷ []))) e = absurd (omega arith)
four-words (x ∷ (y ∷ (z ∷ (u ∷ [])))) e = refl
four-words (x ∷ (y ∷ (z ∷ (u ∷ (v ∷ l))))) e = absurd (omega arith)

module _ (k : ℕ) (w seen : List ℕ) where
  abbrev first : List ℕ
  first = set seen (k * 4) (get_or w 0 0)

  abbrev second : List ℕ
  second = set first (k * 4 + 1) (get_or w 1 0)

  abbrev third : List ℕ
  third = set second (k * 4 + 2) (get_or w 2 0)

  pub stored-length : length (stored k w seen) ≡ length seen
  unfolding stored
  stored-length =
      length-set third (k * 4 + 3) (get_or w 3 0) ∙ length-set second (k * 4 + 2) (get_or w 2 0)
      ∙ length-set first (k * 4 + 1) (get_or w 1 0) ∙ length-set seen (k * 4) (get_or w 0 0)

  -- a place that is none of the four
  stored_other : (i : ℕ) → (i ≡ k * 4 → ⊥) → (i ≡ k * 4 + 1 → ⊥) → (i ≡ k * 4 + 2 → ⊥) → (i ≡ k * 4 + 3 → ⊥)
      → get_or (stored k w seen) i 0 ≡ get_or seen i 0
  unfolding stored
  stored_other i a c d e =
      get_or-set_other third (k * 4 + 3) i _ 0 e ∙ get_or-set_other second (k * 4 + 2) i _ 0 d
      ∙ get_or-set_other first (k * 4 + 1) i _ 0 c ∙ get_or-set_other seen (k * 4) i _ 0 a

  pub row_other : (j : ℕ) → (j ≡ k → ⊥) → row (stored k w seen) j ≡ row seen j
  unfolding row
  row_other j n =
      let p = at 0 (omega arith) in let q = at 1 (omega arith) in let r = at 2 (omega arith) in let u = at 3 (omega arith) in
      λ i. first-place i ∷ (q i ∷ (r i ∷ (u i ∷ [])))
    where
      at : (m : ℕ) → m < 4 → get_or (stored k w seen) (j * 4 + m) 0 ≡ get_or seen (j * 4 + m) 0
      at m l = stored_other (j * 4 + m) (λ z. n (omega arith)) (λ z. n (omega arith)) (λ z. n (omega arith)) (λ z. n (omega arith))

      first-place : get_or (stored k w seen) (j * 4) 0 ≡ get_or seen (j * 4) 0
      first-place = stored_other (j * 4) (λ z. n (omega arith)) (λ z. n (omega arith)) (λ z. n (omega arith)) (λ z. n (omega arith))

  pub row-stored : length w ≡ 4 → k * 4 + 4 ≤ length seen → row (stored k w seen) k ≡ w
  unfolding row stored
  row-stored e h =
      let l1 = length-set seen (k * 4) (get_or w 0 0) in
      let l2 = length-set first (k * 4 + 1) (get_or w 1 0) in
      let l3 = length-set second (k * 4 + 2) (get_or w 2 0) in
      let p = get_or-set_other third (k * 4 + 3) (k * 4) (get_or w 3 0) 0 (λ z. omega arith)
      ∙ get_or-set_other second (k * 4 + 2) (k * 4) (get_or w 2 0) 0 (λ z. omega arith)
      ∙ get_or-set_other first (k * 4 + 1) (k * 4) (get_or w 1 0) 0 (λ z. omega arith)
      ∙ get_or-set_same seen (k * 4) (get_or w 0 0) 0 (omega arith) in
      let q = get_or-set_other third (k * 4 + 3) (k * 4 + 1) (get_or w 3 0) 0 (λ z. omega arith)
      ∙ get_or-set_other second (k * 4 + 2) (k * 4 + 1) (get_or w 2 0) 0 (λ z. omega arith)
      ∙ get_or-set_same first (k * 4 + 1) (get_or w 1 0) 0 (omega (arith, l1)) in
      let r = get_or-set_other third (k * 4 + 3) (k * 4 + 2) (get_or w 3 0) 0 (λ z. omega arith)
      ∙ get_or-set_same second (k * 4 + 2) (get_or w 2 0) 0 (omega (arith, l1, l2)) in
      let u = get_or-set_same third (k * 4 + 3) (get_or w 3 0) 0 (omega (arith, l1, l2, l3)) in
      (λ i. p i ∷ (q i ∷ (r i ∷ (u i ∷ [])))) ∙ four-words w e

-- ---- one row more

module _ (b : Book) (s : List AtomNo) (seen : List ℕ) (n : ℕ) (kept : Kept b s seen n) where
  module _ (part on : List ℕ) (lp : length part ≡ 4) (lo : length on ≡ 4) (one : KeptOne b s part on) where
    module _ (room : n < length seen / 8) where
      abbrev half : List ℕ
      half = stored (n * 2) part seen

      abbrev more : List ℕ
      more = stored (n * 2 + 1) on half

      here : KeptOne b s (row more (n * 2)) (row more (n * 2 + 1))
      here =
          let p = row_other (n * 2 + 1) on half (n * 2) (λ z. omega arith) ∙ row-stored (n * 2) part seen lp (omega arith) in
          let q = row-stored (n * 2 + 1) on half lo (omega (arith, stored-length (n * 2) part seen)) in
          rw (p, q) one

      earlier : (k : ℕ) → k < n → k < length seen / 8 → KeptOne b s (row more (k * 2)) (row more (k * 2 + 1))
      earlier k h l =
          let p = row_other (n * 2 + 1) on half (k * 2) (λ z. omega arith) ∙ row_other (n * 2) part seen (k * 2) (λ z. omega arith) in
          let q = row_other (n * 2 + 1) on half (k * 2 + 1) (λ z. omega arith) ∙ row_other (n * 2) part seen (k * 2 + 1) (λ z. omega arith) in
          rw (p, q) (kept k h l)

      kept-stored : Kept b s more (n + 1)
      kept-stored k h l =
          let e = stored-length (n * 2 + 1) on half ∙ stored-length (n * 2) part seen in
          let l' : k < length seen / 8 = rw e at l in
          ⊎_elim (λ g. earlier k g l') (λ g. let z : k ≡ n = omega arith in rw z here) (lt-or-le k n)

    pub kept_more : {exit : List ℕ} → exit ≡ kept_at n part on seen → Kept b s exit (n + 1)
    unfolding kept_at
    kept_more e = ⊎_elim
        (λ h. subst (λ (l : List ℕ). Kept b s l (n + 1)) (sym (e ∙ lt_yes _ _ _ _ h)) (kept-stored h))
        (λ h. subst (λ (l : List ℕ). Kept b s l (n + 1)) (sym (e ∙ lt_no _ _ _ _ h)) (λ k g l. kept k (omega arith) l))
        (lt-or-le n (length seen / 8))

pub remembers-at : {every : Bool} {b : Book} {s : List AtomNo} {seen : List ℕ} {n m : ℕ} → m ≡ n → Remembers every b s seen n
    → Remembers every b s seen m
remembers-at e k = rw e k
