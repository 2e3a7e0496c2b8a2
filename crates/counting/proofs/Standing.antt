-- A count over the list of all readings tells by itself whether an atom is in each, in some but not all, or in none (request 13, Q2). A
-- count is above 0 just where a member holds the atom, and below the length just where a member lacks it.
use Rattle.std.proofs.Common.{◌≡◌, suc, ◌+◌, ◌<◌, ◌≤◌, ◌↔◌, List, [], ◌∷◌, ◌++◌, length, sym, refl, ◌∙◌, ⊎_elim, eq-or-lt_of_le, arith}
use mathlib.Core.List.Memᴰ
use mathlib.Core.List.{Memᴰ}
use borrow.Author.Tests.{not-true}
use Rattle.meaning.specs.declared.AtomNo.{AtomNo}
use Rattle.meaning.specs.Sets.{◌∈◌, ◌∉◌}
use Rattle.meaning.specs.Books.{Atoms, Book}
use Rattle.meaning.specs.AnswerSet.{AnswerSet, Certain, Clear}
use Rattle.meaning.specs.Choice.{ifb}
use Rattle.meaning.proofs.Tests.{decided, true-and-false, refuted, proved, lt-or-le}
use Rattle.meaning.proofs.Choice.{b-either}
use Rattle.walk.specs.Readings.{AllReadings}
use Rattle.counting.specs.Counts.{standing, HasOne, InSome}

-- ---- the members of a list

module _ (a : AtomNo) where
  pub standing-at-most : (l : List Atoms) → standing a l ≤ length l
  unfolding standing
  standing-at-most [] = omega arith
  standing-at-most (x ∷ l) = let h = standing-at-most l in
      b-either (λ n. n ≤ suc (length l)) (x a) _ _ (λ e. omega arith) (λ e. omega arith)

  -- what a loop adds up, page by page
  pub standing-append : (l m : List Atoms) → standing a (l ++ m) ≡ standing a l + standing a m
  unfolding standing ifb
  standing-append [] m = omega arith
  standing-append (x ∷ l) m = let h = standing-append l m in ⊎_elim (λ e. rw e (omega arith)) (λ e. rw e (omega arith)) (decided (x a))

  pub holder-counts : (l : List Atoms) (x : Atoms) → Memᴰ x l → a ∈ x → 0 < standing a l
  unfolding standing ifb
  holder-counts [] x h e = elim h [ ]
  holder-counts (y ∷ l) x (Memᴰ.head p) e = rw (rw p at e) (omega arith)
  holder-counts (y ∷ l) x (Memᴰ.tail m) e =
      b-either (λ n. 0 < n) (y a) _ _ (λ q. omega arith) (λ q. holder-counts l x m e)

  pub holder-there : (l : List Atoms) → 0 < standing a l → (x : Atoms) × Memᴰ x l × (a ∈ x)
  unfolding standing ifb
  holder-there [] h = absurd (omega arith)
  holder-there (x ∷ l) h = ⊎_elim (λ e. (x, Memᴰ.head refl, e))
      (λ e. let (y, m, q) = holder-there l (rw e at h) in (y, Memᴰ.tail m, q)) (decided (x a))

  pub lacker-counts : (l : List Atoms) (x : Atoms) → Memᴰ x l → a ∉ x → standing a l < length l
  unfolding standing ifb
  lacker-counts [] x h e = elim h [ ]
  lacker-counts (y ∷ l) x (Memᴰ.head p) e = rw (rw p at e) (omega (arith, standing-at-most l))
  lacker-counts (y ∷ l) x (Memᴰ.tail m) e = let h = lacker-counts l x m e in
      b-either (λ n. n < suc (length l)) (y a) _ _ (λ q. omega arith) (λ q. omega arith)

  pub lacker-there : (l : List Atoms) → standing a l < length l → (x : Atoms) × Memᴰ x l × (a ∉ x)
  unfolding standing ifb
  lacker-there [] h = absurd (omega arith)
  lacker-there (x ∷ l) h = ⊎_elim
      (λ e. let k : suc (standing a l) < suc (length l) = rw e at h in
      let (y, m, q) = lacker-there l (omega arith) in (y, Memᴰ.tail m, q))
      (λ e. (x, Memᴰ.head refl, e)) (decided (x a))

-- ---- the list of all readings

pub has_one : (b : Book) (l : List Atoms) → AllReadings b l → HasOne b ↔ (0 < length l)
has_one b [] all = (λ (x, p). let (y, m, e) = all.complete x p in absurd (Memᴰ.not-nil m), λ h. absurd (omega arith))
has_one b (x ∷ l) all = (λ p. omega arith, λ h. (x, all.sound x (Memᴰ.head refl)))

module _ (b : Book) (a : AtomNo) (l : List Atoms) (all : AllReadings b l) where
  -- an answer set is as one of the list
  answer-holds : (x : Atoms) → AnswerSet b x → a ∈ x → 0 < standing a l
  answer-holds x p e = let (y, m, q) = all.complete x p in holder-counts a l y m (sym (q a) ∙ e)

  answer-lacks : (x : Atoms) → AnswerSet b x → a ∉ x → standing a l < length l
  answer-lacks x p e = let (y, m, q) = all.complete x p in lacker-counts a l y m (sym (q a) ∙ e)

  holding-answer : 0 < standing a l → (x : Atoms) × AnswerSet b x × (a ∈ x)
  holding-answer h = let (x, m, e) = holder-there a l h in (x, all.sound x m, e)

  lacking-answer : standing a l < length l → (x : Atoms) × AnswerSet b x × (a ∉ x)
  lacking-answer h = let (x, m, e) = lacker-there a l h in (x, all.sound x m, e)

  -- where the list is not empty, a count of 0 or of its length has a set beside it
  certain-answer : 0 < length l → standing a l ≡ length l → Certain b a
  certain-answer h e = let (x, p, m) = holding-answer (omega arith) in record {
    one = (x, p);
    each = λ y q. proved (λ n. let k = answer-lacks y q n in absurd (omega arith));
  }

  clear-answer : 0 < length l → standing a l ≡ 0 → Clear b a
  clear-answer h e = let (x, p, m) = lacking-answer (omega arith) in record {
    one = (x, p);
    each = λ y q. rw (refuted (λ n. let k = answer-holds y q n in absurd (omega arith)));
  }

  pub certain-all : 0 < length l → Certain b a ↔ (standing a l ≡ length l)
  certain-all h = (there, certain-answer h)
    where
      there : Certain b a → standing a l ≡ length l
      there c = ⊎_elim (λ e. e) (λ k. let (x, p, n) = lacking-answer k in true-and-false (c.each x p) n) (eq-or-lt_of_le (standing-at-most a l))

  pub some-between : InSome b a ↔ ((0 < standing a l) × (standing a l < length l))
  some-between = (
    λ s. (let (x, p, e) = s.holds in answer-holds x p e, let (x, p, e) = s.lacks in answer-lacks x p e),
    λ (h, k). record { holds = holding-answer h; lacks = lacking-answer k },
  )

  pub none-zero : 0 < length l → Clear b a ↔ (standing a l ≡ 0)
  none-zero h = (there, clear-answer h)
    where
      there : Clear b a → standing a l ≡ 0
      there c = ⊎_elim (λ k. let (x, p, e) = holding-answer k in true-and-false e (not-true _ (c.each x p))) (λ k. omega arith)
          (lt-or-le 0 (standing a l))
