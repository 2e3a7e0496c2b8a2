-- The steps in order: the branch from byte 0 is refused at a step exactly if the checker comes to that step, in the sense of specs/Rows,
-- and the step is refused there. One way the walk is followed down to the step, the other way the refusal is carried back along the way
-- that the checker came. Document 01, "then steps in order, 24 before 25".
use mathlib.Core.Path.{◌≡◌, refl, sym, ◌∙◌}
use mathlib.Core.Logic.{⊎_elim}
use mathlib.Core.List.{List}
use Prim.Native.Nat.{ℕ, zero, suc, ◌-◌, ◌≤◌, ◌<◌}
use native.Mathlib.Nat.{not-suc-le-zero}
use native.Mathlib.Omega.{arith}
use lib.ListN.{length}
use Rattle.meaning.specs.Books.{Book}
use Rattle.meaning.specs.Colours.{Pair, start}
use Rattle.meaning.specs.declared.kind.Claim.{Claim}
use Rattle.meaning.specs.Paper.{Branch, step-41, step-42, step-55, step-53, step-45}
use Rattle.meaning.proofs.Tests.{lt-or-le}
use Rattle.book.specs.Format.{part_from}
use Rattle.checker.specs.Steps.{Stepped, goes, parts, ends, fails, step_of}
use Rattle.checker.specs.Branches.{wrong_at, and_then, after_step, branch_of}
use Rattle.checker.specs.Rows.{Comes, first_step, goes_on, into-first, into-second}
use Rattle.checker.proofs.Steps.{StepIs, held, formed-further, is-step, step_is}
use Rattle.checker.proofs.Branches.{not_done, same-refusal, then-refused, done-between, done-branch, part-done, turn}

module _ (b : Book) (k : Claim) (s : List ℕ) (from : ℕ) (whole : from ≤ length s) where
  pub refused-comes : (f at : ℕ) (c : Pair) {i m : ℕ} → from - at < f → branch_of f b k s from at c ≡ wrong_at i m → Comes b k s from at c
      → (d : Pair) × Comes b k s from m d × StepIs b k s from m d (fails i)
  unfolding branch_of after_step
  refused-comes zero at c h e came = absurd (not-suc-le-zero h)
  refused-comes (suc f) at c {i} {m} h e came =
      after (step_of b k s from at c) (step_is b k s from at c refl) e (λ next d. refused-comes f next d)
    where
      after : (x : Stepped) → StepIs b k s from at c x → after_step at c x (branch_of f b k s from) ≡ wrong_at i m
          → ((next : ℕ) (d : Pair) → from - next < f → branch_of f b k s from next d ≡ wrong_at i m → Comes b k s from next d
          → (d : Pair) × Comes b k s from m d × StepIs b k s from m d (fails i))
          → (d : Pair) × Comes b k s from m d × StepIs b k s from m d (fails i)
      after (goes next d) (held p q) e g =
          let (u, v) = formed-further b k s from at c p in g next d (omega arith) e (goes_on came p q)
      after (parts next r) (held p q) e g =
          let (u, v) = formed-further b k s from at c p in
          ⊎_elim (λ w. g next _ (omega arith) w (into-first came p q))
          (λ (n, w, z). let (y, o) = done-between b k s from f _ _ _ w in
          g n _ (omega arith) z (into-second came p q o (done-branch b k s from whole f _ _ _ w))) (then-refused _ _ e)
      after (ends next) p e g = not_done (sym e)
      after (fails j) p e g = let (u, v) = same-refusal e in (c, rw v at came, rw (u, v) at p)

  -- a branch has bytes
  branch-bytes : {c : Pair} {l : List ℕ} → Branch b k c l → 0 < length l
  branch-bytes (step-41 r i m p) = omega arith
  branch-bytes (step-42 r i m p) = omega arith
  branch-bytes (step-55 w n a i m p) = omega arith
  branch-bytes (step-53 r i m p q) = omega arith
  branch-bytes (step-45 m) = omega arith

  branch-further : {c : Pair} (at m : ℕ) → Branch b k c (part_from s m at) → at < m
  branch-further at m x =
      ⊎_elim (λ h. h) (λ h. let z : m - at ≡ 0 = omega arith in absurd (omega (arith, branch-bytes (rw z at x)))) (lt-or-le at m)

  module _ (i m : ℕ) where
    -- whatever number of steps beyond the bytes left is allowed, the branch is refused at m
    abbrev Refused : ℕ → Pair → Type 0
    Refused at c = (f : ℕ) → from - at < f → branch_of f b k s from at c ≡ wrong_at i m

    before : {at : ℕ} {c : Pair} {x : Stepped} → StepIs b k s from at c x
        → ((f : ℕ) → from - at < suc f → after_step at c x (branch_of f b k s from) ≡ wrong_at i m) → Refused at c
    before p g zero h = absurd (not-suc-le-zero h)
    before {at} {c} p g (suc f) h = turn b k s from f at c (is-step b k s from at c p) ∙ g f h

    carried : {at : ℕ} {c : Pair} → Comes b k s from at c → Refused at c → Refused 0 start
    unfolding after_step and_then
    carried first_step g = g
    carried (goes_on came p q) g =
        let (u, v) = formed-further b k s from _ _ p in carried came (before (held p q) (λ f h. g f (omega arith)))
    carried (into-first came p q) g =
        let (u, v) = formed-further b k s from _ _ p in carried came (before (held p q) (λ f h. rw (g f (omega arith))))
    carried (into-second {next = next} {m = n} came p q o x) g =
        let (u, v) = formed-further b k s from _ _ p in
        let w = branch-further next n x in
        carried came (before (held p q)
        (λ f h. rw (part-done b k s from whole next n (omega arith) o x f (omega arith)) (g f (omega arith))))

    pub comes-refused : {d : Pair} → Comes b k s from m d → StepIs b k s from m d (fails i)
        → branch_of (suc from) b k s from 0 start ≡ wrong_at i m
    unfolding after_step
    comes-refused came p = carried came (before p (λ f h. refl)) (suc from) (omega arith)
