-- A branch as it is walked, one law for each way on from a step. No law speaks of how many steps are allowed: BranchTo holds for every
-- number beyond the bytes left, and each step takes one at least. Document 01, "The paper".
use mathlib.Core.Path.{◌≡◌, refl, sym, ◌∙◌, ap, subst}
use mathlib.Core.List.{List, [], ◌∷◌}
use Prim.Native.Nat.{ℕ, zero, suc, ◌+◌, ◌-◌, ◌≤◌, ◌<◌}
use native.Mathlib.Omega.{arith}
use lib.ListN.{length}
use Rattle.meaning.specs.declared.RuleNo.{RuleNo}
use Rattle.meaning.specs.Books.{Book, count}
use Rattle.meaning.specs.Colours.{Pair, on_side, off_side, put}
use Rattle.meaning.specs.declared.kind.Claim.{Claim}
use Rattle.meaning.specs.Written.{Tables, written, colour_on, colour_off, pair}
use Rattle.meaning.proofs.Written.{pair-on, pair-off}
use Rattle.checker.specs.Steps.{Stepped, goes, parts, ends, fails, step_of}
use Rattle.checker.specs.Branches.{Walked, done, wrong_at, and_then, after_step, branch_of, BranchTo}
use Rattle.checker.specs.declared.step.Stop.{Stop}
use Rattle.checker.specs.declared.step.Stop.TheVariants.{End, Split}
use Rattle.checker.specs.declared.run.Ran.{Ran}
use Rattle.checker.specs.Parts.{stopped_by, RuleWithin, StopWithin, Leads, Runs, Ends}
use Rattle.checker.specs.Parts.Leads.{here, further}
use Rattle.checker.specs.Parts.Ends.{past, refused}

module _ (b : Book) (k : Claim) (s : List ℕ) (from at : ℕ) (c : Pair) where
  -- a branch comes to what follows its first step
  branch_by : {x : Stepped} (w : Walked) → step_of b k s from at c ≡ x
      → ((f : ℕ) → from - at < suc f → w ≡ after_step at c x (branch_of f b k s from)) → BranchTo b k s from at c w
  unfolding branch_of
  branch_by w e p zero g = absurd (omega arith)
  branch_by w e p (suc f) g = rw e (p f g)

  branch-ends : (next : ℕ) → step_of b k s from at c ≡ ends next → BranchTo b k s from at c (done next)
  unfolding after_step
  branch-ends next e = branch_by _ e (λ f g. refl)

  branch-fails : (i : ℕ) → step_of b k s from at c ≡ fails i → BranchTo b k s from at c (wrong_at i at)
  unfolding after_step
  branch-fails i e = branch_by _ e (λ f g. refl)

  branch-goes : (next : ℕ) (d : Pair) (w : Walked) → at < next → next ≤ from → step_of b k s from at c ≡ goes next d
      → BranchTo b k s from next d w → BranchTo b k s from at c w
  unfolding after_step
  branch-goes next d w h l e p = branch_by w e (λ f g. p f (omega arith))

  -- a split, after its first branch has come to w
  module _ (next : ℕ) (r : RuleNo) (w : Walked) (h : at < next) (l : next ≤ from) (e : step_of b k s from at c ≡ parts next r)
      (p : BranchTo b k s from next (put on_side (r ∷ []) c) w) where
    split-first : (i place : ℕ) → w ≡ wrong_at i place → BranchTo b k s from at c (wrong_at i place)
    unfolding after_step and_then
    split-first i place q = branch_by _ e (λ f g. rw (sym (p f (omega arith)) ∙ q))

    split-second : (m : ℕ) (v : Walked) → w ≡ done m → at < m → m ≤ from → BranchTo b k s from m (put off_side (r ∷ []) c) v
        → BranchTo b k s from at c v
    unfolding after_step and_then
    split-second m v q i j t = branch_by v e (λ f g. rw (sym (p f (omega arith)) ∙ q) (t f (omega arith)))

module _ (b : Book) (k : Claim) (s : List ℕ) (from at : ℕ) (c : Pair) where
  leads-branch : {i : ℕ} {d : Pair} → Leads b k s from at c i d → (w : Walked) → BranchTo b k s from i d w → BranchTo b k s from at c w
  leads-branch here w p = p
  leads-branch (further x h l e) w p = leads-branch x w (branch-goes b k s from _ _ _ _ w h l e p)

  leads-from : {i : ℕ} {d : Pair} → Leads b k s from at c i d → at ≤ i
  leads-from here = omega arith
  leads-from (further x h l e) = let z = leads-from x in omega arith

-- ---- where a branch ends

ends-from : {at i from : ℕ} {w : Walked} → at ≤ i → Ends i from w → Ends at from w
ends-from h (past {m = m} x y) = past {m = m} (omega arith) y
ends-from h refused = refused

pub ends-done : {at from m : ℕ} → Ends at from (done m) → (at < m) × (m ≤ from)
ends-done (past y z) = (y, z)

-- what is promised of a branch
abbrev pub Branches : Book → Claim → List ℕ → ℕ → ℕ → Pair → Walked → Type 0
Branches b k s from at c w = BranchTo b k s from at c w × Ends at from w

-- ---- after the steps

module _ {b : Book} {k : Claim} {s : List ℕ} {from at : ℕ} {c : Pair} {ran : Ran} (r : Runs b k s from at c ran) where
  step_is : {x : Stop} → ran.stop ≡ x → step_of b k s from ran.at (pair (written ran.colours)) ≡ stopped_by ran.at x
  step_is e = r.stops ∙ ap (stopped_by ran.at) e

  within-is : {x : Stop} → ran.stop ≡ x → StopWithin b from ran.at x
  within-is e = subst (StopWithin b from ran.at) e r.within

  pub run-from : at ≤ ran.at
  run-from = leads-from b k s from at c r.leads

  pub run-leads : {w : Walked} → Branches b k s from ran.at (pair (written ran.colours)) w → Branches b k s from at c w
  run-leads {w} (p, q) = (leads-branch b k s from at c r.leads w p, ends-from run-from q)

  pub run_room : ran.stop ≡ End → ran.at + 1 ≤ from
  run_room e = within-is e

  pub run_ends : ran.stop ≡ End → Branches b k s from at c (done (ran.at + 1))
  run_ends e = run-leads (branch-ends b k s from _ _ _ (step_is e), past {m = ran.at + 1} (omega arith) (within-is e))

  -- 24 and 25
  pub run-refused : (i : ℕ) {x : Stop} → ran.stop ≡ x → stopped_by ran.at x ≡ fails i → Branches b k s from at c (wrong_at i ran.at)
  run-refused i e q = run-leads (branch-fails b k s from _ _ _ (step_is e ∙ q), refused)

  pub run-splits : {q : RuleNo} → ran.stop ≡ Split q
      → RuleWithin b from ran.at q × (step_of b k s from ran.at (pair (written ran.colours)) ≡ parts (ran.at + 2) q)
  run-splits e = (within-is e, step_is e)

-- ---- after a split

-- the split on r at byte `at` with the colouring c; its first branch starts with `first` and has come to w
pub record Parted (b : Book) (k : Claim) (s : List ℕ) (from at : ℕ) (r : RuleNo) (c first : Tables) (w : Walked) : Type 0 where
  pub within : RuleWithin b from at r
  pub splits : step_of b k s from at (pair c) ≡ parts (at + 2) r
  pub few : count b ≤ 255
  pub on-long : length c.on ≡ 256
  pub off-long : length c.off ≡ 256
  pub on : first ≡ colour_on r c
  pub comes : Branches b k s from (at + 2) (pair first) w

module _ {b : Book} {k : Claim} {s : List ℕ} {from at : ℕ} {r : RuleNo} {c first : Tables} {w : Walked}
    (p : Parted b k s from at r c first w) where
  first-branch : BranchTo b k s from (at + 2) (put on_side (r ∷ []) (pair c)) w
  first-branch = rw (ap pair p.on ∙ pair-on c r (omega (arith, p.within.0, p.few, p.on-long))) at p.comes.0

  pub split-refused : (i place : ℕ) → w ≡ wrong_at i place → Branches b k s from at (pair c) (wrong_at i place)
  split-refused i place q =
      (split-first b k s from at _ _ r _ (omega arith) p.within.1 p.splits first-branch i place q, refused)

  -- the second branch starts with `second`
  pub split_done : (m : ℕ) → w ≡ done m → (second : Tables) → second ≡ colour_off r c → (v : Walked)
      → Branches b k s from m (pair second) v → Branches b k s from at (pair c) v
  split_done m q second off v (t, u) =
      let (h, g) = ends-done (subst (Ends (at + 2) from) q p.comes.1) in (
        split-second b k s from at _ _ r _ (omega arith) p.within.1 p.splits first-branch m v q (omega arith) g
            (rw (ap pair off ∙ pair-off c r (omega (arith, p.within.0, p.few, p.off-long))) at t),
        ends-from (omega arith) u,
      )
