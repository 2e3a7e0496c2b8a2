-- One law for each way through the code. The list, once read, ends before the witness; then it is tested, and then the condition.
use native.Mathlib.Omega.{arith}
use mathlib.Core.Path.{◌≡◌, refl, sym, ◌∙◌}
use mathlib.Core.List.{List}
use Prim.Native.Nat.{ℕ, ◌+◌, ◌-◌}
use lib.ListN.{take, drop}
use Rattle.book.specs.Format.{book_in}
use Rattle.book.proofs.Places.{shape-count}
use Rattle.checker.specs.Steps.{proper_list}
use Rattle.checker.proofs.Lists.{proper-is, proper-below}
use Rattle.checker.proofs.StepChecked.{Listed, list-late, list-empty, list-long, list-bad, list-holds, list-fails}
use Rattle.checker.proofs.step.check_list_step.Goals as goal
use Rattle.checker.proofs.step.check_list_step.Goals.{After-is_proper}

-- the list is read and tested
module _ (c : After-is_proper) where
  abbrev list : List ℕ
  list = take (c.args.at + 2 + c.wide-m.result - (c.args.at + 2)) (drop (c.args.at + 2) c.args.paper.now)

  listed : Listed c.args.paper.now c.args.trailer.from c.args.at c.wide-m.result list
  listed = record {
    here = c.requires.1;
    code = c.requires.2;
    counted = c.wide-m.ensures.0;
    some = omega arith;
    room = omega arith;
    bytes = refl;
  }

  proper : proper_list (book_in c.args.book.now.bytes.now) list ≡ c.is_proper.result
  proper = sym (proper-is _ _ _ (shape-count _ _ c.args.book.now.read_as)) ∙ sym c.is_proper.ensures

pub returns-then-trailer-at : goal.returns-then-trailer-at
returns-then-trailer-at c = λ on. list-late _ _ _ _ _ _ c.requires.1 c.requires.2 (omega arith)

pub returns-then-m-eq0 : goal.returns-then-m-eq0
returns-then-m-eq0 c =
    λ on. list-empty _ _ _ _ _ _ c.requires.1 c.requires.2 (omega arith) _ c.wide-m.ensures.0 c.if-m-eq0.true

pub returns-then-trailer-end : goal.returns-then-trailer-end
returns-then-trailer-end c =
    λ on. list-long _ _ _ _ _ _ c.requires.1 c.requires.2 (omega arith) _ c.wide-m.ensures.0 (omega arith) (omega arith)

pub returns-then-not-is_proper : goal.returns-then-not-is_proper
returns-then-not-is_proper c =
    let at = (goal.at.returns-then-not-is_proper c).After-is_proper in
    λ on. list-bad _ _ _ _ _ _ _ _ (listed at) (proper at ∙ c.if-not-is_proper.true)

pub is_unfounded-requires : goal.is_unfounded-requires
is_unfounded-requires c = proper-below _ _ (sym c.is_proper.ensures ∙ c.if-not-is_proper.false)

pub returns-then-not-is_unfounded : goal.returns-then-not-is_unfounded
returns-then-not-is_unfounded c =
    let at = (goal.at.returns-then-not-is_unfounded c).After-is_proper in
    λ on. list-fails _ _ _ _ _ _ _ _ (listed at) (proper at ∙ c.if-not-is_proper.false) _ c.is_unfounded.ensures c.if-not-is_unfounded.true

pub returns : goal.returns
returns c =
    let at = (goal.at.returns c).After-is_proper in
    λ on. list-holds _ _ _ _ _ _ _ _ (listed at) (proper at ∙ c.if-not-is_proper.false) _ c.is_unfounded.ensures c.if-not-is_unfounded.false
