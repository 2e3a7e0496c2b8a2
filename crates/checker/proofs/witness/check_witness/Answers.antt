-- The three passes in their order. Once the order is right, the tables of the listed rules and of their heads say what the definition asks.
use borrow.Author.Rules.{rules}
use native.Mathlib.Omega.{arith}
use mathlib.Core.Path.{refl, sym}
use Prim.Native.Nat.{◌+◌, ◌-◌}
use lib.ListN.{take, drop}
use Rattle.std.proofs.lemmas.Result.{err_from_is_err_and}
use Rattle.meaning.specs.Bits.{listed}
use Rattle.meaning.proofs.Listed.{listed-empty}
use Rattle.book.proofs.Places.{shape-count}
use Rattle.checker.proofs.Lists.{below_more}
use Rattle.checker.proofs.WitnessChecked.{order_below, Tabled, finds-order, finds-blocked, finds-rest, finds-right}
use Rattle.checker.proofs.witness.check_witness.Goals as goal
use Rattle.checker.proofs.witness.check_witness.Goals.{After-heads_of}

-- the order is right and the tables are made
tabled : (c : After-heads_of) → let s = c.args in let t = s.trailer in
    Tabled s.book.now.bytes.now s.book.now.shape s.paper.now t.from t.count (take (t.from + t.count - t.from) (drop t.from s.paper.now))
    (listed c.with_rules-all.result.w) c.heads_of.new.out
tabled c = record {
  read = c.args.book.now.read_as;
  small = omega arith;
  part = refl;
  order = sym c.in_ok-check_order.ensures;
  none = listed c.empty.result.w;
  empty = listed-empty _ c.empty.ensures;
  rules = c.with_rules-all.ensures;
  table = c.heads_of.ensures;
}

pub returns-in_err-check_order : goal.returns-in_err-check_order
returns-in_err-check_order c =
    let p = err_from_is_err_and c.from_residual.result c.from_residual.ensures.1 in
    rw (p.1, p.2) (finds-order _ _ _ _ _ refl c.in_err-check_order.ensures)

pub with_rules-all-requires : goal.with_rules-all-requires
with_rules-all-requires c =
    below_more (omega (arith, shape-count _ _ c.args.book.now.read_as)) (order_below _ _ _ (sym c.in_ok-check_order.ensures))

pub check_unblocked-requires : goal.check_unblocked-requires
check_unblocked-requires c =
    (below_more (omega (arith, shape-count _ _ c.args.book.now.read_as)) (order_below _ _ _ (sym c.in_ok-check_order.ensures)), search rules)

pub returns-in_err-check_unblocked : goal.returns-in_err-check_unblocked
returns-in_err-check_unblocked c =
    let r = c.from_residual-in_err-check_unblocked in
    let p = err_from_is_err_and r.result r.ensures.1 in
    rw (p.1, p.2) (finds-blocked (tabled (goal.at.returns-in_err-check_unblocked c).After-heads_of) c.in_err-check_unblocked.ensures)

pub returns-then-not-rest_fails : goal.returns-then-not-rest_fails
returns-then-not-rest_fails c =
    finds-rest (tabled (goal.at.returns-then-not-rest_fails c).After-heads_of) c.in_ok-check_unblocked.ensures _
    c.rest_fails.ensures c.if-not-rest_fails.true

pub returns : goal.returns
returns c =
    finds-right (tabled (goal.at.returns c).After-heads_of) c.in_ok-check_unblocked.ensures _
    c.rest_fails.ensures c.if-not-rest_fails.false
