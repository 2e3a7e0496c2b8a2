-- The steps lead from the start to byte i with the colouring as it stands. Each step that was found leads on, and ends before the witness,
-- so the bytes left fall.
use native.Mathlib.Omega.{arith}
use Rattle.meaning.proofs.Listed.{listed-long}
use Rattle.book.proofs.Places.{shape-count}
use Rattle.checker.specs.Parts.Leads.{here}
use Rattle.checker.proofs.StepsRun.{list-small, led_on, led-off, led-list}
use Rattle.checker.proofs.run.run_steps.Goals as goal

pub loop-r-init : goal.loop-r-init
loop-r-init c = record { leads = here; on-long = listed-long _; off-long = listed-long _ }

pub loop-r-preserved-in-On : goal.loop-r-preserved-in-On
loop-r-preserved-in-On c =
    rw c.with-colours.ensures (led_on c.loop-r.invariant (omega (arith, shape-count _ _ c.args.book.now.read_as)) _ c.check_step.ensures _
    c.in-On.is)

pub loop-r-preserved-in-Off : goal.loop-r-preserved-in-Off
loop-r-preserved-in-Off c =
    rw c.with-colours-in-Off.ensures (led-off c.loop-r.invariant (omega (arith, shape-count _ _ c.args.book.now.read_as)) _ c.check_step.ensures _
    c.in-Off.is)

-- ---- 55: its list ends before the witness
pub with_rules-colours-requires : goal.with_rules-colours-requires
with_rules-colours-requires c =
    list-small c.check_step.ensures c.in-Unfounded.is (omega (arith, shape-count _ _ c.args.book.now.read_as))

pub loop-r-preserved : goal.loop-r-preserved
loop-r-preserved c =
    led-list c.loop-r.invariant (omega (arith, shape-count _ _ c.args.book.now.read_as)) _ c.check_step.ensures _ _ c.in-Unfounded.is
    (listed-long _) c.with_rules-colours.ensures
