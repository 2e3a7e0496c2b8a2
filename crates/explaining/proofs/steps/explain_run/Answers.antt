-- As the checker's `run_steps`, with a step that is told too: the steps lead from the start to byte i with the colouring as it stands, and
-- each ends before the witness, so the bytes left fall.
use native.Mathlib.Omega.{arith}
use Rattle.meaning.proofs.Listed.{listed-long}
use Rattle.book.proofs.Places.{shape-count}
use Rattle.checker.specs.Parts.Leads.{here}
use Rattle.checker.proofs.StepsRun.{list-small, led_on, led-off, led-list}
use Rattle.explaining.proofs.steps.explain_run.Goals as goal

pub loop-r-init : goal.loop-r-init
loop-r-init g c = record { leads = here; on-long = listed-long _; off-long = listed-long _ }

pub loop-r-preserved-in-On : goal.loop-r-preserved-in-On
loop-r-preserved-in-On g c =
    rw c.with-colours.ensures (led_on c.loop-r.invariant (omega (arith, shape-count _ _ c.args.paper.now.book.read_as)) _
    c.explain_step.ensures _ c.in-On.is)

pub loop-r-preserved-in-Off : goal.loop-r-preserved-in-Off
loop-r-preserved-in-Off g c =
    rw c.with-colours-in-Off.ensures (led-off c.loop-r.invariant (omega (arith, shape-count _ _ c.args.paper.now.book.read_as)) _
    c.explain_step.ensures _ c.in-Off.is)

-- ---- 55: its list ends before the witness
pub with_rules-colours-requires : goal.with_rules-colours-requires
with_rules-colours-requires g c =
    list-small c.explain_step.ensures c.in-Unfounded.is (omega (arith, shape-count _ _ c.args.paper.now.book.read_as))

pub loop-r-preserved : goal.loop-r-preserved
loop-r-preserved g c =
    led-list c.loop-r.invariant (omega (arith, shape-count _ _ c.args.paper.now.book.read_as)) _ c.explain_step.ensures _ _
    c.in-Unfounded.is (listed-long _) c.with_rules-colours.ensures
