-- `skip_text` asks whether the word stands there.
use mathlib.Core.Path.{refl, sym}
use Prim.Native.Nat.{◌+◌}
use native.Mathlib.Omega.{arith}
use lib.ListN.{length, length-take, length-drop}
use Rattle.aspif.specs.Scanning.{went, reached, nowhere}
use Rattle.aspif.proofs.Turns.{skip-found, skip-missing}
use Rattle.aspif.proofs.scan.skip_text.Goals as goal

pub returns-then-not-starts_with : goal.returns-then-not-starts_with
unfolding went
returns-then-not-starts_with c = record {
  result_value = sym (skip-missing c.args.word.now c.args.text.now c.args.at c.if-not-starts_with.ensures.value);
  reaches = nowhere;
}

pub returns : goal.returns
unfolding went
returns c = record {
  result_value = sym (skip-found c.args.word.now c.args.text.now c.args.at c.if-not-starts_with.ensures.value);
  reaches = reached {n = c.args.at + length c.args.word.now} (omega arith)
      (omega (arith, simp (length-take, length-drop) at (c.if-not-starts_with.ensures.bound refl)));
}
