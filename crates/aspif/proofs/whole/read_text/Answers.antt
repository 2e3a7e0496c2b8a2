-- `read_text` reads the header, the lines and the closing line, and then asks whether nothing is left and no atom is beyond the output lines.
use native.Mathlib.Omega.{arith}
use Rattle.aspif.proofs.Scanned.{reaches}
use Rattle.aspif.proofs.TextsRead.{text-no-header, text-no-last, text-more, text-beyond, text-seen}
use Rattle.aspif.proofs.whole.read_text.Goals as goal

pub returns-in_err-started : goal.returns-in_err-started
returns-in_err-started c =
    rw c.from_residual.ensures (text-no-header _ _ c.skip_text.ensures.result_value c.in_err-started.was)

pub read_rules-rules-requires : goal.read_rules-rules-requires
read_rules-rules-requires c =
    let (p, q) = reaches c.skip_text.ensures.reaches c.in_ok-started.was in (q, c.requires)

pub returns-in_err-end : goal.returns-in_err-end
returns-in_err-end c =
    rw c.from_residual-in_err-end.ensures
    (text-no-last _ _ c.skip_text.ensures.result_value c.in_ok-started.was c.read_rules-rules.ensures c.read_outputs-outputs.ensures _ c.skip_text-2.ensures.result_value c.in_err-end.was)

pub returns-then-end-text : goal.returns-then-end-text
returns-then-end-text c =
    text-more _ _ c.skip_text.ensures.result_value c.in_ok-started.was c.read_rules-rules.ensures c.read_outputs-outputs.ensures _ c.skip_text-2.ensures.result_value c.in_ok-end.was c.skip_text-2.ensures.reaches c.if-end-text.true

pub returns-then-outputs-rules : goal.returns-then-outputs-rules
returns-then-outputs-rules c =
    text-beyond _ _ c.skip_text.ensures.result_value c.in_ok-started.was c.read_rules-rules.ensures c.read_outputs-outputs.ensures _ c.skip_text-2.ensures.result_value c.in_ok-end.was (omega arith) (omega arith)

pub returns : goal.returns
returns c =
    text-seen _ _ c.skip_text.ensures.result_value c.in_ok-started.was c.read_rules-rules.ensures c.read_outputs-outputs.ensures _ c.skip_text-2.ensures.result_value c.in_ok-end.was (omega arith) (omega arith)
