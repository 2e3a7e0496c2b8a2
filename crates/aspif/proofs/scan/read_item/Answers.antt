-- `read_item` goes past the word and reads the number behind it.
use native.Mathlib.Omega.{arith}
use Rattle.aspif.proofs.Scanned.{reaches, item-no-word, item-no-number, item-low, item-read}
use Rattle.aspif.proofs.scan.read_item.Goals as goal

pub returns-in_err-next : goal.returns-in_err-next
returns-in_err-next c =
    let said = item-no-word _ _ _ _ c.skip_text.ensures.result_value c.in_err-next.was in
    rw c.from_residual.ensures (record { result_value = said.0; behind = said.1 })

pub read_number-requires : goal.read_number-requires
read_number-requires c = (reaches c.skip_text.ensures.reaches c.in_ok-next.was).1

pub returns-in_err-value : goal.returns-in_err-value
returns-in_err-value c =
    let said = item-no-number _ _ _ _ c.skip_text.ensures.result_value c.in_ok-next.was c.read_number.ensures.result_value
    c.in_err-value.was in
    rw c.from_residual-in_err-value.ensures (record { result_value = said.0; behind = said.1 })

pub returns-then-value-least : goal.returns-then-value-least
returns-then-value-least c =
    let said = item-low _ _ _ _ c.skip_text.ensures.result_value c.in_ok-next.was c.read_number.ensures.result_value c.in_ok-value.was
    (omega arith) in
    record { result_value = said.0; behind = said.1 }

pub returns : goal.returns
returns c =
    let f = c.in_ok-next.was in
    let h = (reaches c.skip_text.ensures.reaches f).0 in
    let said = item-read _ _ _ _ c.skip_text.ensures.result_value f c.read_number.ensures.result_value c.in_ok-value.was (omega arith)
    (omega arith) c.read_number.ensures.behind in
    record { result_value = said.0; behind = said.1 }
