-- `read_number` reads the digits that stand there.
use Rattle.aspif.proofs.Scanned.{number-value, number-nothing}
use Rattle.aspif.proofs.scan.read_number.Goals as goal

pub returns-in_err-value : goal.returns-in_err-value
returns-in_err-value c =
    let said = number-nothing _ _ _ c.digits_end-end.ensures.0 _ c.read_plain.ensures c.in_err-value.was in
    rw c.from_residual.ensures (record { result_value = said.0; behind = said.1 })

pub returns : goal.returns
returns c =
    let said = number-value _ _ _ c.digits_end-end.ensures.0 _ c.read_plain.ensures _ c.in_ok-value.was c.digits_end-end.ensures.1 in
    record { result_value = said.0; behind = said.1 }
