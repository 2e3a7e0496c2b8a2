-- The paper put together: whatever the steps are that stand in the draft, witness and trailer stand behind them.
use Rattle.writer.proofs.Handing.{paper-whole}
use Rattle.writer.proofs.hand_over.finish.Goals as goal

pub returns : goal.returns
returns c = λ steps s.
    let (counted, listed) = c.write_witness-witness.ensures in
    paper-whole _ steps s _ _ counted listed c.write_trailer.ensures
