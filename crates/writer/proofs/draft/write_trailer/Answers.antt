-- The trailer: its six bytes are written one behind the other, the first the claim's and the last two those of its mark.
use Rattle.meaning.specs.Paper.{trailer}
use Rattle.writer.proofs.Drafts.{writes_then, writes_mark}
use Rattle.writer.proofs.draft.write_trailer.Goals as goal

pub returns : goal.returns
unfolding trailer
returns c =
    let marked = writes_mark _ c.mark-mark.ensures c.write-marked.ensures c.write.ensures in
    let claimed = rw c.byte.ensures at c.write-claimed.ensures in
    writes_then claimed (writes_then c.write-counted.ensures (writes_then c.write-low.ensures
    (writes_then c.write-high.ensures marked)))
