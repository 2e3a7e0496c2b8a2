use Rattle.meaning.proofs.Four.{members-nothing}
use Rattle.meaning.proofs.bitset.Bits.empty.Goals as goal

pub returns : goal.returns
returns c = members-nothing
