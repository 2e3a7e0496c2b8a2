-- The byte of one rule or atom, by its two tests.
use Rattle.meaning.specs.Choice.{ifb}
use Rattle.closing.specs.Settle.{settled_byte}
use Rattle.closing.proofs.first.settled_byte.Goals as goal

pub returns-then-holds : goal.returns-then-holds
unfolding settled_byte ifb
returns-then-holds c = rw c.if-holds.true

pub returns-then-fails : goal.returns-then-fails
unfolding settled_byte ifb
returns-then-fails c = rw (c.if-holds.false, c.if-fails.true)

pub returns : goal.returns
unfolding settled_byte ifb
returns c = rw (c.if-holds.false, c.if-fails.false)
