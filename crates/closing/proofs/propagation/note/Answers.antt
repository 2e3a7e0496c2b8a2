-- The atom is in the set if so told.
use borrow.Author.Rules.{rules}
use Rattle.closing.proofs.Noting.{note-put}
use Rattle.closing.proofs.propagation.note.Goals as goal

pub returns : goal.returns
returns c =
    note-put c.args.told c.args.a c.put.new.self.w c.args.set.now.w c.if-not-told.false (search rules) c.put.ensures
