-- The record of a rule stands where its index entry says, by the laws of a good book.
use mathlib.Core.Path.{ap, ◌∙◌}
use Prim.Native.Nat.{◌+◌, ◌*◌}
use borrow.Author.Rules.{rules}
use Rattle.book.specs.Format.{u16_at}
use Rattle.book.proofs.Places.{shape-length, rule-at}
use Rattle.book.proofs.read.ReadBook.start_of.Goals as goal

pub overflow_add-self : goal.overflow_add-self
overflow_add-self c =
    let f = shape-length _ c.args.self.now.shape c.args.self.now.read_as in
    search rules

pub u16_at-requires : goal.u16_at-requires
u16_at-requires c =
    let f = shape-length _ c.args.self.now.shape c.args.self.now.read_as in
    search rules

pub returns : goal.returns
returns c =
    rule-at _ c.args.self.now.shape c.args.self.now.read_as c.args.r c.requires _
    (c.u16_at.ensures.0
    ∙ ap (λ i. u16_at c.args.self.now.bytes.now (c.args.self.now.shape.index + 2 * i)) c.wide.ensures.0)
