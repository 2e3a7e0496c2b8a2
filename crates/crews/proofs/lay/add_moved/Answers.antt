-- One rule moved up: its parts go to tables, and the rule of the tables is added.
use mathlib.Core.Path.{ap}
use borrow.Author.Rules.{rules}
use Rattle.meaning.specs.declared.AtomNo.{AtomNo}
use Rattle.book.proofs.Places.{rule-keeps, head-below}
use Rattle.crews.proofs.Moving.{below-moved, adds-as, moved-rule}
use Rattle.crews.proofs.lay.add_moved.Goals as goal

pub move_part-requires : goal.move_part-requires
move_part-requires c =
    let keeps = rule-keeps _ c.args.book.now.shape c.args.book.now.read_as c.args.r c.requires.0 in
    below-moved c.args.up c.args.book.now.shape.atoms _ keeps.pos c.requires.1 c.positives.ensures

pub move_part-requires-2 : goal.move_part-requires-2
move_part-requires-2 c =
    let keeps = rule-keeps _ c.args.book.now.shape c.args.book.now.read_as c.args.r c.requires.0 in
    below-moved c.args.up c.args.book.now.shape.atoms _ keeps.neg c.requires.1 c.negatives.ensures

pub overflow_add-up : goal.overflow_add-up
overflow_add-up c =
    let h = head-below _ c.args.book.now.shape c.args.book.now.read_as c.args.r c.requires.0 _ c.head-a.ensures in
    let g = c.requires.1 in
    search rules

pub returns : goal.returns
returns c =
    let keeps = rule-keeps _ c.args.book.now.shape c.args.book.now.read_as c.args.r c.requires.0 in
    adds-as
    (moved-rule c.args.up c.args.book.now.shape.atoms _ keeps c.requires.1 (ap (λ (a : AtomNo). a.0) c.head-a.ensures)
    c.positives.ensures c.negatives.ensures c.move_part.ensures c.move_part-2.ensures)
    c.add_rule.ensures
