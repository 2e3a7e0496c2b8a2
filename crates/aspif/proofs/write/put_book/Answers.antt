-- `put_book` stores the parts of the text behind one another.
use native.Mathlib.Omega.{arith}
use Rattle.book.specs.ReadBook.{the_book}
use Rattle.book.proofs.Places.{shape-atoms}
use Rattle.aspif.proofs.Answering.{text-long, text-stored}
use Rattle.aspif.proofs.write.put_book.Goals as goal

pub put_text-started-requires : goal.put_text-started-requires
put_text-started-requires c =
    omega (arith, c.requires, text-long (the_book c.args.book.now) (shape-atoms _ _ c.args.book.now.read_as))

pub put_rules-ruled-requires : goal.put_rules-ruled-requires
put_rules-ruled-requires c =
    omega (arith, c.requires, text-long (the_book c.args.book.now) (shape-atoms _ _ c.args.book.now.read_as))

pub put_outputs-listed-requires : goal.put_outputs-listed-requires
put_outputs-listed-requires c =
    omega (arith, c.requires, text-long (the_book c.args.book.now) (shape-atoms _ _ c.args.book.now.read_as))

pub put_text-requires : goal.put_text-requires
put_text-requires c =
    omega (arith, c.requires, text-long (the_book c.args.book.now) (shape-atoms _ _ c.args.book.now.read_as))

pub returns : goal.returns
returns c =
    text-stored _ (shape-atoms _ _ c.args.book.now.read_as) c.put_text-started.ensures c.put_rules-ruled.ensures c.put_outputs-listed.ensures
    c.put_text.ensures
