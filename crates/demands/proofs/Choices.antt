-- The sentences of request 10 hold of every text and the book made of it: imported's laws D1 and I3 to I5.
use Rattle.imported.specs.Text.{Text}
use Rattle.imported.proofs.Ways.{image-below}
use Rattle.imported.proofs.Imports.{helper-opposite, import-sound, import-complete, forth-back, back-forth}
use Rattle.demands.specs.Choices.{OneForOne, HelpersOpposite, HelpersApart}

pub one-for-one : (t : Text) → OneForOne t
one-for-one t = record {
  dropped = λ x p. import-sound t x p;
  taken-up = λ y o. import-complete t y o;
  same-in-the-text = λ y o a. back-forth t y o a;
  same-in-the-book = λ x p n. forth-back t x p n;
}

pub helpers-opposite : (t : Text) → HelpersOpposite t
helpers-opposite t x p j l = helper-opposite t x p j l

pub helpers-apart : (t : Text) → HelpersApart t
helpers-apart t a m j e = image-below t a m j e
