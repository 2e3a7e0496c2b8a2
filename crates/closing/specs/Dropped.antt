-- The rules that nothing holds up go off. Document 01, "Colours and closing": "Every rule outside V goes off."
--
--   unheld b off     the rules of the book that are outside the support set and not off
--   Dropped b off told off'   they have gone off; `told` says whether there was one
use Rattle.std.specs.Prelude.{◌≡◌, Bool, false, not, ◌&&◌, ltb}
use Rattle.meaning.specs.Books.{Rules, Book, count, some_rule}
use Rattle.meaning.specs.Written.{of}
use Rattle.meaning.specs.Computed.{support}
use Rattle.meaning.specs.Pending.{joined}

unfoldable pub unheld : Book → Rules → Rules
unheld b off r = (ltb r.0 (count b) && not (of (support b off) r)) && not (off r)

pub record Dropped (b : Book) (off : Rules) (told : Bool) (off' : Rules) : Type 0 where
  pub more : told ≡ some_rule b (unheld b off)
  pub gone : off' ≡ joined off (unheld b off)
  pub rests : told ≡ false → off' ≡ off
