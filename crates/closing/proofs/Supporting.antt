-- The marks at rest are the support set: they were grown from nothing, so they are in every upheld set, and a pass that adds nothing has
-- found an upheld one (document 01, "Support"; blueprint, "Marks for V").
use mathlib.Core.Path.{◌≡◌, refl, sym, ◌∙◌, ap}
use mathlib.Core.Bool.{Bool, false, not}
use mathlib.Core.List.{List}
use Prim.Native.Nat.{◌≤◌}
use lib.ListN.{replicate, length-replicate}
use borrow.Author.Tests.{not-true}
use Rattle.meaning.specs.Books.{Rules, Book, count}
use Rattle.meaning.specs.Colours.{Under, Upheld}
use Rattle.meaning.specs.Written.{of}
use Rattle.meaning.specs.Computed.{upheld, support}
use Rattle.meaning.proofs.Tests.{both, and_left, and_right, true-and-false}
use Rattle.meaning.proofs.Written.{of_none}
use Rattle.meaning.proofs.Support.{support-computed}
use Rattle.closing.specs.Growing.{Grown, Pass}
use Rattle.closing.specs.Conditions.{marking}

module _ (b : Book) (off : Rules) where
  upheld-goes : (w : Rules) → Upheld b off w → Under b (marking b off w) w
  unfolding marking upheld
  upheld-goes w u r h m = u r h (not-true _ (and_left (not (off r)) _ m)) (and_right (not (off r)) _ m)

  goes-upheld : (w : Rules) → Under b (marking b off w) w → Upheld b off w
  unfolding marking upheld
  goes-upheld w f r h n p = f r h (both (ap not n) p)

  pub marks-support : {l m : List Bool} → count b ≤ 255 → Grown b (marking b off) (replicate 256 false) l
      → Pass b (marking b off) (count b) l m false → m ≡ support b off
  marks-support {l} fits g p =
      sym (p.none-same refl) ∙ support-computed b off l fits (g.long ∙ length-replicate 256 false) (λ r h. g.outside r h ∙ of_none 256 r)
      (record {
        good = goes-upheld (of l) (p.none-rests refl);
        least = λ w u. g.forced w (upheld-goes w u) (λ r h m. true-and-false m (of_none 256 r));
      })
