-- How many tries a whole walk has (document 01: "at most 2^(u+1) - 1 tries"; blueprint W4): each side of a fork leaves fewer rules without
-- a colour than the closing before it, so at most doubles what one side has.
use mathlib.Core.List.{List}
use Prim.Native.Nat.{suc, ◌+◌, ◌^◌, ◌≤◌}
use native.Mathlib.Omega.{arith}
use lib.ListN.{length, length-append}
use lib.Pow.{pow_pos, pow_mono}
use Rattle.meaning.specs.Written.{Tables}
use Rattle.meaning.specs.Books.{Book, count}
use Rattle.meaning.specs.Colours.{on_side, off_side}
use Rattle.meaning.specs.Written.{nothing}
use Rattle.meaning.specs.Computed.{close}
use Rattle.meaning.proofs.Written.{sized-nothing}
use Rattle.closing.specs.Left.{left}
use Rattle.walk.specs.Events.{Event, events}
use Rattle.walk.proofs.Events.{Walk, at_clash, at-reading, at_fork, walks, fork-fewer}

module _ (b : Book) (fits : count b ≤ 255) where
  walk-tries : {c : Tables} {es : List Event} → Walk b c es → length es + 1 ≤ 2 ^ suc (left b (close b c))
  walk-tries {c = c} (at_clash k t) = omega (arith, pow_pos (left b (close b c)))
  walk-tries {c = c} (at-reading k t p) = omega (arith, pow_pos (left b (close b c)))
  walk-tries (at_fork f v w) = simp length-append (omega (
    arith,
    walk-tries v,
    walk-tries w,
    pow_mono (fork-fewer f on_side),
    pow_mono (fork-fewer f off_side),
  ))

  pub most-tries : length (events b nothing) + 1 ≤ 2 ^ suc (left b (close b nothing))
  most-tries = walk-tries (walks b fits nothing sized-nothing)
