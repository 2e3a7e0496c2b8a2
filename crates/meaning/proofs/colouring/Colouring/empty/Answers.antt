-- No word has a bit.
use lib.ListN.{replicate}
use Prim.Native.Nat.{ℕ}
use Rattle.meaning.proofs.Four.{members-nothing}
use Rattle.meaning.proofs.Listed.{listed-empty}
use Rattle.meaning.proofs.colouring.Colouring.empty.Goals as goal

pub returns : goal.returns
returns c =
    let e = listed-empty (replicate {A = ℕ} 4 0) members-nothing in
    λ i. record { on = e i; off = e i; marks = e i; level = 0; levels = replicate 255 0 }
