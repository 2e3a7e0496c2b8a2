-- The witness: what is listed so far, with what may still be listed behind it, is the whole witness.
use mathlib.Core.Path.{◌≡◌, ◌∙◌}
use Prim.Native.Nat.{ℕ}
use lib.ListN.{replicate}
use native.Mathlib.Omega.{arith}
use Rattle.meaning.specs.Engine.{witness_of}
use Rattle.meaning.proofs.Four.{members-nothing}
use Rattle.meaning.proofs.Listed.{listed-empty}
use Rattle.book.proofs.Places.{shape-count}
use Rattle.writer.proofs.Choosing.{picked-one, picked_none}
use Rattle.writer.proofs.Witnessing.{listing_start, listing-more, listing-ends, listing_full}
use Rattle.writer.proofs.witness.write_witness.Goals as goal

pub loop-count-init : goal.loop-count-init
loop-count-init c = listing_start _ _ _ _ _ (listed-empty (replicate {A = ℕ} 4 0) members-nothing)

pub returns-in_default : goal.returns-in_default
unfolding witness_of
returns-in_default c = listing-ends _ _ _ _ c.loop-count.invariant (picked_none c.next_listed.ensures c.in_default.is)

pub loop-count-preserved : goal.loop-count-preserved
loop-count-preserved c =
    let e = shape-count _ _ c.args.book.now.read_as in
    listing-more _ _ _ _ c.loop-count.invariant (picked-one c.next_listed.ensures c.in-Some.is) (omega arith)
    c.put.ensures (omega arith) c.write-n.ensures

pub returns : goal.returns
unfolding witness_of
returns c =
    let e : c.args.book.now.shape.rules ≡ c.loop-count.count = omega arith in
    let w = listing_full _ _ _ _ c.loop-count.invariant (omega (arith, shape-count _ _ c.args.book.now.read_as)) in
    (e ∙ w.0, w.1)
