-- The atoms below the one that is tried are written.
use mathlib.Core.Path.{◌≡◌, refl}
use native.Mathlib.Omega.{arith}
use Rattle.book.proofs.Puts.{atoms-begun, atoms-put, atoms-skipped, atoms-room}
use Rattle.book.proofs.making.write_atoms.Goals as goal
use Rattle.book.proofs.making.write_atoms.Goals.{then-said, else-said}

pub loop-a-init : goal.loop-a-init
loop-a-init c = atoms-begun c.args.table.now _ _

pub write_byte-n-requires : goal.write_byte-n-requires
write_byte-n-requires c =
    let a = c.args in
    atoms-room a.table.now a.at _ c.loop-a.invariant (omega arith) c.if-said.true c.requires

pub loop-a-preserved : goal.loop-a-preserved
loop-a-preserved c =
    let a = c.args in
    let t = a.table.now in
    elim c.if-said.branch [
      | then-said w ↦ rw (w.draft-is, w.n-is) (atoms-put t a.at _ c.loop-a.invariant refl w.if-said.true w.write_byte-n.ensures)
      | else-said w ↦ rw (w.draft-is, w.n-is) (atoms-skipped t a.at _ c.loop-a.invariant refl w.if-said.false)
    ]

pub returns : goal.returns
returns c =
    let e : c.loop-a.a ≡ 255 = omega arith in
    rw e at c.loop-a.invariant
