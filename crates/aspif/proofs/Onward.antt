-- Bytes stored piece by piece: what is left to store, behind what was stored, makes the whole.
use mathlib.Core.Path.{◌≡◌, refl, sym, ◌∙◌, ap}
use mathlib.Core.List.{List, [], ◌++◌}
use Prim.Native.Nat.{ℕ, ◌+◌, ◌≤◌}
use native.Mathlib.Omega.{arith}
use lib.ListN.{length, length-append}
use lib.Seq.{sets, sets-eq, length-sets, take-length}
use borrow.Rule.Slice.PartMut.{put_mid}
use Rattle.std.proofs.lemmas.Slice.{put_mid-paste}
use Rattle.decimal.specs.Fewest.{Stored}
use Rattle.decimal.proofs.Fewest.{stored-nil, stored-then}

pub record Onward (whole : List ℕ) (start : ℕ) (before left : List ℕ) (at : ℕ) (d : List ℕ) : Type 0 where
  pub room : at + length left ≤ length d
  pub long : length d ≡ length before
  pub rest : (n : ℕ) (e : List ℕ) → Stored left at d n e → Stored whole start before n e

pub onward-start : (l : List ℕ) (at : ℕ) (d : List ℕ) → at + length l ≤ length d → Onward l at d l at d
onward-start l at d h = record { room = h; long = refl; rest = λ n e s. s }

module _ {whole : List ℕ} {start : ℕ} {before left : List ℕ} {at : ℕ} {d : List ℕ} (o : Onward whole start before left at d) where
  pub onward-room : (l m : List ℕ) → left ≡ l ++ m → at + length l ≤ length d
  onward-room l m e = omega (arith, o.room, rw length-append at (ap length e))

  pub onward-more : (l m : List ℕ) {n : ℕ} {f : List ℕ} → left ≡ l ++ m → Stored l at d n f → Onward whole start before m n f
  onward-more l m e s = record {
    room = omega (arith, o.room, s.ends, s.long, rw length-append at (ap length e));
    long = s.long ∙ o.long;
    rest = λ k g t. o.rest k g (rw e (stored-then s t));
  }

  pub onward-end : left ≡ [] → Stored whole start before at d
  onward-end e = o.rest at d (rw e (stored-nil at d))

-- ---- bytes copied

pub stored-copied : (w d copied : List ℕ) (at : ℕ) {k : ℕ} → at + length w ≤ length d → copied ≡ w → k ≡ length w
    → Stored w at d (at + length w) (put_mid at k d copied)
stored-copied w d copied at {k} h e f =
    let g : put_mid at k d copied ≡ sets d at w
    = put_mid-paste at k d copied w (length w) e (sym f) refl ∙ rw take-length (sym (sets-eq w d at h)) in
    rw g (record { ends = refl; long = length-sets d at w; bytes = refl })
