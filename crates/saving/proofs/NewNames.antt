-- Where the path was copied to the front of a buffer and `.new` behind it, the new name stands at its front, and the buffer holds it whole.
use Rattle.std.proofs.Common.{◌≡◌, List, ◌++◌, ℕ, ◌+◌, length, take, arith, length-append}
use Rattle.std.proofs.Math.Seq.{take-length, take-append_seam, take-append-add}
use Rattle.system.specs.Counts.{IsPrefixLen}
use Rattle.system.proofs.Counting.{prefix_len_of_le}
use Rattle.saving.specs.NewName.{dot_new, new_name}

-- the path as it was copied is the whole path, whatever stands behind it
copied : (path rest : List ℕ) → take (length path) (take (length path) path ++ rest) ≡ path
copied path rest = rw (take-length path) (take-append_seam path rest)

pub new-name-written : (path rest behind after : List ℕ) {first second : List ℕ} {n m : ℕ}
    → n ≡ length path → first ≡ take (length path) path ++ rest → m ≡ 4 → second ≡ dot_new ++ behind
    → (take (n + m) (take n first ++ (second ++ after)) ≡ new_name path) × IsPrefixLen (n + m) (take n first ++ (second ++ after))
unfolding dot_new new_name
new-name-written path rest behind after e f g h = rw (e, f, g, h, copied path rest)
    (take-append-add path _ 4, prefix_len_of_le _ _ (simp length-append (omega arith)))

-- the same as two copies leave it, each of the whole of its bytes
pub new-name-copied : (path rest after first second : List ℕ) → first ≡ path → second ≡ dot_new
    → take (length path + 4) (take (length path) (first ++ rest) ++ (second ++ after)) ≡ new_name path
unfolding dot_new new_name
new-name-copied path rest after first second e f = rw (e, f, take-append_seam path rest) (take-append-add path _ 4)
