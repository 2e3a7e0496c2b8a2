-- What the functions of src/ hand each other: the draft, an array in which a paper is made, and how far the paper's walk has come in it.
-- Document 01, "The paper": "At most 60,000 bytes". What comes behind that is counted as one byte more, and the paper is refused with 14.
--
--   Stands l n out         the bytes l are the first n of the array's 60,000; or there are more of them, and n says so
--   Writes l m out n out'  whatever stands in the array, l stands behind it afterwards
--   tip_of, tip_bytes        how the code says that a branch ends, and the bytes of that last step
--   Wrote t m out w out'   the branch t was written, and w says how it ended
--   Stage p out s          the code's p and the array stand for the progress s
use Rattle.std.specs.Prelude.{◌≡◌, List, [], ◌∷◌, ◌++◌, ℕ, ◌≤◌, ◌<◌, length, take}
use Rattle.meaning.specs.Colours.{Pair}
use Rattle.meaning.specs.Paper.{code_split, code_end, paper_bytes}
use Rattle.meaning.specs.Written.{written, pair}
use Rattle.writer.specs.Branches.{Branch, ended, parted, unsettled}
use Rattle.writer.specs.Branches.{Tip as End}
use Rattle.writer.specs.Scan.{Progress, writing, limited, refuted}
use Rattle.writer.specs.Scan.{Course as Way}
use Rattle.writer.specs.declared.step.Tip.{Tip}
use Rattle.writer.specs.declared.step.Tip.TheVariants.{Ended, Parted, Unsettled}
use Rattle.writer.specs.declared.branch.Written.{Written}
use Rattle.writer.specs.declared.split.Course.{Course}
use Rattle.writer.specs.declared.split.Course.TheVariants.{Writing, Limited, Refuted}
use Rattle.writer.specs.declared.split.Drafted.{Drafted}

pub data Stands (l : List ℕ) (n : ℕ) (out : List ℕ) : Type 0 where
  whole : length out ≡ paper_bytes → n ≡ length l → n ≤ paper_bytes → take n out ≡ l → Stands l n out
  passed : length out ≡ paper_bytes → n ≡ 60001 → paper_bytes < length l → Stands l n out

pub record Writes (l : List ℕ) (m : ℕ) (before : List ℕ) (n : ℕ) (after : List ℕ) : Type 0 where
  pub behind : (k : List ℕ) → Stands k m before → Stands (k ++ l) n after

abbrev pub tip_of : Tip → Pair → End
tip_of Ended c = ended
tip_of (Parted r) c = parted r c
tip_of Unsettled c = unsettled

abbrev pub tip_bytes : Tip → List ℕ
tip_bytes Ended = code_end ∷ []
tip_bytes (Parted r) = code_split ∷ (r.0 ∷ [])
tip_bytes Unsettled = []

pub record Wrote (t : Branch) (m : ℕ) (before : List ℕ) (w : Written) (after : List ℕ) : Type 0 where
  pub bytes : Writes t.bytes m before w.length after
  pub tip : tip_of w.tip (pair (written w.colours)) ≡ t.tip

abbrev pub course_of : Course → Way
course_of Writing = writing
course_of Limited = limited
course_of Refuted = refuted

pub record Stage (p : Drafted) (out : List ℕ) (s : Progress) : Type 0 where
  pub tries : p.tries ≡ s.tries
  pub bytes : Stands s.bytes p.length out
  pub course : course_of p.course ≡ s.course
