-- The writer's way along the branches. Document 01: "A branch with no step left, all rules coloured and 45 not allowed settles that the
-- atom isn't certain, and the walk stops there."
--
--   scan limit p l   the progress after the branches of the list, from the progress p
use Rattle.std.specs.Prelude.{List, [], ◌∷◌, ◌++◌, ℕ, ◌+◌}
use Rattle.meaning.specs.Choice.{if_eq}
use Rattle.writer.specs.Branches.{Tip, ended, parted, unsettled, Branch}

-- still writing; one more branch would pass the limit (9); a branch was left unsettled (12)
pub data Course : Type 0 where
  writing : Course
  limited : Course
  refuted : Course

pub record Progress : Type 0 where
  pub tries : ℕ
  pub bytes : List ℕ
  pub course : Course

unfoldable pub course_at : Tip → Course
course_at ended = writing
course_at (parted r c) = writing
course_at unsettled = refuted

unfoldable pub met : ℕ → Course → Progress → Branch → Progress
met limit writing p t =
    if_eq p.tries limit (record { tries = p.tries; bytes = p.bytes; course = limited })
    (record { tries = p.tries + 1; bytes = p.bytes ++ t.bytes; course = course_at t.tip })
met limit limited p t = p
met limit refuted p t = p

unfoldable pub scan : ℕ → Progress → List Branch → Progress
scan limit p [] = p
scan limit p (t ∷ l) = scan limit (met limit p.course p t) l
