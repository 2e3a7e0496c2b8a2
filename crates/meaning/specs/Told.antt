-- What is told of a call. Document 01, "Numbers given back": "Every answer names the place too, where the table gives one." Every entry point
-- tells in this one way; each says beside its answers what is told of them, and what a success's values are.
--
--   Told S           a success with its values, or a refusal's number with its values, its place or nothing
--   Answered S       what is told, and what the lent buffer holds afterwards
use Rattle.std.specs.Prelude.{List, [], ◌∷◌, ℕ}

pub data Told (S : Type 0) : Type 0 where
  success : S → Told S
  refused_with : ℕ → List ℕ → Told S
  refused_at : ℕ → ℕ → Told S
  refused : ℕ → Told S

-- "Refusal 11 tells all tries and how many answer sets there are"; document 02: "refusal 11 also gives the rule for the last contradictory
-- try, or 255 if the walk had none"
abbrev pub fewer : {S : Type 0} → ℕ → ℕ → ℕ → Told S
fewer tries sets rule = refused_with 11 (tries ∷ (sets ∷ (rule ∷ [])))

-- "Refusal 9 tells L."
abbrev pub stopped : {S : Type 0} → ℕ → Told S
stopped limit = refused_with 9 (limit ∷ [])

pub record Answered (S : Type 0) : Type 0 where
  pub told : Told S
  pub buffer : List ℕ
