-- A set of rules, written out, that grows by turns: what one turn does to it, and what a pass over the rules does. Document 01:
-- "Closing repeats these until nothing is added." Which rules go is told by a condition.
--
--   Condition        which rules go, asked of the set as it stands
--   Turn k r l more m after   rule r has its turn at the set l and leaves m: nothing is done, or r is added. `more` says whether the
--                    pass had added a rule before, and `after` whether it has then
--   Grown b k l m    l has become m: what was added goes, whatever else goes
--   Pass b k n l m more   the rules below n have had their turns; `more` says whether one was added
use Rattle.std.specs.Prelude.{◌≡◌, Bool, true, false, List, ℕ, ◌≤◌, ◌<◌, length, set}
use Rattle.meaning.specs.declared.RuleNo.{RuleNo}
use Rattle.meaning.specs.Sets.{◌∈◌, ◌∉◌, ◌⊆◌}
use Rattle.meaning.specs.Books.{Rules, Book, count}
use Rattle.meaning.specs.Colours.{Under}
use Rattle.meaning.specs.Written.{of}

abbrev pub Condition : Type 0
Condition = Rules → Rules

pub data Turn (k : Condition) (r : RuleNo) (l : List Bool) (more : Bool) : List Bool → Bool → Type 0 where
  stays : (r ∉ of l → r ∉ k (of l)) → Turn k r l more l more
  added : r ∉ of l → r ∈ k (of l) → Turn k r l more (set l r.0 true) true

pub record Grown (b : Book) (k : Condition) (l m : List Bool) : Type 0 where
  pub long : length m ≡ length l
  pub outside : (r : RuleNo) → count b ≤ r.0 → of m r ≡ of l r
  pub above : of l ⊆ of m
  pub forced : (w : Rules) → Under b (k w) w → Under b (of l) w → Under b (of m) w

pub record Pass (b : Book) (k : Condition) (n : ℕ) (l m : List Bool) (more : Bool) : Type 0 where
  pub grown : Grown b k l m
  pub more-differs : more ≡ true → l ≡ m → ⊥
  pub none-same : more ≡ false → l ≡ m
  pub none-rests : more ≡ false → (r : RuleNo) → r.0 < n → r ∈ k (of l) → r ∈ of l
