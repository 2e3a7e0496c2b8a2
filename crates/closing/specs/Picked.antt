-- What the functions that look for a rule hand their callers, in the words of the meaning.
use Rattle.std.specs.Prelude.{Option, Some, None}
use Rattle.meaning.specs.declared.RuleNo.{RuleNo}
use Rattle.meaning.specs.Lowest.{Pick, none, one}

abbrev pub picked : Option RuleNo → Pick
picked None = none
picked (Some r) = one r
