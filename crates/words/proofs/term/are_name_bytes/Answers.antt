-- Every byte passed may stand in a name.
use Rattle.std.proofs.Common.{refl, rules}
use Rattle.std.proofs.lemmas.List.Recursion.{and_is}
use Rattle.meaning.specs.Sets.{every}
use Rattle.words.specs.Terms.{name_byte}
use Rattle.words.proofs.term.are_name_bytes.Goals as goal

pub returns : goal.returns
unfolding every
returns c = and_is (every name_byte) name_byte refl (λ x xs. refl) c.args.word.now 0 _ (search rules) (search rules)
