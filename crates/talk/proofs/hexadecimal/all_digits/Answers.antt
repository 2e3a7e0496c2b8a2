-- `all_digits` asks of each byte what its definition asks.
use Rattle.std.proofs.Common.{◌∙◌, rules, tests, nat_lt}
use Rattle.std.proofs.lemmas.Iterator.{YieldsList-from_slice}
use Rattle.std.proofs.lemmas.Iterator.Search.{all_from_yields_List}
use Rattle.talk.specs.Hexadecimal.{digit_of}
use Rattle.talk.proofs.Turns.{digits-all}
use Rattle.talk.proofs.hexadecimal.all_digits.Goals as goal

pub returns : goal.returns
returns c =
    all_from_yields_List (λ x. nat_lt (digit_of x) 16) _ _ _ c.all.ensures.ran (YieldsList-from_slice c.args.word.now cc) (λ x b q k. search (rules, tests))
    ∙ digits-all c.args.word.now
