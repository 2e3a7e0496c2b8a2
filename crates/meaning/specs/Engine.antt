-- The engine's own paper, step by step. Document 01, "The engine's own paper".
--
--   next b k c       the next step of a branch at the pair c: "write 45 as soon as allowed. Else write the first of: 41 for the lowest
--                    rule that may go on and isn't on; 42 for the lowest that may go off so and isn't off; 55 with all rules outside V
--                    that aren't off. If there is none, 53 with the lowest uncoloured rule." Stuck: "no step left, all rules coloured
--                    and 45 not allowed"
--   witness_of b x    the witness of an answer set: "next comes always the lowest on rule that may be listed"
use Rattle.std.specs.Prelude.{Bool, true, false, not, ◌&&◌, List, [], ◌∷◌, ◌++◌, ℕ, zero, suc}
use Rattle.meaning.specs.declared.RuleNo.{RuleNo}
use Rattle.meaning.specs.Sets.{every}
use Rattle.meaning.specs.Books.{Atoms, Rules, among, Book, count, rule}
use Rattle.meaning.specs.AnswerSet.{generating}
use Rattle.meaning.specs.Colours.{Pair, heads, may_on, blocked, uncoloured}
use Rattle.meaning.specs.declared.kind.Claim.{Claim}
use Rattle.meaning.specs.Claim.{ended}
use Rattle.meaning.specs.Written.{of}
use Rattle.meaning.specs.Computed.{support}
use Rattle.meaning.specs.Lowest.{Pick, none, one, on_pick, lowest, rules_in}

pub data Next : Type 0 where
  ends : Next
  puts-on : RuleNo → Next
  puts-off : RuleNo → Next
  drops : List RuleNo → Next
  splits : RuleNo → Next
  stuck : Next

-- the rules of s that are not in t
abbrev pub less : Rules → Rules → Rules
less s t r = s r && not (t r)

-- whether 45 is allowed, the rule for 41, the rule for 42, the rules for 55, the rule for 53
unfoldable pub first_of : Bool → Pick → Pick → List RuleNo → Pick → Next
first_of true p q l u = ends
first_of false (one r) q l u = puts-on r
first_of false none (one r) l u = puts-off r
first_of false none none (r ∷ l) u = drops (r ∷ l)
first_of false none none [] (one r) = splits r
first_of false none none [] none = stuck

-- the rules outside V that are not off
unfoldable pub unsupported : Book → Pair → Rules
unsupported b c = less (λ r. not (of (support b c.off) r)) c.off

unfoldable pub next : Book → Claim → Pair → Next
next b k c = first_of (ended b k c) (lowest b (less (may_on b c) c.on)) (lowest b (less (blocked b c) c.off))
    (rules_in b (unsupported b c)) (lowest b (uncoloured c))

-- the rules of s that are not listed and whose positive atoms are heads of listed rules
unfoldable pub listable : Book → Rules → List RuleNo → Rules
listable b s w r = less s (among w) r && every (heads b (among w)) (rule b r).pos

-- the list w with at most n rules of s listed behind it
unfoldable pub listing : Book → Rules → ℕ → List RuleNo → List RuleNo
listing b s zero w = w
listing b s (suc n) w = on_pick (lowest b (listable b s w)) w (λ r. listing b s n (w ++ (r ∷ [])))

unfoldable pub witness_of : Book → Atoms → List RuleNo
witness_of b x = listing b (generating b x) (count b) []
