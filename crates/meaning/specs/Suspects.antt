-- Support found anew from what it was, after rules went off: the rules that may have lost theirs are the suspects, and all others keep
-- it. Document 02, request 14; document 01 asks only for the set V of Support, and proofs/Suspects proves that this is what is found.
--
--   live off         the rules that are not off
--   Alike b s t      s and t hold the same rules of the book
--   Settled b old    with these off all other rules are supported
--   free r           the rule has no positive atoms
--   sure b off       the heads of live free rules: nothing can take their support
--   doubted b off s  the heads of rules of s that are not sure
--   standing b off x   the live rules that have a positive atom in x
--   suspect b old off s   the live rules that stand on the head of a rule which went off since `old`, or of a rule of s, unless it is sure
--   AtRest b more s  s holds what `more` would add to it
--   Suspects b old off s   the smallest set that holds the rules which it makes suspect
--   stands b s v     the rules of s all of whose positive atoms are heads of rules of v
--   Cleared b s first v   the smallest set that holds `first` and each rule of s which stands on it
--
-- All of it speaks of the rules of the book only.
use Rattle.std.specs.Prelude.{Bool, not, ◌&&◌, ◌≡◌, eqb, length}
use Rattle.meaning.specs.declared.RuleNo.{RuleNo}
use Rattle.meaning.specs.Sets.{every, some, Smallest}
use Rattle.meaning.specs.Books.{Atoms, Rules, Rule, Book, rule, InBook}
use Rattle.meaning.specs.Colours.{heads, Under, Support}
use Rattle.meaning.specs.Engine.{less}
use Rattle.meaning.specs.Pending.{joined}

abbrev pub live : Rules → Rules
live off r = not (off r)

abbrev pub Alike : Book → Rules → Rules → Type 0
Alike b s t = (r : RuleNo) → InBook b r → s r ≡ t r

abbrev pub Settled : Book → Rules → Type 0
Settled b old = Support b old (live old)

unfoldable pub free : Rule → Bool
free r = eqb (length r.pos) 0

unfoldable pub sure : Book → Rules → Atoms
sure b off = heads b (λ r. live off r && free (rule b r))

unfoldable pub doubted : Book → Rules → Rules → Atoms
doubted b off s a = heads b s a && not (sure b off a)

unfoldable pub standing : Book → Rules → Atoms → Rules
standing b off x r = live off r && some x (rule b r).pos

unfoldable pub suspect : Book → Rules → Rules → Rules → Rules
suspect b old off s = standing b off (doubted b off (joined (less off old) s))

abbrev pub AtRest : Book → (Rules → Rules) → Rules → Type 0
AtRest b more s = Under b (more s) s

abbrev pub Suspects : Book → Rules → Rules → Rules → Type 0
Suspects b old off s = Smallest (Under b) (AtRest b (suspect b old off)) s

unfoldable pub stands : Book → Rules → Rules → Rules
stands b s v r = s r && every (heads b v) (rule b r).pos

abbrev pub Cleared : Book → Rules → Rules → Rules → Type 0
Cleared b s first v = Smallest (Under b) (λ t. Under b first t × AtRest b (stands b s) t) v
