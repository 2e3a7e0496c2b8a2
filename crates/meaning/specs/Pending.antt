-- Propagation by what is new: what has still to be looked at is atoms newly true, atoms newly lost and rules to look at again. All else has
-- been dealt with. Document 02, request 11; the propagation is that of specs/Propagation.
--
--   Forced b c d     d holds c, and is within every propagated pair that holds c
--   Pending b c nt nl cand   all has been dealt with but for the atoms of nt, newly true, and of nl, newly lost, and the rules of cand
--   hit b nt nl, called b nt nl   the rules that these atoms block or starve; the rules that may go on because of them
--   dropped s c      the pair with the rules of s put in off
--   newly_lost b s off   heads of rules of s that were not off, all of whose rules are off with s
--   newly_true b r on nt   the atoms of nt, and the head of r unless it was the head of an on rule before
use Rattle.std.specs.Prelude.{◌≡◌, true, false, not, ◌&&◌, ◌||◌}
use mathlib.Core.List.{Memᴰ}
use Rattle.meaning.specs.declared.AtomNo.{AtomNo}
use Rattle.meaning.specs.declared.RuleNo.{RuleNo}
use Rattle.meaning.specs.Sets.{◌∈◌, ◌∉◌, ◌⊆◌, some}
use Rattle.meaning.specs.Books.{Atoms, Rules, same_atom, Book, rule, InBook}
use Rattle.meaning.specs.Colours.{Pair, heads, all_in, may_on, Within}
use Rattle.meaning.specs.Engine.{less}
use Rattle.meaning.specs.Propagation.{PropagatedAbove}

pub record Forced (b : Book) (c d : Pair) : Type 0 where
  pub above : Within b c d
  pub below : (e : Pair) → PropagatedAbove b c e → Within b d e

-- the rule is on, or it will be looked at: as a candidate, or for an atom of its body that is new
pub data Waits (b : Book) (c : Pair) (nt nl : Atoms) (cand : Rules) (r : RuleNo) : Type 0 where
  is-on : r ∈ c.on → Waits b c nt nl cand r
  is-candidate : r ∈ cand → Waits b c nt nl cand r
  by-true : some nt (rule b r).pos ≡ true → Waits b c nt nl cand r
  by-lost : some nl (rule b r).neg ≡ true → Waits b c nt nl cand r

pub record Pending (b : Book) (c : Pair) (nt nl : Atoms) (cand : Rules) : Type 0 where
  -- what is new is so
  pub is_true : nt ⊆ heads b c.on
  pub is_lost : nl ⊆ all_in b c.off
  -- other atoms that are true or lost have put off the rules that they block or starve
  pub blocks : (r : RuleNo) → InBook b r → (a : AtomNo) → Memᴰ a (rule b r).neg → a ∈ heads b c.on → a ∉ nt → r ∈ c.off
  pub starves : (r : RuleNo) → InBook b r → (a : AtomNo) → Memᴰ a (rule b r).pos → a ∈ all_in b c.off → a ∉ nl → r ∈ c.off
  -- a rule that may go on is on, or will be looked at
  pub waits : (r : RuleNo) → InBook b r → r ∈ may_on b c → Waits b c nt nl cand r

abbrev pub no_atoms : Atoms
no_atoms a = false

unfoldable pub hit : Book → Atoms → Atoms → Rules
hit b nt nl r = some nt (rule b r).neg || some nl (rule b r).pos

unfoldable pub called : Book → Atoms → Atoms → Rules
called b nt nl r = some nt (rule b r).pos || some nl (rule b r).neg

abbrev pub joined : Rules → Rules → Rules
joined s t r = s r || t r

abbrev pub dropped : Rules → Pair → Pair
dropped s c = record { on = c.on; off = joined c.off s }

unfoldable pub newly_lost : Book → Rules → Rules → Atoms
newly_lost b s off a = heads b (less s off) a && all_in b (joined off s) a

unfoldable pub newly_true : Book → RuleNo → Rules → Atoms → Atoms
newly_true b r on nt a = nt a || (same_atom (rule b r).head a && not (heads b on a))
