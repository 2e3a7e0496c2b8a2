-- The heads of a text's choices, one by one. Document 02, request 10: "Each head of each such rule has a helper of its own, numbered after
-- the text's atoms in text order": so the j-th of them, counted from 0, is the head whose helper is the j-th atom behind the text's.
--
--   nth_head l j          the j-th of the list
--   free_head_of s j       the j-th head of a choice of the text; nothing where the text is refused
--   is_free, head_said     (src/free.rt) whether an atom is such a head, and the head that a word says
use Rattle.std.specs.Prelude.{Bool, true, false, List, [], ◌∷◌, ℕ, ◌-◌, Option, Some, None}
use Rattle.meaning.specs.Choice.{ifb, if_eq}
use Rattle.imported.specs.declared.TextAtom.{TextAtom}
use Rattle.imported.specs.Making.{free_heads}
use Rattle.lparse.specs.declared.due.Standing.{Standing}
use Rattle.lparse.specs.declared.due.Standing.TheVariants.{Head as InHead, Free as InFree, Negative as InNegative, Positive as InPositive, Table as InTable, Plus as InPlus, Minus as InMinus}
use Rattle.lparse.specs.declared.due.Said.{Said}
use Rattle.lparse.specs.declared.due.Said.TheVariants.{Nothing as Silent, Choice as Chooses, Atom}
use Rattle.lparse.specs.Reading.{Heard, says, wrong}
use Rattle.lparse.specs.Collect.{text_in}

unfoldable pub nth_head : List TextAtom → ℕ → Option TextAtom
nth_head [] j = None
nth_head (a ∷ l) j = if_eq j 0 (Some a) (nth_head l (j - 1))

unfoldable pub head_heard : Heard → ℕ → Option TextAtom
head_heard (says p) j = nth_head (free_heads p.rules) j
head_heard (wrong i at) j = None

abbrev pub free_head_of : List ℕ → ℕ → Option TextAtom
free_head_of s j = head_heard (text_in s) j

-- ---- what the functions of src/ hand each other

unfoldable pub is_free : Standing → Bool
is_free InHead = false
is_free InFree = true
is_free InNegative = false
is_free InPositive = false
is_free InTable = false
is_free InPlus = false
is_free InMinus = false

unfoldable pub head_said : Said → Option TextAtom
head_said Silent = None
head_said Chooses = None
head_said (Atom a standing) = ifb (is_free standing) (Some a) None
