-- How a text is read: line by line, as far as its lines are those of a book. Nobody has to believe this page: proofs/Exact.antt shows that it
-- gives a book exactly where the text is formed (specs/Text).
--
--   Got A            what was read and the bytes behind it, or that the bytes are none such
--   skip m l         the bytes m
--   number_in most l  a number in the fewest digits, up to `most`
--   item_in most m least l   the bytes m and then a number that is at least `least`
--   part_in f most sign acc least l   the literals of one part, as many as there are, behind those of acc; f is more than the bytes
--   rule_in most l    a rule line
--   rules_in, outputs_in   rule lines behind those read; output lines from atom k on, as many as there are
--   book_from s       the whole text
use Rattle.std.specs.Prelude.{List, [], ◌∷◌, ◌++◌, ℕ, zero, suc, ◌+◌, ◌-◌, max, length, take, drop}
use Prim.{Unit, tt}
use Rattle.meaning.specs.declared.AtomNo.{AtomNo}
use Rattle.meaning.specs.Books.{atom_no, Rule, Book}
use Rattle.meaning.specs.Choice.{if_lt, if_eq}
use Rattle.std.specs.Prelude.{Option, Some, None}
use Rattle.decimal.specs.Digits.{plain_of}
use Rattle.aspif.specs.Text.{header, opening, normal, plus, minus, line_end, last, output_line}

pub data Got (A : Type 0) : Type 0 where
  got : A → List ℕ → Got A
  outside : Got A

-- go on with what was read, or stop
unfoldable pub on_got : {A B : Type 0} → Got A → Got B → (A → List ℕ → Got B) → Got B
on_got (got a l) stop go = go a l
on_got outside stop go = stop

abbrev pub and_then : {A B : Type 0} → Got A → (A → List ℕ → Got B) → Got B
and_then x go = on_got x outside go

unfoldable pub skip : List ℕ → List ℕ → Got (Unit {0})
skip [] l = got tt l
skip (x ∷ m) [] = outside
skip (x ∷ m) (y ∷ l) = if_eq x y (skip m l) outside

-- how many digits stand in front
unfoldable pub digit_count : List ℕ → ℕ
digit_count [] = 0
digit_count (x ∷ l) = if_lt x 48 0 (if_lt 57 x 0 (suc (digit_count l)))

unfoldable pub numbered : Option ℕ → List ℕ → Got ℕ
numbered (Some v) l = got v l
numbered None l = outside

unfoldable pub number_in : ℕ → List ℕ → Got ℕ
number_in most l = numbered (plain_of most (take (digit_count l) l)) (drop (digit_count l) l)

unfoldable pub item_in : ℕ → List ℕ → ℕ → List ℕ → Got ℕ
item_in most m least l =
    and_then (skip m l) (λ u k. and_then (number_in most k) (λ v r. if_lt v least outside (got v r)))

unfoldable pub part_in : ℕ → ℕ → List ℕ → List AtomNo → ℕ → List ℕ → Got (List AtomNo)
part_in zero most sign acc least l = got acc l
part_in (suc f) most sign acc least l =
    on_got (item_in most sign least l) (got acc l) (λ v r. part_in f most sign (acc ++ (atom_no (v - 1) ∷ [])) (v + 1) r)

-- one part of a body
unfoldable pub whole_part : ℕ → List ℕ → List ℕ → Got (List AtomNo)
whole_part most sign l = part_in (suc (length l)) most sign [] 1 l

-- the literals of a body of c and the line end, behind the head h
unfoldable pub body_in : ℕ → ℕ → ℕ → List ℕ → Got Rule
body_in most h c l =
    and_then (whole_part most plus l) (λ pos k. and_then (whole_part most minus k) (λ neg j. and_then (skip line_end j) (λ u r.
    if_eq c (length pos + length neg) (got (record { head = atom_no (h - 1); pos = pos; neg = neg }) r) outside)))

unfoldable pub rule_in : ℕ → List ℕ → Got Rule
rule_in most l = and_then (item_in most opening 1 l) (λ h k. and_then (item_in most normal 0 k) (λ c r. body_in most h c r))

unfoldable pub rules_in : ℕ → ℕ → List Rule → List ℕ → Got (List Rule)
rules_in zero most acc l = got acc l
rules_in (suc f) most acc l = on_got (rule_in most l) (got acc l) (λ r k. rules_in f most (acc ++ (r ∷ [])) k)

unfoldable pub outputs_in : ℕ → ℕ → List ℕ → Got ℕ
outputs_in zero n l = got n l
outputs_in (suc f) n l = on_got (skip (output_line n) l) (got n l) (λ u k. outputs_in f (suc n) k)

-- one more than the largest atom, 0 if there is none
unfoldable pub top_atom : List AtomNo → ℕ
top_atom [] = 0
top_atom (a ∷ l) = max (a.0 + 1) (top_atom l)

unfoldable pub top_rule : Rule → ℕ
top_rule r = max (r.head.0 + 1) (max (top_atom r.pos) (top_atom r.neg))

unfoldable pub top_rules : List Rule → ℕ
top_rules [] = 0
top_rules (r ∷ l) = max (top_rule r) (top_rules l)

-- nothing is left, and no atom is beyond the output lines
unfoldable pub ended : List Rule → ℕ → List ℕ → Got Book
ended rules n l = if_eq (length l) 0 (if_lt n (top_rules rules) outside (got (record { atoms = n; rules = rules }) [])) outside

unfoldable pub book_from : List ℕ → Got Book
book_from s =
    and_then (skip header s) (λ u l. and_then (rules_in (suc (length l)) (length s) [] l) (λ rules k.
    and_then (outputs_in (suc (length k)) 0 k) (λ n j. and_then (skip last j) (λ w r. ended rules n r))))
