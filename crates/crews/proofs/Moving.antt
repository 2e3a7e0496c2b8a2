-- A book's rules moved up, as the code moves them: a part's atoms go to a table one by one, the table's atoms are the part's, moved up, and
-- the rules are added one behind the other. Document 02, request 9: "numbered on after the first's".
use mathlib.Core.Path.{◌≡◌, refl, sym, ◌∙◌, ap}
use mathlib.Core.Logic.{⊎_elim}
use mathlib.Core.Bool.{Bool, true, false, or-false}
use mathlib.Core.List.Memᴰ
use mathlib.Core.List.{List, [], ◌∷◌, ◌++◌, map, map-append}
use Prim.Native.Nat.{ℕ, ◌+◌, ◌-◌, ◌≤◌, ◌<◌}
use native.Mathlib.Nat.{zero-add}
use native.Mathlib.Numerals.{add-one}
use native.Mathlib.Omega.{arith}
use lib.ListN.{length, get_or, take, set, replicate, get_or-eq_default}
use lib.Seq.{take-suc, take-length}
use borrow.Author.Tests.{eqb-true}
use Rattle.meaning.specs.declared.AtomNo.{AtomNo}
use Rattle.meaning.specs.Sets.{some}
use Rattle.meaning.specs.Books.{Atoms, atom_no, rule_no, same_atom, Rule, Book, count, rule}
use Rattle.meaning.specs.Joined.{up_atom, up_rule, joined}
use Rattle.meaning.proofs.Tests.{or_left, or_right, true-and-false, lt-or-le}
use Rattle.meaning.proofs.Sets.{some-append, some_one, some-by}
use Rattle.meaning.proofs.Rules.{atom-same}
use Rattle.book.specs.Writing.{atom_bytes, BodyFits, RuleFits}
use Rattle.book.specs.Tables.{atom_table, atoms_in, Below}
use Rattle.book.specs.declared.making.Making.{Making}
use Rattle.book.specs.declared.reader.Shape.{Shape}
use Rattle.book.specs.Format.{book_in, ReadAs}
use Rattle.book.specs.Making.{said_of, listed, rule_by, Small, Made, Adds, Finished}
use Rattle.book.proofs.AtomSets.{table-in, table-length, table_filled, table-set, other-atom}
use Rattle.book.proofs.AtomsFrom.{atoms-of}
use Rattle.book.proofs.Bodies.{atoms-bytes, bytes_below}
use Rattle.book.proofs.Places.{shape-atoms, shape-count}
use Rattle.book.proofs.Made.{adds-nil, adds_then, fits-small}
use Rattle.book.proofs.Joined.{up-ascends, joined-fits, shape-keeps}

-- ---- a part's atoms in a table

-- the atoms of a list, moved up
abbrev pub moved : ℕ → List AtomNo → Atoms
moved up l a = some (λ d. same_atom (up_atom up d) a) l

pub moved_none : (up : ℕ) → replicate 255 false ≡ atom_table (moved up [])
unfolding some
moved_none up = table_filled false

module _ (up : ℕ) (part : List ℕ) (i : ℕ) (h : i < length part) where
  abbrev here : AtomNo
  here = atom_no (get_or part i 0)

  -- the atoms before it
  abbrev done : List AtomNo
  done = map atom_no (take i part)

  abbrev same-as : AtomNo → AtomNo → Bool
  same-as a d = same_atom (up_atom up d) a

  one_more : map atom_no (take (i + 1) part) ≡ map atom_no (take i part) ++ (here ∷ [])
  one_more = rw (add-one i, take-suc part i 0 h) (map-append atom_no (take i part) (get_or part i 0 ∷ []))

  pub moved_more : {table : List Bool} {n : ℕ} → table ≡ atom_table (moved up (map atom_no (take i part))) → n ≡ up + get_or part i 0
      → up + get_or part i 0 < 255 → set table n true ≡ atom_table (moved up (map atom_no (take (i + 1) part)))
  unfolding some
  moved_more e f g =
      rw (e, f, one_more) (table-set _ _ (up_atom up here) true g
      (some-append (same-as (up_atom up here)) done (here ∷ []) ∙ or_right (some (same-as (up_atom up here)) done) (or_left _ (atom-same refl)))
      (λ c d. sym (some-append (same-as c) done (here ∷ []) ∙ rw (other-atom (up_atom up here) c d, or-false))))

pub moved_all : (up : ℕ) (part : List ℕ) {i : ℕ} {table : List Bool} → i ≡ length part
    → table ≡ atom_table (moved up (map atom_no (take i part))) → table ≡ atom_table (moved up (map atom_no part))
moved_all up part e f = f ∙ rw (e, take-length)

-- ---- and back

module _ (up : ℕ) (l : List AtomNo) (n : ℕ) (fits : BodyFits n l) (room : up + n ≤ 255) where
  abbrev table : List Bool
  table = atom_table (moved up l)

  table-says : (a : AtomNo) → a.0 < 255 → said_of table a.0 ≡ moved up l a
  unfolding atoms_in
  table-says a h = table-in (moved up l) a h

  small : (a : AtomNo) → said_of table a.0 ≡ true → a.0 < 255
  small a e = ⊎_elim (λ h. h) (λ h. true-and-false e (get_or-eq_default table false (rw (table-length (moved up l)) h))) (lt-or-le a.0 255)

  same-atom : (a c : AtomNo) → same_atom a c ≡ true → a ≡ c
  unfolding same_atom
  same-atom a c e = let p = eqb-true a.0 c.0 e in λ i. record { 0 = p i }

  pub moved_listed : listed table ≡ map (up_atom up) l
  moved_listed = atoms-of 0 255 (said_of table) (map (up_atom up) l) (up-ascends up l ∙ fits.ascends)
      (λ a m. let (d, k, e) = Memᴰ.of_map (up_atom up) l m in
      let h : a.0 < 255 = rw (← e) (omega (arith, fits.below d k)) in
      (omega arith, omega arith, table-says a h ∙ some_one _ l d k (rw e (atom-same refl))))
      (λ a e. let (d, k, p) = some-by _ l (sym (table-says a (small a e)) ∙ e) in
      let q : up_atom up d ≡ a = same-atom _ _ p in
      rw (← q) (Memᴰ.map (up_atom up) k))

-- ---- a rule, and rules one behind the other

module _ (up n : ℕ) (r : Rule) (fits : RuleFits n r) (room : up + n ≤ 255) where
  -- the rule of the moved head and of the two tables
  pub moved-rule : {a : ℕ} {pos neg : List ℕ} {p q : List Bool} → a ≡ r.head.0 → pos ≡ atom_bytes r.pos → neg ≡ atom_bytes r.neg
      → p ≡ atom_table (moved up (map atom_no pos)) → q ≡ atom_table (moved up (map atom_no neg))
      → rule_by (atom_no (up + a)) p q ≡ up_rule up r
  unfolding up_rule
  moved-rule e f g h k =
      let u = ap listed (h ∙ ap (λ l. atom_table (moved up l)) (ap (map atom_no) f ∙ atoms-bytes r.pos)) ∙ moved_listed up r.pos n fits.pos room in
      let v = ap listed (k ∙ ap (λ l. atom_table (moved up l)) (ap (map atom_no) g ∙ atoms-bytes r.neg)) ∙ moved_listed up r.neg n fits.neg room in
      λ i. record { head = atom_no (up + e i); pos = u i; neg = v i }

pub below-moved : (up n : ℕ) (l : List AtomNo) → BodyFits n l → up + n ≤ 255 → {part : List ℕ} → part ≡ atom_bytes l
    → Below (255 - up) part
below-moved up n l fits room e = rw e (bytes_below (255 - up) l (λ a m. omega (arith, fits.below a m)))

pub adds-as : {r q : Rule} {m n : Making} {before after : List ℕ} → r ≡ q → Adds (r ∷ []) m before n after → Adds (q ∷ []) m before n after
adds-as e v = rw (← e) v

-- the first r rules, moved up
abbrev pub moved_rules : ℕ → Book → ℕ → List Rule
moved_rules up b r = map (up_rule up) (take r b.rules)

pub rules-none : (up : ℕ) (b : Book) (m : Making) (d : List ℕ) → Adds (moved_rules up b 0) m d m d
rules-none up b m d = adds-nil m d

-- a rule that is not asked for
abbrev none : Rule
none = record { head = atom_no 0; pos = []; neg = [] }

pub rules-more : (up : ℕ) (b : Book) (r : ℕ) → r < count b → {m n o : Making} {before mid after : List ℕ}
    → Adds (moved_rules up b r) m before n mid → Adds (up_rule up (rule b (rule_no r)) ∷ []) n mid o after
    → Adds (moved_rules up b (r + 1)) m before o after
unfolding rule count
rules-more up b r h v w =
    let e : moved_rules up b (r + 1) ≡ moved_rules up b r ++ (up_rule up (rule b (rule_no r)) ∷ []) =
    rw (add-one r, take-suc b.rules r none h) (map-append (up_rule up) (take r b.rules) (rule b (rule_no r) ∷ [])) in
    rw e (adds_then v w)

pub rules-all : (up : ℕ) (b : Book) (r : ℕ) → r ≡ count b → {m n : Making} {before after : List ℕ}
    → Adds (moved_rules up b r) m before n after → Adds (map (up_rule up) b.rules) m before n after
unfolding count
rules-all up b r e v = rw (ap (λ l. map (up_rule up) l) (ap (λ i. take i b.rules) e ∙ take-length b.rules)) at v

-- ---- both books

up_none : (r : Rule) → up_rule 0 r ≡ r
unfolding up_rule
up_none r = let p = atoms-none r.pos in let q = atoms-none r.neg in
    λ i. record { head = atom_no (zero-add r.head.0 i); pos = p i; neg = q i }
  where
    atoms-none : (l : List AtomNo) → map (up_atom 0) l ≡ l
    atoms-none [] = refl
    atoms-none (a ∷ l) = λ i. atom_no (zero-add a.0 i) ∷ atoms-none l i

rules-up-none : (l : List Rule) → map (up_rule 0) l ≡ l
rules-up-none [] = refl
rules-up-none (r ∷ l) = λ i. up_none r i ∷ rules-up-none l i

pub both-made : (b c : Book) {up : ℕ} → b.atoms ≡ up → {m n o : Making} {before mid after : List ℕ} → Made [] m before
    → Adds (map (up_rule 0) b.rules) m before n mid → Adds (map (up_rule up) c.rules) n mid o after
    → Made (joined b c).rules o after
unfolding joined
both-made b c e g v w = rw (rules-up-none b.rules) at (rw (← e) at (w.behind _ (v.behind [] g)))

pub both_small : (s t : List ℕ) (h g : Shape) → ReadAs s h → ReadAs t g → h.atoms + g.atoms ≤ 255 → h.rules + g.rules ≤ 255
    → Small (joined (book_in s) (book_in t)).rules
both_small s t h g e f few-atoms few-rules =
    fits-small _ (joined-fits _ _ (shape-keeps s h e (omega arith) (omega arith)) (shape-keeps t g f (omega arith) (omega arith))
    (rw (shape-atoms s h e, shape-atoms t g f) few-atoms) (rw (shape-count s h e, shape-count t g f) few-rules))

pub both-finished : (b c : Book) {a n : ℕ} {d : List ℕ} → b.atoms + c.atoms ≡ a
    → Finished (record { atoms = a; rules = (joined b c).rules }) n d → Finished (joined b c) n d
unfolding joined
both-finished b c e f = rw (← e) at f
