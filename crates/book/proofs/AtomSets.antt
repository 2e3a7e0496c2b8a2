-- Sets of atoms written out: what is read from a table, that tables of the same set are equal, what one store does; and the tables of
-- heads, and of atoms all of whose rules are in a set, as a loop over the rules fills them. Document 01, "Colours and closing".
use mathlib.Core.Path.{◌≡◌, refl, sym, ◌∙◌}
use mathlib.Core.Bool.{Bool, true, false, not, ◌&&◌, ◌||◌}
use mathlib.Core.List.{List}
use Prim.Native.Nat.{ℕ, ◌+◌, ◌<◌}
use native.Mathlib.Nat.{zero-add}
use native.Mathlib.Decide.{ℕ_discrete}
use native.Mathlib.Numerals.{add-one}
use lib.ListN.{length, get_or, set, replicate, length-set}
use lib.Seq.{ext_get_or, get_or-set_same, get_or-set_other}
use borrow.Author.Tests.{ne_eqb}
use Rattle.meaning.specs.declared.AtomNo.{AtomNo}
use Rattle.meaning.specs.Sets.{every_below, some_below}
use Rattle.meaning.specs.Books.{Atoms, Rules, atom_no, rule_no, same_atom, Book, count, rule, every_rule, some_rule}
use Rattle.meaning.specs.Bits.{table_from}
use Rattle.meaning.specs.Colours.{heads, all_in}
use Rattle.meaning.proofs.Tests.{or_left, or_right}
use Rattle.meaning.proofs.Sets.{all-next}
use Rattle.meaning.proofs.Rules.{atom-same}
use Rattle.meaning.proofs.Listed.{table-long, table_at}
use Rattle.book.specs.Tables.{atom_table, atoms_in, said_by}

-- ---- reading

pub table-length : (x : Atoms) → length (atom_table x) ≡ 255
unfolding atom_table
table-length x = table-long 0 255 (λ n. x (atom_no n))

place_at : (x : Atoms) (n : ℕ) → n < 255 → get_or (atom_table x) n false ≡ x (atom_no n)
unfolding atom_table
place_at x n h = rw zero-add at (table_at 0 255 (λ i. x (atom_no i)) n h)

pub table-in : (x : Atoms) (a : AtomNo) → a.0 < 255 → atoms_in (atom_table x) a ≡ x a
unfolding atoms_in
table-in x a h = place_at x a.0 h

-- ---- writing

-- a list of 255 places is the table of what it says
table_of : (l : List Bool) (x : Atoms) → length l ≡ 255 → ((n : ℕ) → n < 255 → get_or l n false ≡ x (atom_no n)) → l ≡ atom_table x
table_of l x e f =
    ext_get_or false l (atom_table x) (e ∙ sym (table-length x)) (λ n h. f n (rw e at h) ∙ sym (place_at x n (rw e at h)))

pub table_same : (x y : Atoms) → ((a : AtomNo) → x a ≡ y a) → atom_table x ≡ atom_table y
table_same x y f = table_of (atom_table x) y (table-length x) (λ n h. place_at x n h ∙ f (atom_no n))

pub table_filled : (v : Bool) → replicate 255 v ≡ atom_table (λ a. v)
unfolding atom_table table_from
table_filled v = refl

-- one store of v at atom a gives y, which is x but for what it says of a
pub table-set : (x y : Atoms) (a : AtomNo) (v : Bool) → a.0 < 255 → y a ≡ v → ((c : AtomNo) → (c.0 ≡ a.0 → ⊥) → x c ≡ y c)
    → set (atom_table x) a.0 v ≡ atom_table y
table-set x y a v h e f =
    table_of (set (atom_table x) a.0 v) y (simp length-set (table-length x)) (λ n k. stored n k (ℕ_discrete n a.0))
  where
    stored : (n : ℕ) → n < 255 → Dec (n ≡ a.0) → get_or (set (atom_table x) a.0 v) n false ≡ y (atom_no n)
    stored n k (yes p) = rw p (get_or-set_same (atom_table x) a.0 v false (rw table-length h) ∙ sym e)
    stored n k (no q) = get_or-set_other (atom_table x) a.0 n v false q ∙ place_at x n k ∙ f (atom_no n) q

pub other-atom : (a c : AtomNo) → (c.0 ≡ a.0 → ⊥) → same_atom a c ≡ false
unfolding same_atom
other-atom a c n = ne_eqb a.0 c.0 (λ e. n (sym e))

-- ---- heads, as far as rule k

unfoldable pub heads_to : Book → Rules → ℕ → Atoms
heads_to b s k a = some_below k (λ n. s (rule_no n) && same_atom (rule b (rule_no n)).head a)

module _ (b : Book) (s : Rules) where
  heads-none : replicate 255 false ≡ atom_table (heads_to b s 0)
  unfolding heads_to some_below
  heads-none = table_filled false

  heads-skip : (k : ℕ) → s (rule_no k) ≡ false → atom_table (heads_to b s k) ≡ atom_table (heads_to b s (k + 1))
  unfolding heads_to some_below
  heads-skip k e = table_same _ _ (λ a. rw (add-one, e))

  heads-store : (k : ℕ) (a : AtomNo) → a ≡ (rule b (rule_no k)).head → a.0 < 255 → s (rule_no k) ≡ true
      → (l : List Bool) (n : ℕ) → l ≡ atom_table (heads_to b s k) → n ≡ a.0 → set l n true ≡ atom_table (heads_to b s (k + 1))
  unfolding heads_to some_below
  heads-store k a q h e l n f p =
      rw (f, p) (table-set _ _ a true h (rw (add-one, e) (or_left _ (atom-same (sym q)))) (λ c d. rw (add-one, e, ← q, other-atom a c d)))

  heads-end : (k : ℕ) → k ≡ count b → atom_table (heads_to b s k) ≡ atom_table (heads b s)
  unfolding heads heads_to some_rule
  heads-end k e = rw e

-- ---- atoms all of whose rules are in the set, as far as rule k

unfoldable pub all_to : Book → Rules → ℕ → Atoms
all_to b s k a = every_below k (λ n. not (same_atom (rule b (rule_no n)).head a) || s (rule_no n))

module _ (b : Book) (s : Rules) where
  all_none : replicate 255 true ≡ atom_table (all_to b s 0)
  unfolding all_to every_below
  all_none = table_filled true

  all-skip : (k : ℕ) → s (rule_no k) ≡ true → atom_table (all_to b s k) ≡ atom_table (all_to b s (k + 1))
  unfolding all_to every_below
  all-skip k e = table_same _ _ (λ a. rw (add-one, or_right (not (same_atom (rule b (rule_no k)).head a)) e))

  all-store : (k : ℕ) (a : AtomNo) → a ≡ (rule b (rule_no k)).head → a.0 < 255 → s (rule_no k) ≡ false
      → (l : List Bool) (n : ℕ) → l ≡ atom_table (all_to b s k) → n ≡ a.0 → set l n false ≡ atom_table (all_to b s (k + 1))
  unfolding all_to every_below
  all-store k a q h e l n f p =
      rw (f, p) (table-set _ _ a false h (rw (add-one, e, atom-same (sym q))) (λ c d. rw (add-one, e, ← q, other-atom a c d)))

  all_end : (k : ℕ) → k ≡ count b → atom_table (all_to b s k) ≡ atom_table (all_in b s)
  unfolding all_in all_to every_rule
  all_end k e = rw e

  -- the same at one atom, for a search over the rules
  module _ (k : ℕ) (a : AtomNo) where
    pub all-at-none : all_to b s 0 a ≡ true
    unfolding all_to every_below
    all-at-none = refl

    pub all-at-skip : s (rule_no k) ≡ true → all_to b s k a ≡ true → all_to b s (k + 1) a ≡ true
    unfolding all_to
    all-at-skip e t = all-next k _ (or_right (not (same_atom (rule b (rule_no k)).head a)) e) t

    pub all-at-other : (c : AtomNo) → c ≡ (rule b (rule_no k)).head → (c.0 ≡ a.0 → ⊥) → all_to b s k a ≡ true
        → all_to b s (k + 1) a ≡ true
    unfolding all_to
    all-at-other c q n t = all-next k _ (rw (← q, other-atom c a (λ e. n (sym e)))) t

    pub all-at-end : k ≡ count b → all_to b s k a ≡ true → all_in b s a ≡ true
    unfolding all_in all_to every_rule
    all-at-end e t = rw (← e) t

-- ---- either table, as far as rule k

abbrev pub said_to : Bool → Book → Rules → ℕ → Atoms
said_to true = heads_to
said_to false = all_to

module _ (b : Book) (s : Rules) where
  pub said-none : (v : Bool) → replicate 255 (not v) ≡ atom_table (said_to v b s 0)
  said-none true = heads-none b s
  said-none false = all_none b s

  pub said-skip : (v : Bool) (k : ℕ) → s (rule_no k) ≡ not v → atom_table (said_to v b s k) ≡ atom_table (said_to v b s (k + 1))
  said-skip true = heads-skip b s
  said-skip false = all-skip b s

  pub said-store : (v : Bool) (k : ℕ) (a : AtomNo) → a ≡ (rule b (rule_no k)).head → a.0 < 255 → s (rule_no k) ≡ v
      → (l : List Bool) (n : ℕ) → l ≡ atom_table (said_to v b s k) → n ≡ a.0 → set l n v ≡ atom_table (said_to v b s (k + 1))
  said-store true = heads-store b s
  said-store false = all-store b s

  pub said-end : (v : Bool) (k : ℕ) → k ≡ count b → atom_table (said_to v b s k) ≡ atom_table (said_by v b s)
  said-end true = heads-end b s
  said-end false = all_end b s
