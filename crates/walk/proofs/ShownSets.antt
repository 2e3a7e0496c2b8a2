-- The shown atoms as a set of numbers (specs/Search): which they are, and which of them a reading holds, asked of the table of rows; and the
-- colouring from which the search starts is the one that avoids what the reading does not show.
use mathlib.Core.Path.{◌≡◌, refl, sym, ◌∙◌, ap}
use mathlib.Core.Logic.{⊎_elim}
use mathlib.Core.Bool.{Bool, true, false, not, ◌&&◌}
use mathlib.Core.List.Memᴰ
use mathlib.Core.List.{List, ◌∷◌, Memᴰ}
use Prim.Native.Nat.{ℕ, zero, suc, ◌+◌, ◌≤◌, ◌<◌}
use native.Mathlib.Nat.{eq-or-lt_of_le}
use native.Mathlib.Omega.{arith}
use lib.Dec.{ltb}
use lib.ListN.{replicate, length-replicate}
use borrow.Author.Tests.{ltb-true, lt-ltb, not-true}
use Rattle.meaning.specs.declared.AtomNo.{AtomNo}
use Rattle.meaning.specs.declared.RuleNo.{RuleNo}
use Rattle.meaning.specs.Sets.{Set, ◌∈◌}
use Rattle.meaning.specs.Books.{Atoms, Rules, Book, atom_no, count, InBook}
use Rattle.meaning.specs.Bits.{less, members, listed}
use Rattle.meaning.specs.Choice.{ifb}
use Rattle.meaning.specs.Colours.{heads}
use Rattle.meaning.specs.Written.{Tables, of, added, nothing}
use Rattle.meaning.proofs.Tests.{both, and_left, and_right, true-and-false, refuted, same}
use Rattle.meaning.proofs.Sets.{below-some, below_one}
use Rattle.meaning.proofs.Rules.{same-atom, atom-same, in-book-or-not}
use Rattle.meaning.proofs.Written.{of_none, of-added, of-added-outside, length-added}
use Rattle.meaning.proofs.Listed.{of-listed, listed-is}
use Rattle.meaning.proofs.Four.{members-small}
use Rattle.book.specs.RuleRows.{sets, RuleRows}
use Rattle.book.proofs.RuleRows.{row-heads}
use Rattle.closing.specs.Left.{Shallow}
use Rattle.closing.proofs.Left.{left-count}
use Rattle.walk.specs.FirstAlike.{avoided, avoiding, fresh, is_this}
use Rattle.walk.specs.Search.{atoms_from, shown_in, part_of, with_heads, Generated, Searches, TellsFirst, KeptOne}
use Rattle.walk.specs.declared.verdict.Verdict.{Verdict}
use Rattle.walk.proofs.Avoiding.{avoided-of, avoided-by}
use Rattle.walk.proofs.FirstAlike.{fresh-avoiding}
use Rattle.walk.proofs.FirstSteps.{avoiding-avoids}

-- ---- the atoms of a set of numbers

atoms-by : (i n : ℕ) (s : Set ℕ) (a : AtomNo) → Memᴰ a (atoms_from i n s) → a.0 ∈ s
unfolding atoms_from ifb
atoms-by i zero s a m = absurd (Memᴰ.not-nil m)
atoms-by i (suc n) s a m = go (s i) refl (atoms-by (suc i) n s a) m
  where
    go : (t : Bool) → s i ≡ t → (Memᴰ a (atoms_from (suc i) n s) → a.0 ∈ s)
        → Memᴰ a (ifb t (atom_no i ∷ atoms_from (suc i) n s) (atoms_from (suc i) n s)) → a.0 ∈ s
    go true e f k = ⊎_elim (λ (z : a ≡ atom_no i). rw z e) f (Memᴰ.cases_cons k)
    go false e f k = f k

atoms-of-set : (i n : ℕ) (s : Set ℕ) (a : AtomNo) → i ≤ a.0 → a.0 < i + n → a.0 ∈ s → Memᴰ a (atoms_from i n s)
unfolding atoms_from ifb
atoms-of-set i zero s a h l m = absurd (omega arith)
atoms-of-set i (suc n) s a h l m = go (s i) refl (λ g. atoms-of-set (suc i) n s a g (omega arith) m)
  where
    go : (t : Bool) → s i ≡ t → (i < a.0 → Memᴰ a (atoms_from (suc i) n s))
        → Memᴰ a (ifb t (atom_no i ∷ atoms_from (suc i) n s) (atoms_from (suc i) n s))
    go true e f = ⊎_elim (λ (z : i ≡ a.0). Memᴰ.head (λ j. record { 0 = sym z j })) (λ g. Memᴰ.tail (f g)) (eq-or-lt_of_le h)
    go false e f = ⊎_elim (λ (z : i ≡ a.0). true-and-false m (rw z at e)) f (eq-or-lt_of_le h)

pub shown-at : (w : List ℕ) (a : AtomNo) → Memᴰ a (shown_in w) → a.0 ∈ members w
unfolding shown_in
shown-at w a m = atoms-by 0 256 (members w) a m

pub shown_of : (w : List ℕ) (a : AtomNo) → a.0 ∈ members w → Memᴰ a (shown_in w)
unfolding shown_in
shown_of w a m = atoms-of-set 0 256 (members w) a (omega arith) (members-small w a.0 m) m

-- ---- the part of them that a reading holds

module _ {b : Book} {t : List ℕ} (rows : RuleRows b t) (mask on part : List ℕ) (e : members part ≡ part_of t mask on) where
  abbrev reading : Atoms
  reading = heads b (of (listed on))

  part-asked : (a : AtomNo) → a.0 < 256 → members part a.0 ≡ (members mask a.0 && reading a)
  unfolding part_of
  part-asked a l = ap (λ (s : Set ℕ). s a.0) e ∙ ap (λ (x : Bool). members mask a.0 && x) (row-heads b t rows a l on)

  -- of a shown atom, whether the reading holds it
  pub part_in : (a : AtomNo) → Memᴰ a (shown_in mask) → members part a.0 ≡ heads b (of (listed on)) a
  part_in a m =
      let k = shown-at mask a m in
      part-asked a (members-small mask a.0 k) ∙ ap (λ (x : Bool). x && reading a) k

  pub part-of : (i : ℕ) → i ∈ members part → Memᴰ (atom_no i) (shown_in mask) × (atom_no i ∈ heads b (of (listed on)))
  part-of i m =
      let k = sym (part-asked (atom_no i) (members-small part i m)) ∙ m in
      (shown_of mask (atom_no i) (and_left (members mask i) _ k), and_right (members mask i) _ k)

  -- a reading that counts, as the memory keeps it
  pub part-kept : Generated b (listed on) → fresh b (shown_in mask) (heads b (of (listed on))) ≡ true → KeptOne b (shown_in mask) part on
  part-kept g t = record {
    reading = reading;
    answer = g.answer;
    counts = t;
    shows = λ a m. sym (part_in a m);
    rules = g.rules;
  }

  -- ---- the start of the search

  module _ (outside off : List ℕ) (eo : members outside ≡ less (members mask) (members part)) (ef : members off ≡ with_heads t outside) where
    abbrev shown : List AtomNo
    shown = shown_in mask

    -- the rules that are off have a head that is shown and that the reading lacks
    off-avoided : (r : RuleNo) → (r.0 ∈ members off) → InBook b r × (r ∈ avoided b shown reading)
    unfolding with_heads
    off-avoided r m =
        let (a, l, k) = below-some 256 (λ a. members outside a && sets t a r.0) (sym (ap (λ (s : Set ℕ). s r.0) ef) ∙ m) in
        let o = sym (ap (λ (s : Set ℕ). s a) eo) ∙ and_left (members outside a) _ k in
        let q = sym (ap (λ (s : Set ℕ). s r.0) (rows.head a l)) ∙ and_right (members outside a) _ k in
        let n = shown_of mask (atom_no a) (and_left (members mask a) _ o) in (
          ltb-true r.0 (count b) (and_left (ltb r.0 (count b)) _ q),
          avoided-of b shown reading r (atom_no a) n (same-atom (and_right (ltb r.0 (count b)) _ q))
              (sym (part_in (atom_no a) n) ∙ not-true _ (and_right (members mask a) _ o)),
        )

    avoided-off : (r : RuleNo) → InBook b r → r ∈ avoided b shown reading → r.0 ∈ members off
    unfolding with_heads
    avoided-off r h m =
        let (a, n, q, o) = avoided-by b shown reading r m in
        let k = shown-at mask a n in let l = members-small mask a.0 k in
        ap (λ (s : Set ℕ). s r.0) ef ∙ below_one 256 (λ a. members outside a && sets t a r.0) a.0 l (both
        (ap (λ (s : Set ℕ). s a.0) eo ∙ both k (ap not (part_in a n ∙ o)))
        (ap (λ (s : Set ℕ). s r.0) (rows.head a.0 l) ∙ both (lt-ltb r.0 (count b) h) (atom-same q)))

    off-listed : count b ≤ 255 → listed off ≡ added b (avoided b shown reading) (replicate 256 false)
    off-listed fits = listed-is off _ (length-added b _ _ ∙ length-replicate 256 false) (λ r. asked r ∙ each r)
      where
        asked : (r : RuleNo) → of (listed off) r ≡ members off r.0
        asked r = ap (λ (s : Rules). s r) (of-listed off)

        each : (r : RuleNo) → members off r.0 ≡ of (added b (avoided b shown reading) (replicate 256 false)) r
        each r = ⊎_elim
            (λ h. same _ _ (λ m. (off-avoided r m).1) (avoided-off r h)
            ∙ sym (of-added b (avoided b shown reading) (replicate 256 false) (omega (arith, length-replicate 256 false)) r h ∙ rw (of_none 256 r)))
            (λ h. refuted (λ m. let (g, k) = off-avoided r m in absurd (omega arith))
            ∙ sym (of-added-outside b (avoided b shown reading) (replicate 256 false) r h ∙ of_none 256 r))
            (in-book-or-not b r)

    module _ (fits : count b ≤ 255) {c d : Tables} (ec : c ≡ nothing)
        (ed : d ≡ record { on = c.on; off = listed off; marks = c.marks; level = c.level; levels = c.levels }) where
      starts : d ≡ avoiding b shown reading
      unfolding avoiding
      starts = ed ∙ rw (ec, off-listed fits)

      pub start-shallow : Shallow b d
      unfolding avoiding
      start-shallow = rw starts (omega (arith, left-count b (avoiding b shown reading)))

      -- the search may start
      start-searches : Generated b (listed on) → Searches b shown reading part on d
      start-searches g = record {
        atoms-in = λ a m k. part_in a m ∙ k;
        atoms-of = part-of;
        rules = g.rules;
        avoids = rw starts (avoiding-avoids b shown reading fits);
      }

      pub start-tells : Generated b (listed on) → {v : Verdict} → TellsFirst b part on d v
          → fresh b (shown_in mask) (heads b (of (listed on))) ≡ is_this v
      start-tells g told = fresh-avoiding b shown reading fits
          ∙ ap is_this (sym (rw starts at (told.each shown reading (start-searches g))))
