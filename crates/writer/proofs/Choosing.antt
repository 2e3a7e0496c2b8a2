-- The next step as the code comes to it (specs/Steps; document 01, "The engine's own paper"): 45 by the tests of a contradiction and of the
-- claim, then the first of 41, 42, 55 and 53 whose search finds a rule. The searches ask tables of atoms, and find what is asked of
-- the pair itself.
use mathlib.Core.Path.{◌≡◌, refl, sym, ◌∙◌, ap}
use mathlib.Core.Bool.{Bool, true, false, not, ◌&&◌}
use mathlib.Core.List.{List, [], ◌∷◌}
use Prim.Native.Nat.{ℕ, ◌<◌}
use native.Mathlib.Omega.{arith}
use lib.ListN.{length, get_or}
use Rattle.std.specs.Prelude.{Option, Some, None, is_some}
use Rattle.meaning.specs.declared.AtomNo.{AtomNo}
use Rattle.meaning.specs.declared.RuleNo.{RuleNo}
use Rattle.meaning.specs.Books.{Rules, Book, count, InBook}
use Rattle.meaning.specs.Colours.{Pair, on_side, off_side, heads, all_in, may_on, blocked, uncoloured, clashing}
use Rattle.meaning.specs.declared.kind.Kind.{Kind}
use Rattle.meaning.specs.declared.kind.Kind.TheVariants.{Naming, Clearing}
use Rattle.meaning.specs.declared.kind.Claim.{Claim}
use Rattle.meaning.specs.declared.kind.Claim.TheVariants.{About, NoReading}
use Rattle.meaning.specs.Claim.{claim, claimed, shown_by, shown, ended}
use Rattle.meaning.specs.Written.{of, lent}
use Rattle.meaning.specs.Lowest.{Pick, none, one, lowest_from, lowest, in_both, clashed, rules_in}
use Rattle.meaning.specs.Engine.{Next, ends, puts-on, puts-off, drops, splits, stuck, less, first_of, unsupported, next}
use Rattle.meaning.proofs.Tests.{or_left, or_right, neither}
use Rattle.meaning.proofs.Lowest.{lowest-one, lowest-none, one-lowest, none-lowest, clashed-clashing, clashed-none}
use Rattle.book.specs.declared.reader.Shape.{Shape}
use Rattle.book.specs.Format.{book_in, ReadAs}
use Rattle.book.specs.Tables.{atom_table, atoms_in}
use Rattle.book.proofs.AtomSets.{table-in}
use Rattle.book.proofs.Places.{in-shape}
use Rattle.book.proofs.Asked.{goes-on-may_on, is-blocked-blocked}
use Rattle.closing.specs.Picked.{picked}
use Rattle.closing.proofs.Searches.{lowest-in}
use Rattle.writer.specs.Steps.{tabled_by, tabled, new_on, new_off, new_by, Does}
use Rattle.writer.specs.declared.step.Step.{Step}

-- ---- an answer

-- a step that is the next one
pub does-next : {b : Book} {l : List Bool} {x : Step} {m n : Next} → n ≡ m → Does b l x m → Does b l x n
does-next e d = rw e d

pub picked-one : {x : Option RuleNo} {p : Pick} {r : RuleNo} → picked x ≡ p → x ≡ Some r → one r ≡ p
picked-one e f = rw f at e

pub picked_none : {x : Option RuleNo} {p : Pick} → picked x ≡ p → x ≡ None → none ≡ p
picked_none e f = rw f at e

-- the lowest rule of two sets that agree on the rules of the book
lowest-same : (b : Book) (s t : Rules) → ((r : RuleNo) → InBook b r → s r ≡ t r) → lowest b s ≡ lowest b t
lowest-same b s t f = go (lowest b t) refl
  where
    go : (p : Pick) → lowest b t ≡ p → lowest b s ≡ p
    go none e = none-lowest b s (λ r h. f r h ∙ lowest-none b t e r h)
    go (one r) e = let (h, m, l) = lowest-one b t r e in one-lowest b s r h (f r h ∙ m) (λ q g. f q (omega arith) ∙ l q g)

module _ (s : List ℕ) (h : Shape) (e : ReadAs s h) (n : h.atoms < 256) (on off headed : List Bool)
    (f : headed ≡ atom_table (heads (book_in s) (of on))) where
  pub new-on-lowest : (lost : List Bool) → lost ≡ atom_table (all_in (book_in s) (of off))
      → lowest (book_in s) (new_by on_side (book_in s) headed lost on) ≡ lowest (book_in s) (less (may_on (book_in s) (lent on off)) (of on))
  unfolding new_by new_on
  new-on-lowest lost g = lowest-same (book_in s) _ _ (λ r l. ap (λ t. t && not (of on r))
      (goes-on-may_on s h e n r (in-shape s h e r l) (lent on off) headed f lost g))

  pub new-off-lowest : (lost : List Bool) → lowest (book_in s) (new_by off_side (book_in s) headed lost off)
      ≡ lowest (book_in s) (less (blocked (book_in s) (lent on off)) (of off))
  unfolding new_by new_off
  new-off-lowest lost = lowest-same (book_in s) _ _ (λ r l. ap (λ t. t && not (of off r))
      (is-blocked-blocked s h e n r (in-shape s h e r l) (lent on off) headed f))

-- ---- 45

-- whether a rule was found in both sets
pub clash-told : (b : Book) {n : ℕ} → count b ≡ n → (c : Pair) (x : Option RuleNo) → picked x ≡ lowest_from 0 n (in_both c)
    → is_some x ≡ clashing b c
unfolding clashed
clash-told b e c (Some r) f = sym (clashed-clashing b c r (sym (lowest-in b e _ f)))
clash-told b e c None f = sym ((clashed-none b c).0 (sym (lowest-in b e _ f)))

-- the number of the claimed atom is the claim's byte
pub claimed-at : (k : Claim) {q : Kind} {a : AtomNo} → k ≡ claim q a → {i : ℕ} → i ≡ a.0 → claimed k < 255 → i < 255
unfolding claimed
claimed-at k c e h = rw e (rw c at h)

module _ (k : Claim) (headed lost : List Bool) where
  -- place i of a table, which is that of the claimed atom
  module _ {q : Kind} {a : AtomNo} (c : k ≡ claim q a) (i : ℕ) (e : i ≡ a.0) where
    pub tabled-naming : q ≡ Naming → get_or headed i false ≡ tabled k headed lost
    unfolding tabled tabled_by atoms_in
    tabled-naming f = rw (c, f, e)

    pub tabled-clearing : q ≡ Clearing → get_or lost i false ≡ tabled k headed lost
    unfolding tabled tabled_by atoms_in
    tabled-clearing f = rw (c, f, e)

  pub tabled-no-reading : k ≡ NoReading → false ≡ tabled k headed lost
  unfolding tabled
  tabled-no-reading c = rw c

module _ (b : Book) (k : Claim) (on off : List Bool) where
  pub ended-clash : clashing b (lent on off) ≡ true → ended b k (lent on off) ≡ true
  unfolding ended
  ended-clash e = or_left _ e

  -- what the tables say of the claim
  module _ (headed lost : List Bool) (f : headed ≡ atom_table (heads b (of on))) (g : lost ≡ atom_table (all_in b (of off)))
      (small : claimed k < 255) {v : Bool} (e : v ≡ tabled k headed lost) where
    tabled-shown : v ≡ shown b k (lent on off)
    unfolding tabled tabled_by shown shown_by claimed
    tabled-shown = e ∙ by-claim k small
      where
        by-claim : (k : Claim) → claimed k < 255 → tabled k headed lost ≡ shown b k (lent on off)
        by-claim (About Naming a) h = rw f (table-in (heads b (of on)) a h)
        by-claim (About Clearing a) h = rw g (table-in (all_in b (of off)) a h)
        by-claim NoReading h = refl

    pub ended-shown : v ≡ true → ended b k (lent on off) ≡ true
    unfolding ended
    ended-shown t = or_right (clashing b (lent on off)) (sym tabled-shown ∙ t)

    pub not-ended : clashing b (lent on off) ≡ false → v ≡ false → ended b k (lent on off) ≡ false
    unfolding ended
    not-ended c t = neither c (sym tabled-shown ∙ t)

-- ---- which of the five it is

module _ (b : Book) (k : Claim) (c : Pair) where
  pub next-end : ended b k c ≡ true → next b k c ≡ ends
  unfolding next first_of
  next-end e = rw e

  module _ (q : ended b k c ≡ false) where
    pub next-on : {r : RuleNo} → one r ≡ lowest b (less (may_on b c) c.on) → next b k c ≡ puts-on r
    unfolding next first_of
    next-on e = rw (q, ← e)

    module _ (f : none ≡ lowest b (less (may_on b c) c.on)) where
      pub next-off : {r : RuleNo} → one r ≡ lowest b (less (blocked b c) c.off) → next b k c ≡ puts-off r
      unfolding next first_of
      next-off e = rw (q, ← f, ← e)

      module _ (g : none ≡ lowest b (less (blocked b c) c.off)) where
        pub next-drop : 0 < length (rules_in b (unsupported b c)) → next b k c ≡ drops (rules_in b (unsupported b c))
        unfolding next first_of
        next-drop h = rw (q, ← f, ← g) (listed (rules_in b (unsupported b c)) h)
          where
            listed : (l : List RuleNo) → 0 < length l → first_of false none none l (lowest b (uncoloured c)) ≡ drops l
            listed [] h = absurd (omega arith)
            listed (r ∷ l) h = refl

        module _ (h : 0 ≡ length (rules_in b (unsupported b c))) where
          -- no rule is left for 55
          at-53 : next b k c ≡ first_of false none none [] (lowest b (uncoloured c))
          unfolding next first_of
          at-53 = rw (q, ← f, ← g) (empty (rules_in b (unsupported b c)) h)
            where
              empty : (l : List RuleNo) → 0 ≡ length l
                  → first_of false none none l (lowest b (uncoloured c)) ≡ first_of false none none [] (lowest b (uncoloured c))
              empty [] h = refl
              empty (r ∷ l) h = absurd (omega arith)

          pub next-split : {r : RuleNo} → one r ≡ lowest b (uncoloured c) → next b k c ≡ splits r
          unfolding first_of
          next-split e = at-53 ∙ rw (← e)

          pub next-nothing : none ≡ lowest b (uncoloured c) → next b k c ≡ stuck
          unfolding first_of
          next-nothing e = at-53 ∙ rw (← e)
