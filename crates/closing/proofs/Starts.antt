-- The starts of propagation by what is new (src/starting.rt): what is pending there. Of a pair of which nothing is known that is all true
-- atoms, all lost atoms and all rules; where a propagated pair has grown, the heads of the rules that went on or off.
use mathlib.Core.Path.{◌≡◌, sym, ap, subst, fun_ext, ◌∙◌}
use mathlib.Core.Bool.{true, false, ◌&&◌}
use mathlib.Core.List.{List}
use Prim.Native.Nat.{ℕ, ◌<◌}
use native.Mathlib.Omega.{arith}
use lib.Dec.{ltb}
use lib.ListN.{set, replicate}
use borrow.Author.Tests.{lt-ltb}
use Rattle.meaning.specs.declared.RuleNo.{RuleNo}
use Rattle.meaning.specs.Books.{Atoms, Rules, Book, InBook}
use Rattle.meaning.specs.Colours.{Pair, heads, all_in, put, Under}
use Rattle.meaning.specs.Bits.{none, below, members, listed}
use Rattle.meaning.specs.Bits.{less as less-in}
use Rattle.meaning.specs.Written.{of, lent}
use Rattle.meaning.specs.Propagation.{Propagated}
use Rattle.meaning.specs.Pending.{Pending, newly_true}
use Rattle.meaning.proofs.Tests.{both, and_right, or_left}
use Rattle.meaning.proofs.Four.{members-small}
use Rattle.meaning.proofs.Pending.{pending-start, pending-chosen, pending-dropped}
use Rattle.book.specs.declared.reader.Shape.{Shape}
use Rattle.book.specs.Format.{book_in, ReadAs}
use Rattle.book.specs.RuleRows.{headed_by, lost_by, RuleRows}
use Rattle.book.proofs.Places.{rule-keeps, in-shape}
use Rattle.book.proofs.RuleRows.{headed-by, lost-by}
use Rattle.closing.specs.News.{atom_set}
use Rattle.closing.proofs.Noting.{atoms-of, no-atoms}
use Rattle.closing.proofs.Falling.{at-rule}
use Rattle.closing.proofs.Raising.{less-listed, put-rule}

-- ---- nothing is known

module _ (s : List ℕ) (h : Shape) (e : ReadAs s h) (few : h.atoms < 256) (t : List ℕ) (k : RuleRows (book_in s) t) where
  pub begun-pending : (on off nt nl cand : List ℕ) → atom_set nt ≡ (λ a. ltb a.0 h.atoms && headed_by t on a)
      → atom_set nl ≡ (λ a. ltb a.0 h.atoms && lost_by t off a) → members cand ≡ below h.rules
      → Pending (book_in s) (lent (listed on) (listed off)) (atom_set nt) (atom_set nl) (of (listed cand))
  begun-pending on off nt nl cand f g c = pending-start (book_in s) _ (atom_set nt) (atom_set nl) (of (listed cand))
      (λ a m. sym (headed-by (book_in s) t k on a (members-small nt a.0 m)) ∙ and_right (ltb a.0 h.atoms) _ (ap (λ (x : Atoms). x a) (sym f) ∙ m))
      (λ a m. sym (lost-by (book_in s) t k off a (members-small nl a.0 m)) ∙ and_right (ltb a.0 h.atoms) _ (ap (λ (x : Atoms). x a) (sym g) ∙ m))
      (λ r l a i m. let low = (rule-keeps s h e r (in-shape s h e r l)).neg.below a i in
      ap (λ (x : Atoms). x a) f ∙ both (lt-ltb a.0 h.atoms low) (headed-by (book_in s) t k on a (omega arith) ∙ m))
      (λ r l a i m. let low = (rule-keeps s h e r (in-shape s h e r l)).pos.below a i in
      ap (λ (x : Atoms). x a) g ∙ both (lt-ltb a.0 h.atoms low) (lost-by (book_in s) t k off a (omega arith) ∙ m))
      (λ r l. at-rule cand c r ∙ lt-ltb r.0 h.rules (in-shape s h e r l))

-- ---- a propagated pair has grown

pending-at : (b : Book) (c : Pair) {nt nt' nl nl' : Atoms} {cand cand' : Rules} → nt' ≡ nt → nl' ≡ nl → cand' ≡ cand
    → Pending b c nt nl cand → Pending b c nt' nl' cand'
pending-at b c {nt} {nt'} {nl} {nl'} {cand} {cand'} e f g p =
    subst (λ (x : Atoms). Pending b c x nl' cand') (sym e)
    (subst (λ (x : Atoms). Pending b c nt x cand') (sym f) (subst (λ (x : Rules). Pending b c nt nl x) (sym g) p))

module _ (b : Book) (x y : List ℕ) (n : members x ≡ none) (m : members y ≡ none) where
  no-rules : of (listed y) ≡ (λ q. false)
  no-rules = fun_ext (at-rule y m)

  -- rules went off
  pub dropped-pending : (on before off new nl w v : List ℕ) → Propagated b (lent (listed on) (listed before))
      → Under b (of (listed before)) (of (listed off)) → members new ≡ less-in (members w) (members v) → w ≡ off → v ≡ before
      → atom_set nl ≡ (λ a. heads b (of (listed new)) a && all_in b (of (listed off)) a)
      → Pending b (lent (listed on) (listed off)) (atom_set x) (atom_set nl) (of (listed y))
  dropped-pending on before off new nl w v k up d p q e = pending-at b _ (atoms-of x n)
      (e ∙ fun_ext (λ a. ap (λ (u : Rules). heads b u a && all_in b (of (listed off)) a) (fun_ext (less-listed new w v off before d p q))))
      no-rules (pending-dropped b k (of (listed off)) up)

  -- a rule went on
  pub risen-pending : (on on' off nt : List ℕ) (r : RuleNo) → Propagated b (lent (listed on) (listed off)) → InBook b r → r.0 < 256
      → listed on' ≡ set (listed on) r.0 true → atom_set nt ≡ newly_true b r (of (listed on)) (atom_set (replicate 4 0))
      → Pending b (lent (listed on') (listed off)) (atom_set nt) (atom_set x) (of (listed y))
  unfolding put
  risen-pending on on' off nt r k h low p e =
      subst (λ (u : Rules). Pending b (record { on = u; off = of (listed off) }) (atom_set nt) (atom_set x) (of (listed y))) (sym (put-rule on' on r low p))
      (pending-at b _ (e ∙ ap (newly_true b r (of (listed on))) no-atoms) (atoms-of x n) no-rules (pending-chosen b k r h))

-- a rule that is put in leaves the others
pub put-above : (b : Book) (w v u : List ℕ) (r : RuleNo) → r.0 < 256 → listed w ≡ set (listed v) r.0 true → u ≡ v
    → Under b (of (listed u)) (of (listed w))
put-above b w v u r low p e q h m =
    ap (λ (s : Rules). s q) (put-rule w v r low p) ∙ or_left _ (ap (λ (l : List ℕ). of (listed l) q) (sym e) ∙ m)
