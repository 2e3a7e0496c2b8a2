-- What a claim asks of the trailer's first byte and of what stands behind the steps: an atom of the book and a witness; or, where it is
-- that there is no answer set, 0 and nothing. The tests of specs/Check and specs/Witness find just that. Document 01, numbers 23 and 27.
use mathlib.Core.Path.{◌≡◌, ap, subst}
use mathlib.Core.Bool.{true}
use mathlib.Core.List.{List, [], map}
use Prim.{tt}
use Prim.Native.Nat.{ℕ, ◌+◌, ◌≤◌}
use native.Mathlib.Omega.{arith}
use lib.ListN.{length, take, drop, length-map, length-take, length-drop}
use borrow.Author.Tests.{ltb-true, lt-ltb, eqb-true, eq-eqb}
use Rattle.meaning.specs.Books.{rule_no, Book}
use Rattle.meaning.specs.declared.kind.Claim.{Claim}
use Rattle.meaning.specs.declared.kind.Claim.TheVariants.{About, NoReading}
use Rattle.meaning.specs.Claim.{claimed}
use Rattle.meaning.specs.Paper.{Stated, Grounds}
use Rattle.meaning.proofs.Choice.{eq_yes, eq_no, eq-either}
use Rattle.meaning.proofs.Tests.{apart}
use Rattle.checker.specs.Witness.{fine, wrong, witness_verdict, grounds_verdict}
use Rattle.checker.specs.Check.{stated}
use Rattle.checker.specs.Rows.{ByteGood}
use Rattle.checker.specs.Places.{UngroundedAt, wrong-witness, lists-a-rule}
use Rattle.checker.proofs.Witnesses.{fine-witness, witness-fine}
use Rattle.checker.proofs.Places.{list-wrong, wrong-list}

module _ (b : Book) where
  -- ---- the trailer's first byte

  module _ (n : ℕ) where
    pub stated-good : (k : Claim) → stated k b.atoms n ≡ true → ByteGood b k n
    unfolding stated ByteGood
    stated-good (About q a) e = ltb-true _ _ e
    stated-good NoReading e = eqb-true _ _ e

    pub good-stated : (k : Claim) → ByteGood b k n → stated k b.atoms n ≡ true
    unfolding stated ByteGood
    good-stated (About q a) h = lt-ltb _ _ h
    good-stated NoReading h = eq-eqb _ _ h

    -- a good byte is one of a claim that can be made of the book, and the byte of such a claim is good
    pub good-claim : (k : Claim) → ByteGood b k n → Stated b k
    unfolding ByteGood Stated
    good-claim (About q a) h = h
    good-claim NoReading h = tt

    pub claim-good : (k : Claim) → Stated b k → n ≡ claimed k → ByteGood b k n
    unfolding ByteGood Stated claimed
    claim-good (About q a) h e = h
    claim-good NoReading h e = e

  -- ---- behind the steps

  module _ (s : List ℕ) (from w : ℕ) where
    pub fine-grounds : (k : Claim) → grounds_verdict k b s from w ≡ fine → Grounds b k (map rule_no (take w (drop from s)))
    unfolding grounds_verdict Grounds
    fine-grounds (About q a) e = fine-witness b s from w e
    fine-grounds NoReading e = none e
      where
        none : grounds_verdict NoReading b s from w ≡ fine → map rule_no (take w (drop from s)) ≡ []
        none = eq-either (λ c. c ≡ fine → map rule_no (take w (drop from s)) ≡ []) w 0 fine (wrong from) (λ p _. rw p) (λ n z. apart (cc))

    module _ (inside : from + w ≤ length s) where
      listed : length (take w (drop from s)) ≡ w
      listed = simp (length-take, length-drop) (omega arith)

      pub grounds-fine : (k : Claim) → Grounds b k (map rule_no (take w (drop from s))) → grounds_verdict k b s from w ≡ fine
      unfolding grounds_verdict Grounds
      grounds-fine (About q a) g = witness-fine b s from w g
      grounds-fine NoReading g =
          eq_yes _ _ _ _ (omega (arith, listed, length-map (take w (drop from s)) rule_no, ap length g))

      one-listed : (w ≡ 0 → ⊥) → UngroundedAt b s from (take w (drop from s)) NoReading from
      one-listed n = lists-a-rule (omega (arith, listed, n))

      pub grounds-wrong : (k : Claim) {at : ℕ} → grounds_verdict k b s from w ≡ wrong at
          → UngroundedAt b s from (take w (drop from s)) k at
      unfolding grounds_verdict witness_verdict
      grounds-wrong (About q a) e = wrong-witness (list-wrong b s from (take w (drop from s)) e)
      grounds-wrong NoReading {at} e = some e
        where
          some : grounds_verdict NoReading b s from w ≡ wrong at → UngroundedAt b s from (take w (drop from s)) NoReading at
          some = eq-either (λ c. c ≡ wrong at → UngroundedAt b s from (take w (drop from s)) NoReading at) w 0 fine (wrong from)
              (λ p z. apart (cc)) (λ n z. let p : from ≡ at = cc in
              subst (λ (i : ℕ). UngroundedAt b s from (take w (drop from s)) NoReading i) p (one-listed n))

      pub wrong-grounds : (k : Claim) {at : ℕ} → UngroundedAt b s from (take w (drop from s)) k at
          → grounds_verdict k b s from w ≡ wrong at
      unfolding grounds_verdict witness_verdict
      wrong-grounds k (wrong-witness u) = wrong-list b s from (take w (drop from s)) u
      wrong-grounds k (lists-a-rule h) = eq_no _ _ _ _ (λ e. omega (arith, listed, e, h))
