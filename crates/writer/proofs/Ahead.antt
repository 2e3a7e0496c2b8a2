-- A branch as it is written, step by step (specs/Draft; document 01, "A branch starts with the colouring at its split"): what is written so
-- far, with the branch from the pair as it stands behind it, is the whole branch. Each step keeps that, and the last one ends it.
use mathlib.Core.Path.{◌≡◌, refl, sym, ◌∙◌, ap}
use mathlib.Core.Bool.{Bool, true}
use mathlib.Core.List.{List, [], ◌∷◌, ◌++◌}
use Prim.Native.Nat.{ℕ, ◌≤◌, ◌<◌}
use native.Mathlib.Omega.{arith}
use lib.ListN.{length, set, length-set}
use Rattle.meaning.specs.declared.RuleNo.{RuleNo}
use Rattle.meaning.specs.declared.colouring.Colouring.{Colouring}
use Rattle.meaning.specs.Books.{Book, count}
use Rattle.meaning.specs.Colours.{Pair, on_side, off_side, plus, put}
use Rattle.meaning.specs.declared.kind.Claim.{Claim}
use Rattle.meaning.specs.Paper.{numbers, code_on, code_off, code_unfounded}
use Rattle.meaning.specs.Written.{Tables, written, of, lent, pair}
use Rattle.meaning.specs.Lowest.{rules_in}
use Rattle.meaning.specs.Engine.{Next, puts-on, puts-off, drops, next}
use Rattle.meaning.proofs.Written.{pair-on, pair-off}
use Rattle.meaning.proofs.Engine.{next-puts-on, next-puts-off}
use Rattle.writer.specs.Branches.{behind, branch}
use Rattle.writer.specs.Steps.{Does, does-on, does-off, does-drop, does-end, does-split, does-nothing}
use Rattle.writer.specs.Draft.{Writes, tip_of, tip_bytes, Wrote}
use Rattle.writer.specs.declared.step.Step.TheVariants.{On, Off, Unfounded, Stops}
use Rattle.writer.specs.declared.step.Tip.{Tip}
use Rattle.writer.proofs.Drafts.{writes-nil, writes_then}
use Rattle.writer.proofs.Branches.{behind-none, behind-append, missing, adds_on, adds-off, adds-all, adds-fewer}
use Rattle.writer.proofs.Branches.{branch-ends, branch-on, branch-off, branch-drops, branch-splits, branch_stuck}

-- ---- what the code's step is

step-on : {b : Book} {l : List Bool} {r : RuleNo} {n : Next} → Does b l (On r) n → n ≡ puts-on r
step-on does-on = refl

step-off : {b : Book} {l : List Bool} {r : RuleNo} {n : Next} → Does b l (Off r) n → n ≡ puts-off r
step-off does-off = refl

step-drop : {b : Book} {l : List Bool} {m : ℕ} {n : Next} → Does b l (Unfounded m) n
    → (n ≡ drops (rules_in b (of l))) × (m ≡ length (rules_in b (of l)))
step-drop (does-drop w) = rw w.listed (refl, w.counted)

-- ---- the branch so far

-- two sets as a colouring: nothing else of it counts
abbrev plain : List Bool → List Bool → Tables
plain on off = record { on = on; off = off; marks = on; level = 0; levels = [] }

module _ (b : Book) (k : Claim) (c : Pair) (at : ℕ) (before : List ℕ) where
  pub record Ahead (on off : List Bool) (n : ℕ) (out : List ℕ) : Type 0 where
    pub on-long : length on ≡ 256
    pub off-long : length off ≡ 256
    pub bytes : List ℕ
    pub whole : branch b k c ≡ behind bytes (branch b k (lent on off))
    pub written : Writes bytes at before n out

pub ahead-start : (b : Book) (k : Claim) (on off : List Bool) (n : ℕ) (out : List ℕ) → length on ≡ 256 → length off ≡ 256
    → Ahead b k (lent on off) n out on off n out
ahead-start b k on off n out h g = record { on-long = h; off-long = g; bytes = []; whole = sym (behind-none _); written = writes-nil n out }

module _ {b : Book} {k : Claim} (fits : count b ≤ 255) {c : Pair} {at n : ℕ} {before out : List ℕ} {on off : List Bool}
    (a : Ahead b k c at before on off n out) where
  ahead-by : {on' off' : List Bool} {m : ℕ} {out' : List ℕ} (l : List ℕ) → length on' ≡ 256 → length off' ≡ 256
      → branch b k (lent on off) ≡ behind l (branch b k (lent on' off')) → Writes l n out m out' → Ahead b k c at before on' off' m out'
  ahead-by l h g e w = record {
    on-long = h;
    off-long = g;
    bytes = a.bytes ++ l;
    whole = a.whole ∙ ap (behind a.bytes) e ∙ behind-append a.bytes l _;
    written = writes_then a.written w;
  }

  -- ---- 41

  module _ {l : List Bool} {r : RuleNo} {now : List Bool} (d : Does b l (On r) (next b k (lent on off))) (e : now ≡ set on r.0 true) where
    pub on_below : r.0 < 255
    on_below = let (h, m, n, f) = next-puts-on b k (lent on off) r (step-on d) in omega arith

    on-pair : lent now off ≡ put on_side (r ∷ []) (lent on off)
    on-pair = rw e (pair-on (plain on off) r (omega (arith, a.on-long, on_below)))

    pub ahead-on : {m : ℕ} {out' : List ℕ} → Writes (code_on ∷ (r.0 ∷ [])) n out m out' → Ahead b k c at before now off m out'
    ahead-on w = ahead-by _ (ap length e ∙ length-set on r.0 true ∙ a.on-long) a.off-long (branch-on b k fits _ r (step-on d) ∙ rw on-pair) w

    pub on-fewer : missing b (lent now off) < missing b (lent on off)
    on-fewer = rw on-pair (adds-fewer b k fits (adds_on r) (step-on d))

  -- ---- 42

  module _ {l : List Bool} {r : RuleNo} {now : List Bool} (d : Does b l (Off r) (next b k (lent on off))) (e : now ≡ set off r.0 true) where
    pub off-below : r.0 < 255
    off-below = let (h, m, n, f) = next-puts-off b k (lent on off) r (step-off d) in omega arith

    off-pair : lent on now ≡ put off_side (r ∷ []) (lent on off)
    off-pair = rw e (pair-off (plain on off) r (omega (arith, a.off-long, off-below)))

    pub ahead-off : {m : ℕ} {out' : List ℕ} → Writes (code_off ∷ (r.0 ∷ [])) n out m out' → Ahead b k c at before on now m out'
    ahead-off w = ahead-by _ a.on-long (ap length e ∙ length-set off r.0 true ∙ a.off-long) (branch-off b k fits _ r (step-off d) ∙ rw off-pair) w

    pub off-fewer : missing b (lent on now) < missing b (lent on off)
    off-fewer = rw off-pair (adds-fewer b k fits (adds-off r) (step-off d))

  -- ---- 55

  module _ {l : List Bool} {m : ℕ} (off' : List Bool) (d : Does b l (Unfounded m) (next b k (lent on off)))
      (e : of off' ≡ plus (of off) (rules_in b (of l))) where
    drop-pair : lent on off' ≡ put off_side (rules_in b (of l)) (lent on off)
    unfolding put
    drop-pair = λ i. record { on = of on; off = e i }

    pub ahead-drop : length off' ≡ 256 → {i j o : ℕ} {out1 out2 out3 : List ℕ} → Writes (code_unfounded ∷ []) n out i out1
        → Writes (m ∷ []) i out1 j out2 → Writes (numbers (rules_in b (of l))) j out2 o out3 → Ahead b k c at before on off' o out3
    ahead-drop h u v w =
        let (e, f) = step-drop d in
        ahead-by _ a.on-long h (branch-drops b k fits _ _ e ∙ rw (drop-pair, f)) (writes_then u (writes_then v w))

    pub drop-fewer : missing b (lent on off') < missing b (lent on off)
    drop-fewer = rw drop-pair (adds-fewer b k fits (adds-all (rules_in b (of l))) (step-drop d).0)

  -- ---- the last step

  stops-by : {l : List Bool} {t : Tip} {m : Next} → Does b l (Stops t) m → next b k (lent on off) ≡ m
      → branch b k (lent on off) ≡ record { bytes = tip_bytes t; tip = tip_of t (lent on off) }
  stops-by does-end e = branch-ends b k fits _ e
  stops-by (does-split {r = r}) e = branch-splits b k fits _ r e
  stops-by does-nothing e = branch_stuck b k fits _ e

  pub ahead-stops : {l : List Bool} {t : Tip} → Does b l (Stops t) (next b k (lent on off)) → (d : Colouring) → pair (written d) ≡ lent on off
      → {m : ℕ} {out' : List ℕ} → Writes (tip_bytes t) n out m out' → Wrote (branch b k c) at before (record { colours = d; length = m; tip = t }) out'
  unfolding behind
  ahead-stops {t = t} s d p w = let e = a.whole ∙ ap (behind a.bytes) (stops-by s refl) in record {
    bytes = rw (ap (λ t. t.bytes) e) (writes_then a.written w);
    tip = ap (tip_of t) p ∙ sym (ap (λ t. t.tip) e);
  }
