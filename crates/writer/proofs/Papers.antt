-- Where no branch is left unsettled, the engine's paper keeps the printed rules (blueprint, N1), and its claim holds of every answer set;
-- where one is, an answer set is found of which the claim fails (N2, N3). By induction over the steps of a branch and over the splits.
use mathlib.Core.Path.{◌≡◌, refl, sym, ◌∙◌}
use mathlib.Core.Logic.{⊎_elim}
use mathlib.Core.Bool.{true, false, ◌&&◌}
use mathlib.Core.List.{List, [], ◌∷◌, ◌++◌, append_assoc}
use Prim.{tt}
use Prim.Native.Nat.{ℕ, ◌≤◌, ◌<◌}
use Rattle.meaning.specs.declared.RuleNo.{RuleNo}
use Rattle.meaning.specs.Sets.{◌∈◌, ◌∉◌, every}
use Rattle.meaning.specs.Books.{Atoms, Book, count}
use Rattle.meaning.specs.AnswerSet.{AnswerSet, Throughout}
use Rattle.meaning.specs.Colours.{Pair, on_side, off_side, put, start, heads}
use Rattle.meaning.specs.declared.AtomNo.{AtomNo}
use Rattle.meaning.specs.declared.kind.Kind.{Kind}
use Rattle.meaning.specs.declared.kind.Claim.{Claim}
use Rattle.meaning.specs.declared.kind.Claim.TheVariants.{NoReading}
use Rattle.meaning.specs.Claim.{claim, meant}
use Rattle.meaning.specs.Paper.{numbers, paper_with, Stated, Grounds, Keeps, step-41, step-42, step-55, step-53, step-45}
use Rattle.meaning.specs.Paper.{Branch as Derives}
use Rattle.meaning.specs.Engine.{stuck, next, witness_of}
use Rattle.meaning.proofs.Tests.{both, and_left, and_right, true-and-false, decided, absent, proved}
use Rattle.meaning.proofs.Sets.{every_append}
use Rattle.meaning.proofs.Engine.{next-ends, next-puts-on, next-puts-off, next-drops, next-splits, next-stuck}
use Rattle.meaning.proofs.Papers.{branch-each}
use Rattle.meaning.proofs.Listing.{witness-of}
use Rattle.writer.specs.Branches.{Tip, ended, parted, unsettled, Branch, behind, branch, branches}
use Rattle.writer.specs.PaperNeeds.{settles, settled, steps_of, whole_paper, paper_for, bare_for}
use Rattle.writer.proofs.Branches.{Steps, at-end, at_split, step-on, step-off, step-all, branch-steps}
use Rattle.writer.proofs.Branches.{Reached, reached-stuck, branch-reached, Parts, no_more, left_open, two-more, branches-parts}

pub steps-append : (l m : List Branch) → steps_of (l ++ m) ≡ steps_of l ++ steps_of m
unfolding steps_of
steps-append [] m = refl
steps-append (t ∷ l) m = rw (steps-append l m) (sym (append_assoc t.bytes (steps_of l) (steps_of m)))

module _ (b : Book) (k : Claim) (fits : count b ≤ 255) where
  -- ---- the steps are legal

  -- what may follow a branch: nothing after its 45, two branches after its split
  data Follows : Tip → List ℕ → Type 0 where
    follows-end : Follows ended []
    follows-split : {r : RuleNo} {d : Pair} {l m : List ℕ} → Derives b k (put on_side (r ∷ []) d) l → Derives b k (put off_side (r ∷ []) d) m
        → Follows (parted r d) (l ++ m)

  steps-legal : {c : Pair} {t : Branch} {l : List ℕ} → Steps b k c t → Follows t.tip l → Derives b k c (t.bytes ++ l)
  unfolding behind
  steps-legal {l = l} (Rattle.writer.proofs.Branches.at-stuck {c = c} _) h = elim h [ ]
  steps-legal (at-end {c} e) follows-end = step-45 (next-ends b k c e)
  steps-legal (at_split {c} r e) (follows-split p q) = let (h, m, f) = next-splits b k c r e in step-53 r h m p q
  steps-legal (step-on {c} r e p) f = let (h, m, n, g) = next-puts-on b k c r e in step-41 r h m (steps-legal p f)
  steps-legal (step-off {c} r e p) f = let (h, m, n, g) = next-puts-off b k c r e in step-42 r h m (steps-legal p f)
  steps-legal {l = l} (step-all {c} {t} w e p) f =
      let d = next-drops b k c fits w e in
      rw (append_assoc (numbers w) t.bytes l) (step-55 w d.not-empty d.in_order d.in-book d.legal (steps-legal p f))

  parts-legal : {c : Pair} {l : List Branch} → Parts b k c l → every settled l ≡ true → Derives b k c (steps_of l)
  unfolding every steps_of settles
  parts-legal (no_more {c} e) s = steps-legal (branch-steps b k fits c) (rw e follows-end)
  parts-legal (left_open {c} e) s = true-and-false (and_left (settled (branch b k c)) _ s) (rw e)
  parts-legal (two-more {c} {l = l} {m = m} e p q) s =
      let u = sym (every_append settled l m) ∙ and_right (settled (branch b k c)) _ s in
      rw (steps-append l m) (steps-legal (branch-steps b k fits c)
      (rw e (follows-split (parts-legal p (and_left (every settled l) _ u)) (parts-legal q (and_right (every settled l) _ u)))))

  pub settled-branch : (c : Pair) → every settled (branches b k c) ≡ true → Derives b k c (steps_of (branches b k c))
  settled-branch c s = parts-legal (branches-parts b k fits c) s

  -- ---- a branch left unsettled

  parts-stuck : {c : Pair} {l : List Branch} → Parts b k c l → every settled l ≡ false → (d : Pair) × (next b k d ≡ stuck)
  unfolding every settles
  parts-stuck (no_more {c} e) n = true-and-false (rw e) n
  parts-stuck (left_open {c} e) n = from (branch-reached b k fits c e)
    where
      from : {c : Pair} → Reached b k c unsettled → (d : Pair) × (next b k d ≡ stuck)
      from (reached-stuck {d} w e) = (d, e)
  parts-stuck (two-more {c} {l = l} {m = m} e p q) n =
      ⊎_elim (λ s. parts-stuck q (absent (both s) u)) (λ s. parts-stuck p s) (decided (every settled l))
    where
      u : (every settled l && every settled m) ≡ false
      u = sym (every_append settled l m) ∙ absent (both {a = settled (branch b k c)} (rw e)) n

  -- ---- the engine's paper

  pub settled-each : every settled (branches b k start) ≡ true → (x : Atoms) → AnswerSet b x → x ∈ meant k
  settled-each s = branch-each b k (settled-branch start s)

  pub unsettled-one : every settled (branches b k start) ≡ false → (x : Atoms) × AnswerSet b x × (x ∉ meant k)
  unsettled-one n =
      let (d, e) = parts-stuck (branches-parts b k fits start) n in
      let (closed, total, consistent, answer, m) = next-stuck b k d fits e in (heads b d.on, answer, m)

  -- where the claim holds throughout, no branch is left unsettled
  pub certain-settled : Throughout b (meant k) → every settled (branches b k start) ≡ true
  certain-settled c = proved (λ n. let (x, answer, m) = unsettled-one n in true-and-false (c.each x answer) m)

  -- with whatever list the claim asks for behind the steps
  pub settled-keeps : every settled (branches b k start) ≡ true → Stated b k → (w : List RuleNo) → Grounds b k w
      → Keeps b k (paper_with k (steps_of (branches b k start)) w)
  settled-keeps s h w g = record {
    steps = steps_of (branches b k start);
    witness = w;
    bytes = refl;
    stated = h;
    branch = settled-branch start s;
    grounds = g;
  }

module _ (b : Book) (fits : count b ≤ 255) where
  -- a claim about an atom has the witness of an answer set
  pub paper-keeps : (q : Kind) (a : AtomNo) → every settled (branches b (claim q a) start) ≡ true → a.0 < b.atoms
      → (x : Atoms) → AnswerSet b x → Keeps b (claim q a) (paper_for b (claim q a) x)
  unfolding paper_for whole_paper Stated Grounds
  paper-keeps q a s h x answer = settled-keeps b (claim q a) fits s h (witness_of b x) (witness-of b x answer)

  -- and the claim that there is no answer set has none
  pub bare-keeps : every settled (branches b NoReading start) ≡ true → Keeps b NoReading (bare_for b NoReading)
  unfolding bare_for Stated Grounds
  bare-keeps s = settled-keeps b NoReading fits s tt [] refl
