-- How the writer's way along the branches ends (blueprint, N7): stopped by the limit exactly if more branches are needed, else refuted
-- where one is left unsettled, else with all bytes written. The branches that are needed are counted by a function, along the list. And
-- how many branches there are in all (N4).
use mathlib.Core.Path.{◌≡◌, refl, sym, ◌∙◌, ap}
use mathlib.Core.Logic.{◌⊎◌, inl, inr, ⊎_elim}
use mathlib.Core.Bool.{true, false, true≢false, false≢true}
use mathlib.Core.List.{List, [], ◌∷◌, ◌++◌, append_assoc, append-nil}
use Prim.Native.Nat.{ℕ, suc, ◌+◌, ◌≤◌, ◌<◌}
use native.Mathlib.Nat.{eq-or-lt_of_le}
use native.Mathlib.Omega.{arith}
use lib.ListN.{length, length-append}
use Rattle.meaning.specs.Sets.{◌∈◌, ◌∉◌, every}
use Rattle.meaning.specs.Books.{Book, count}
use Rattle.meaning.specs.Colours.{Pair, start}
use Rattle.meaning.specs.declared.kind.Claim.{Claim}
use Rattle.meaning.specs.Choice.{ifb}
use Rattle.meaning.proofs.Tests.{both, and_left, and_right, not_first, not-second, absent, decided}
use Rattle.meaning.proofs.Sets.{every_append}
use Rattle.meaning.proofs.Choice.{b-yes, b-no}
use Rattle.writer.specs.Branches.{Tip, ended, parted, unsettled, Branch, branches}
use Rattle.writer.specs.Scan.{writing, limited, refuted, Progress, course_at, scan}
use Rattle.writer.specs.PaperNeeds.{settles, settled, Stuck, PaperNeeds, to-stuck, to_last, steps_of}
use Rattle.writer.specs.Write.{paper_walk}
use Rattle.writer.proofs.Branches.{Parts, no_more, left_open, two-more, branches-parts}
use Rattle.writer.proofs.Scan.{refuted-not-writing, taken, scan-nil, scan-over, scan-taken, scan-stops}

-- the branches up to the first that is unsettled, or all
needed : List Branch → ℕ
needed [] = 0
needed (t ∷ l) = ifb (settled t) (suc (needed l)) 1

module _ (t : Branch) (l : List Branch) where
  needed-further : t ∈ settled → needed (t ∷ l) ≡ suc (needed l)
  unfolding needed
  needed-further e = b-yes _ _ _ e

  needed-last : t ∉ settled → needed (t ∷ l) ≡ 1
  unfolding needed
  needed-last e = b-no _ _ _ e

needed-all : (l : List Branch) → every settled l ≡ true → needed l ≡ length l
unfolding needed every
needed-all [] e = refl
needed-all (t ∷ l) e = needed-further t l (and_left (settled t) _ e) ∙ ap suc (needed-all l (and_right (settled t) _ e))

needed-stuck : (earlier : List Branch) (t : Branch) (later : List Branch) → every settled earlier ≡ true → t ∉ settled
    → needed (earlier ++ (t ∷ later)) ≡ length earlier + 1
unfolding every
needed-stuck [] t later e n = needed-last t later n
needed-stuck (u ∷ l) t later e n =
    needed-further u _ (and_left (settled u) _ e) ∙ (let f = needed-stuck l t later (and_right (settled u) _ e) n in rw f (omega arith))

-- ---- the course that a branch sets

settled-writing : (t : Tip) → settles t ≡ true → course_at t ≡ writing
unfolding settles course_at
settled-writing ended e = refl
settled-writing (parted r c) e = refl
settled-writing unsettled e = absurd (false≢true e)

unsettled-refuted : (t : Tip) → settles t ≡ false → course_at t ≡ refuted
unfolding settles course_at
unsettled-refuted ended e = absurd (true≢false e)
unsettled-refuted (parted r c) e = absurd (true≢false e)
unsettled-refuted unsettled e = refl

-- ---- the end of the way

module _ (limit : ℕ) where
  -- one branch, where the limit does not stop the way: it goes on from the branch, or ends there
  module _ (p : Progress) (going : p.course ≡ writing) (t : Branch) (l : List Branch) (h : p.tries < limit) where
    scan-further : scan limit p (t ∷ l) ≡ scan limit (taken limit p t) l
    scan-further = scan-taken limit p going t l (λ (e : p.tries ≡ limit). absurd (omega arith))

    scan-refutes : t ∉ settled → (scan limit p (t ∷ l)).course ≡ refuted
    scan-refutes n =
        let e = unsettled-refuted t.tip n in
        ap (λ (q : Progress). q.course) (scan-further ∙ scan-over limit (taken limit p t) l (λ w. refuted-not-writing (sym e ∙ w))) ∙ e

  scan-limited : (l : List Branch) (p : Progress) → p.course ≡ writing → p.tries ≤ limit → limit < p.tries + needed l
      → (scan limit p l).course ≡ limited
  unfolding needed
  scan-limited [] p e h g = absurd (omega arith)
  scan-limited (t ∷ l) p e h g =
      ⊎_elim (λ z. ap (λ (q : Progress). q.course) (scan-stops limit p e t l z))
      (λ z. go z (scan-limited l (taken limit p t)) (decided (settled t))) (eq-or-lt_of_le h)
    where
      go : p.tries < limit → (course_at t.tip ≡ writing → p.tries + 1 ≤ limit → limit < p.tries + 1 + needed l
          → (scan limit (taken limit p t) l).course ≡ limited) → (t ∈ settled) ⊎ (t ∉ settled) → (scan limit p (t ∷ l)).course ≡ limited
      go z f (inl s) = rw (scan-further p e t l z) (f (settled-writing _ s) (omega arith) (omega (arith, needed-further t l s)))
      go z f (inr n) = absurd (omega (arith, needed-last t l n))

  scan-refuted : (l : List Branch) (p : Progress) → p.course ≡ writing → every settled l ≡ false → p.tries + needed l ≤ limit
      → (scan limit p l).course ≡ refuted
  unfolding needed every
  scan-refuted [] p e n g = absurd (true≢false n)
  scan-refuted (t ∷ l) p e n g = go (scan-refuted l (taken limit p t)) (decided (settled t))
    where
      go : (course_at t.tip ≡ writing → every settled l ≡ false → p.tries + 1 + needed l ≤ limit
          → (scan limit (taken limit p t) l).course ≡ refuted) → (t ∈ settled) ⊎ (t ∉ settled) → (scan limit p (t ∷ l)).course ≡ refuted
      go f (inl s) =
          let u = needed-further t l s in
          rw (scan-further p e t l (omega arith)) (f (settled-writing _ s) (absent (both s) n) (omega arith))
      go f (inr m) = let u = needed-last t l m in scan-refutes p e t l (omega arith) m

  scan-written : (l : List Branch) (p : Progress) → p.course ≡ writing → every settled l ≡ true → p.tries + length l ≤ limit
      → scan limit p l ≡ record { tries = p.tries + length l; bytes = p.bytes ++ steps_of l; course = writing }
  unfolding steps_of every
  scan-written [] p e s g =
      let n : p.tries ≡ p.tries + 0 = omega arith in
      let u = sym (append-nil p.bytes) in scan-nil limit p ∙ (λ i. record { tries = n i; bytes = u i; course = e i })
  scan-written (t ∷ l) p e s g =
      let n : p.tries + 1 + length l ≡ p.tries + suc (length l) = omega arith in
      let u = append_assoc p.bytes t.bytes (steps_of l) in
      scan-further p e t l (omega arith)
      ∙ scan-written l (taken limit p t) (settled-writing _ (and_left (settled t) _ s)) (and_right (settled t) _ s) (omega arith)
      ∙ (λ i. record { tries = n i; bytes = u i; course = writing })

-- ---- the paper's walk

-- a list cut at its first unsettled branch
record Cut (l : List Branch) : Type 0 where
  earlier : List Branch
  last : Branch
  later : List Branch
  whole : l ≡ earlier ++ (last ∷ later)
  earlier-settled : every settled earlier ≡ true
  last-unsettled : last ∉ settled

cut : (l : List Branch) → every settled l ≡ false → Cut l
unfolding every
cut [] n = absurd (true≢false n)
cut (t ∷ l) n = go (cut l) (decided (settled t))
  where
    go : (every settled l ≡ false → Cut l) → (t ∈ settled) ⊎ (t ∉ settled) → Cut (t ∷ l)
    go f (inl s) = let c = f (absent (both s) n) in record {
      earlier = t ∷ c.earlier;
      last = c.last;
      later = c.later;
      whole = ap (λ (m : List Branch). t ∷ m) c.whole;
      earlier-settled = both s c.earlier-settled;
      last-unsettled = c.last-unsettled;
    }
    go f (inr m) = record { earlier = []; last = t; later = l; whole = refl; earlier-settled = refl; last-unsettled = m }

module _ (b : Book) (k : Claim) where
  abbrev all : List Branch
  all = branches b k start

  pub stuck-some : every settled (branches b k start) ≡ false → (n : ℕ) × Stuck b k n
  stuck-some n = let c = cut all n in (
    length c.earlier + 1,
    record {
      earlier = c.earlier;
      last = c.last;
      later = c.later;
      walk = c.whole;
      number = refl;
      earlier-settled = c.earlier-settled;
      last-unsettled = c.last-unsettled;
    },
  )

  stuck-needed : {n : ℕ} → Stuck b k n → n ≡ needed all
  stuck-needed s = s.number ∙ sym (rw s.walk (needed-stuck s.earlier s.last s.later s.earlier-settled s.last-unsettled))

  pub stuck-unsettled : {n : ℕ} → Stuck b k n → every settled (branches b k start) ≡ false
  unfolding every
  stuck-unsettled s =
      rw (s.walk, every_append settled s.earlier (s.last ∷ s.later))
      (not-second (every settled s.earlier) (not_first _ s.last-unsettled))

  needs-needed : {n : ℕ} → PaperNeeds b k n → n ≡ needed all
  needs-needed (to-stuck s) = stuck-needed s
  needs-needed (to_last s) = sym (needed-all all s)

  -- the number of branches that are needed is there, and is one
  pub paper-needs-some : (n : ℕ) × PaperNeeds b k n
  paper-needs-some = ⊎_elim (λ s. (length all, to_last s)) (λ n. let (m, s) = stuck-some n in (m, to-stuck s)) (decided (every settled all))

  pub paper-needs-one : {m n : ℕ} → PaperNeeds b k m → PaperNeeds b k n → m ≡ n
  paper-needs-one p q = needs-needed p ∙ sym (needs-needed q)

  module _ (limit : ℕ) where
    pub paper-limited : {n : ℕ} → PaperNeeds b k n → limit < n → (paper_walk b k limit).course ≡ limited
    unfolding paper_walk
    paper-limited p h = scan-limited limit all _ refl (omega arith) (omega (arith, needs-needed p))

    pub paper-stuck : {n : ℕ} → Stuck b k n → n ≤ limit → (paper_walk b k limit).course ≡ refuted
    unfolding paper_walk
    paper-stuck s h = scan-refuted limit all _ refl (stuck-unsettled s) (omega (arith, stuck-needed s))

    pub paper-written : every settled (branches b k start) ≡ true → length (branches b k start) ≤ limit → paper_walk b k limit
        ≡ record { tries = length (branches b k start); bytes = steps_of (branches b k start); course = writing }
    unfolding paper_walk
    paper-written s h =
        let n : 0 + length all ≡ length all = omega arith in
        scan-written limit all _ refl s (omega arith) ∙ (λ i. record { tries = n i; bytes = steps_of all; course = writing })

-- ---- tries and splits

-- one for a branch that ends in a split
unfoldable pub split_at : Tip → ℕ
split_at ended = 0
split_at (parted r c) = 1
split_at unsettled = 0

unfoldable pub splits_in : List Branch → ℕ
splits_in [] = 0
splits_in (t ∷ l) = split_at t.tip + splits_in l

splits-append : (l m : List Branch) → splits_in (l ++ m) ≡ splits_in l + splits_in m
unfolding splits_in
splits-append [] m = omega arith
splits-append (t ∷ l) m = let e = splits-append l m in omega arith

parts-tries : (b : Book) (k : Claim) {c : Pair} {l : List Branch} → Parts b k c l → length l ≡ splits_in l + splits_in l + 1
unfolding splits_in split_at
parts-tries b k (no_more e) = rw e
parts-tries b k (left_open e) = rw e
parts-tries b k (two-more {l = l} {m = m} e p q) =
    let f = parts-tries b k p in let g = parts-tries b k q in
    rw (e, length-append l m, splits-append l m) (omega arith)

-- the tries of the whole paper's walk are one more than twice its splits (blueprint, N4)
pub tries-splits : (b : Book) (k : Claim) → count b ≤ 255
    → length (branches b k start) ≡ splits_in (branches b k start) + splits_in (branches b k start) + 1
tries-splits b k fits = parts-tries b k (branches-parts b k fits start)
