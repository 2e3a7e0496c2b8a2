-- The branches of the engine's paper, step by step and split by split (specs/Branches; blueprint, section 5 and N4): every step that does
-- not end a branch puts a rule where it was missing, and every split colours a rule that had no colour, so the numbers of steps and levels
-- that specs/Branches allows never end anything. Proofs about branches go by induction over Steps and Parts.
use mathlib.Core.Path.{◌≡◌, refl, ◌∙◌, ap}
use mathlib.Core.Bool.{not}
use mathlib.Core.List.{List, [], ◌∷◌, ◌++◌, append_assoc}
use Prim.Native.Nat.{ℕ, zero, suc, ◌+◌, ◌≤◌, ◌<◌}
use native.Mathlib.Omega.{arith}
use lib.ListN.{length}
use borrow.Author.Tests.{not-true}
use Rattle.meaning.specs.declared.RuleNo.{RuleNo}
use Rattle.meaning.specs.Sets.{◌∈◌, ◌∉◌}
use Rattle.meaning.specs.Books.{Rules, among, Book, count, InBook}
use Rattle.meaning.specs.Colours.{Pair, Side, on_side, off_side, side, plus, put, uncoloured, Under, Within}
use Rattle.meaning.specs.declared.kind.Claim.{Claim}
use Rattle.meaning.specs.Paper.{numbers, code_on, code_off, code_unfounded, code_split, code_end}
use Rattle.meaning.specs.Lowest.{rules_in}
use Rattle.meaning.specs.Engine.{Next, ends, puts-on, puts-off, drops, splits, stuck, next}
use Rattle.meaning.proofs.Tests.{or_left, or_right, absent, neither, neither_left, neither_right}
use Rattle.meaning.proofs.Rules.{among-here, one-among, put-above, within-refl, within-trans, within_on, within-off}
use Rattle.meaning.proofs.RulesIn.{rules-fewer, rules-length}
use Rattle.meaning.proofs.Engine.{next-puts-on, next-puts-off, next-drops, next-splits}
use Rattle.writer.specs.Branches.{Tip, ended, parted, unsettled, Branch, behind, branch_by, branch_in, branch}
use Rattle.writer.specs.Branches.{below, branches_in, branches}

-- a step from the pair c that does not end the branch: the pair after it
pub data Adds (c : Pair) : Next → Pair → Type 0 where
  adds_on : (r : RuleNo) → Adds c (puts-on r) (put on_side (r ∷ []) c)
  adds-off : (r : RuleNo) → Adds c (puts-off r) (put off_side (r ∷ []) c)
  adds-all : (l : List RuleNo) → Adds c (drops l) (put off_side l c)

-- the rest of a branch is asked for only after such a step
branch-by-same : (c : Pair) (n : Next) (f g : Pair → Branch) → ((d : Pair) → Adds c n d → f d ≡ g d) → branch_by c n f ≡ branch_by c n g
unfolding branch_by
branch-by-same c ends f g h = refl
branch-by-same c (puts-on r) f g h = rw (h _ (adds_on r))
branch-by-same c (puts-off r) f g h = rw (h _ (adds-off r))
branch-by-same c (drops l) f g h = rw (h _ (adds-all l))
branch-by-same c (splits r) f g h = refl
branch-by-same c stuck f g h = refl

-- the branches below a tip are asked for only at the two pairs of a split
below-same : (t : Tip) (f g : Pair → List Branch)
    → ((x : Side) (r : RuleNo) (d : Pair) → t ≡ parted r d → f (put x (r ∷ []) d) ≡ g (put x (r ∷ []) d)) → below t f ≡ below t g
unfolding below
below-same ended f g h = refl
below-same (parted r d) f g h = let p = h on_side r d refl in let q = h off_side r d refl in rw (p, q)
below-same unsettled f g h = refl

-- steps behind steps: a branch is taken down piece by piece
pub behind-none : (t : Branch) → behind [] t ≡ t
unfolding behind
behind-none t = refl

pub behind-append : (l m : List ℕ) (t : Branch) → behind l (behind m t) ≡ behind (l ++ m) t
unfolding behind
behind-append l m t = rw (append_assoc l m t.bytes)

-- ---- what is missing from a pair

abbrev lacking : Rules → Rules
lacking s r = not (s r)

module _ (b : Book) where
  -- the places, of rules and sides, that have nothing yet
  pub missing : Pair → ℕ
  missing c = length (rules_in b (lacking c.on)) + length (rules_in b (lacking c.off))

  pub missing-count : (c : Pair) → missing c ≤ count b + count b
  unfolding missing
  missing-count c = omega (arith, rules-length b (lacking c.on), rules-length b (lacking c.off))

  plus-fewer : (s : Rules) (l : List RuleNo) (r : RuleNo) → InBook b r → r ∈ among l → r ∉ s
      → length (rules_in b (lacking (plus s l))) < length (rules_in b (lacking s))
  plus-fewer s l r h m n =
      rules-fewer b (lacking s) (lacking (plus s l)) (λ q g k. ap not (neither_left (s q) _ (not-true _ k))) r h (ap not n)
      (ap not (or_right (s r) m))

  pub put-missing : (x : Side) (l : List RuleNo) (c : Pair) (r : RuleNo) → InBook b r → r ∈ among l → r ∉ side x c
      → missing (put x l c) < missing c
  unfolding missing put side
  put-missing on_side l c r h m n = omega (arith, plus-fewer c.on l r h m n)
  put-missing off_side l c r h m n = omega (arith, plus-fewer c.off l r h m n)

  uncoloured-under : {c d : Pair} → Within b c d → Under b (uncoloured d) (uncoloured c)
  unfolding uncoloured
  uncoloured-under {d = d} w r h m =
      let n = not-true _ m in
      ap not (neither (absent (within_on b w r h) (neither_left (d.on r) _ n)) (absent (within-off b w r h) (neither_right (d.on r) _ n)))

  put-coloured : (x : Side) (r : RuleNo) (c : Pair) → r ∉ uncoloured (put x (r ∷ []) c)
  unfolding uncoloured put
  put-coloured on_side r c = ap not (or_left _ (or_right (c.on r) (one-among r)))
  put-coloured off_side r c = ap not (or_right (c.on r) (or_right (c.off r) (one-among r)))

  -- the rules without a colour
  pub left : Pair → ℕ
  left c = length (rules_in b (uncoloured c))

  pub left-count : (c : Pair) → left c ≤ count b
  unfolding left
  left-count c = rules-length b (uncoloured c)

  -- where a split parts a pair that holds c, fewer rules are left without a colour than in c
  pub put-left : (x : Side) (c d : Pair) (r : RuleNo) → Within b c d → InBook b r → r ∈ uncoloured d
      → left (put x (r ∷ []) d) < left c
  unfolding left
  put-left x c d r w h m =
      rules-fewer b _ _ (uncoloured-under (within-trans b w (put-above b x (r ∷ []) d))) r h (uncoloured-under w r h m) (put-coloured x r d)

-- ---- how branches are built up

module _ (b : Book) (k : Claim) where
  -- a branch from the pair, step by step
  pub data Steps : Pair → Branch → Type 0 where
    at-end : {c : Pair} → next b k c ≡ ends → Steps c (record { bytes = code_end ∷ []; tip = ended })
    at_split : {c : Pair} (r : RuleNo) → next b k c ≡ splits r → Steps c (record { bytes = code_split ∷ (r.0 ∷ []); tip = parted r c })
    at-stuck : {c : Pair} → next b k c ≡ stuck → Steps c (record { bytes = []; tip = unsettled })
    step-on : {c : Pair} {t : Branch} (r : RuleNo) → next b k c ≡ puts-on r → Steps (put on_side (r ∷ []) c) t
        → Steps c (behind (code_on ∷ (r.0 ∷ [])) t)
    step-off : {c : Pair} {t : Branch} (r : RuleNo) → next b k c ≡ puts-off r → Steps (put off_side (r ∷ []) c) t
        → Steps c (behind (code_off ∷ (r.0 ∷ [])) t)
    step-all : {c : Pair} {t : Branch} (l : List RuleNo) → next b k c ≡ drops l → Steps (put off_side l c) t
        → Steps c (behind (code_unfounded ∷ (length l ∷ numbers l)) t)

  -- what the tip of a branch from c says: the pair at the tip holds c, and what the engine does there
  pub data Reached (c : Pair) : Tip → Type 0 where
    reached-end : {d : Pair} → Within b c d → next b k d ≡ ends → Reached c ended
    reached-split : {d : Pair} {r : RuleNo} → Within b c d → next b k d ≡ splits r → Reached c (parted r d)
    reached-stuck : {d : Pair} → Within b c d → next b k d ≡ stuck → Reached c unsettled

  reached-before : {c d : Pair} {t : Tip} → Within b c d → Reached d t → Reached c t
  reached-before w (reached-end v e) = reached-end (within-trans b w v) e
  reached-before w (reached-split v e) = reached-split (within-trans b w v) e
  reached-before w (reached-stuck v e) = reached-stuck (within-trans b w v) e

  -- a branch and those below it, split by split
  pub data Parts : Pair → List Branch → Type 0 where
    no_more : {c : Pair} → (branch b k c).tip ≡ ended → Parts c (branch b k c ∷ [])
    left_open : {c : Pair} → (branch b k c).tip ≡ unsettled → Parts c (branch b k c ∷ [])
    two-more : {c d : Pair} {r : RuleNo} {l m : List Branch} → (branch b k c).tip ≡ parted r d → Parts (put on_side (r ∷ []) d) l
        → Parts (put off_side (r ∷ []) d) m → Parts c (branch b k c ∷ (l ++ m))

module _ (b : Book) (k : Claim) (fits : count b ≤ 255) where
  -- ---- one step

  pub adds-fewer : {c d : Pair} {n : Next} → Adds c n d → next b k c ≡ n → missing b d < missing b c
  unfolding side
  adds-fewer {c} (adds_on r) e = let (h, m, n, f) = next-puts-on b k c r e in put-missing b on_side (r ∷ []) c r h (one-among r) n
  adds-fewer {c} (adds-off r) e = let (h, m, n, f) = next-puts-off b k c r e in put-missing b off_side (r ∷ []) c r h (one-among r) n
  adds-fewer {c} (adds-all l) e =
      let d = next-drops b k c fits l e in let (r, m) = some-listed l d.not-empty in
      put-missing b off_side l c r (d.in-book r m) m (d.fresh r m)
    where
      some-listed : (l : List RuleNo) → 0 < length l → (r : RuleNo) × (r ∈ among l)
      some-listed [] h = absurd (omega arith)
      some-listed (r ∷ l) h = (r, among-here r l)

  pub branch-fuel : (m n : ℕ) (c : Pair) → missing b c < m → missing b c < n → branch_in m b k c ≡ branch_in n b k c
  unfolding branch_in
  branch-fuel zero n c h g = absurd (omega arith)
  branch-fuel (suc m) zero c h g = absurd (omega arith)
  branch-fuel (suc m) (suc n) c h g = branch-by-same c _ _ _ (λ d a.
      let f = adds-fewer a refl in branch-fuel m n d (omega arith) (omega arith))

  module _ (c : Pair) where
    pub branch-unfold : branch b k c ≡ branch_by c (next b k c) (branch b k)
    unfolding branch branch_in
    branch-unfold = branch-by-same c _ _ _ (λ d a.
        let f = adds-fewer a refl in branch-fuel (count b + count b) (suc (count b + count b)) d
        (omega (arith, missing-count b c)) (omega (arith, missing-count b c)))

    pub branch-ends : next b k c ≡ ends → branch b k c ≡ record { bytes = code_end ∷ []; tip = ended }
    unfolding branch_by
    branch-ends e = rw e at branch-unfold

    pub branch-on : (r : RuleNo) → next b k c ≡ puts-on r
        → branch b k c ≡ behind (code_on ∷ (r.0 ∷ [])) (branch b k (put on_side (r ∷ []) c))
    unfolding branch_by
    branch-on r e = rw e at branch-unfold

    pub branch-off : (r : RuleNo) → next b k c ≡ puts-off r
        → branch b k c ≡ behind (code_off ∷ (r.0 ∷ [])) (branch b k (put off_side (r ∷ []) c))
    unfolding branch_by
    branch-off r e = rw e at branch-unfold

    pub branch-drops : (l : List RuleNo) → next b k c ≡ drops l
        → branch b k c ≡ behind (code_unfounded ∷ (length l ∷ numbers l)) (branch b k (put off_side l c))
    unfolding branch_by
    branch-drops l e = rw e at branch-unfold

    pub branch-splits : (r : RuleNo) → next b k c ≡ splits r → branch b k c ≡ record { bytes = code_split ∷ (r.0 ∷ []); tip = parted r c }
    unfolding branch_by
    branch-splits r e = rw e at branch-unfold

    pub branch_stuck : next b k c ≡ stuck → branch b k c ≡ record { bytes = []; tip = unsettled }
    unfolding branch_by
    branch_stuck e = rw e at branch-unfold

  pub branch-steps : (c : Pair) → Steps b k c (branch b k c)
  branch-steps c = go (suc (missing b c)) c (omega arith)
    where
      go : (m : ℕ) (c : Pair) → missing b c < m → Steps b k c (branch b k c)
      go zero c h = absurd (omega arith)
      go (suc m) c h = ways (next b k c) refl (λ n d e a. go m d (omega (arith, adds-fewer a e)))
        where
          ways : (n : Next) → next b k c ≡ n → ((n : Next) (d : Pair) → next b k c ≡ n → Adds c n d → Steps b k d (branch b k d))
              → Steps b k c (branch b k c)
          ways ends e f = rw (branch-ends c e) (at-end e)
          ways (puts-on r) e f = rw (branch-on c r e) (step-on r e (f _ _ e (adds_on r)))
          ways (puts-off r) e f = rw (branch-off c r e) (step-off r e (f _ _ e (adds-off r)))
          ways (drops l) e f = rw (branch-drops c l e) (step-all l e (f _ _ e (adds-all l)))
          ways (splits r) e f = rw (branch-splits c r e) (at_split r e)
          ways stuck e f = rw (branch_stuck c e) (at-stuck e)

  steps-reached : {c : Pair} {t : Branch} → Steps b k c t → Reached b k c t.tip
  unfolding behind
  steps-reached (at-end e) = reached-end (within-refl b _) e
  steps-reached (at_split r e) = reached-split (within-refl b _) e
  steps-reached (at-stuck e) = reached-stuck (within-refl b _) e
  steps-reached (step-on r e p) = reached-before b k (put-above b on_side (r ∷ []) _) (steps-reached p)
  steps-reached (step-off r e p) = reached-before b k (put-above b off_side (r ∷ []) _) (steps-reached p)
  steps-reached (step-all l e p) = reached-before b k (put-above b off_side l _) (steps-reached p)

  pub branch-reached : (c : Pair) {t : Tip} → (branch b k c).tip ≡ t → Reached b k c t
  branch-reached c e = rw (← e) (steps-reached (branch-steps c))

  -- ---- the branches, split by split

  pub parted-left : (x : Side) (r : RuleNo) (c d : Pair) → (branch b k c).tip ≡ parted r d → left b (put x (r ∷ []) d) < left b c
  parted-left x r c d e = from (branch-reached c e)
    where
      from : Reached b k c (parted r d) → left b (put x (r ∷ []) d) < left b c
      from (reached-split w n) = let (h, m, f) = next-splits b k d r n in put-left b x c d r w h m

  pub branches-fuel : (m n : ℕ) (c : Pair) → left b c < m → left b c < n → branches_in m b k c ≡ branches_in n b k c
  unfolding branches_in
  branches-fuel zero n c h g = absurd (omega arith)
  branches-fuel (suc m) zero c h g = absurd (omega arith)
  branches-fuel (suc m) (suc n) c h g = ap (λ (l : List Branch). branch b k c ∷ l) (below-same _ _ _ (λ x r d e.
      let f = parted-left x r c d e in branches-fuel m n _ (omega arith) (omega arith)))

  module _ (c : Pair) where
    pub branches-unfold : branches b k c ≡ branch b k c ∷ below (branch b k c).tip (branches b k)
    unfolding branches branches_in
    branches-unfold = ap (λ (l : List Branch). branch b k c ∷ l) (below-same _ _ _ (λ x r d e.
        let f = parted-left x r c d e in branches-fuel (count b) (suc (count b)) _
        (omega (arith, left-count b c)) (omega (arith, left-count b c))))

    pub branches-ended : (branch b k c).tip ≡ ended → branches b k c ≡ branch b k c ∷ []
    unfolding below
    branches-ended e = branches-unfold ∙ rw e

    pub branches-unsettled : (branch b k c).tip ≡ unsettled → branches b k c ≡ branch b k c ∷ []
    unfolding below
    branches-unsettled e = branches-unfold ∙ rw e

    pub branches-parted : (r : RuleNo) (d : Pair) → (branch b k c).tip ≡ parted r d
        → branches b k c ≡ branch b k c ∷ (branches b k (put on_side (r ∷ []) d) ++ branches b k (put off_side (r ∷ []) d))
    unfolding below
    branches-parted r d e = branches-unfold ∙ rw e

  pub branches-parts : (c : Pair) → Parts b k c (branches b k c)
  branches-parts c = go (suc (left b c)) c (omega arith)
    where
      go : (n : ℕ) (c : Pair) → left b c < n → Parts b k c (branches b k c)
      go zero c h = absurd (omega arith)
      go (suc n) c h = ways (branch b k c).tip refl (λ x r d e. go n _ (omega (arith, parted-left x r c d e)))
        where
          ways : (t : Tip) → (branch b k c).tip ≡ t
              → ((x : Side) (r : RuleNo) (d : Pair) → (branch b k c).tip ≡ parted r d
              → Parts b k (put x (r ∷ []) d) (branches b k (put x (r ∷ []) d)))
              → Parts b k c (branches b k c)
          ways ended e f = rw (branches-ended c e) (no_more e)
          ways unsettled e f = rw (branches-unsettled c e) (left_open e)
          ways (parted r d) e f = rw (branches-parted c r d e) (two-more e (f on_side r d e) (f off_side r d e))
