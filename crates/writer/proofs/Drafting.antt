-- The draft along the branches (specs/Draft, specs/Scan): a walk that is over leaves it, the limit stops it, and else one branch is taken
-- down; behind a split the two walks go on from the colouring at the split, one after the other.
use mathlib.Core.Path.{◌≡◌, refl, sym, ◌∙◌, ap}
use mathlib.Core.List.{List, [], ◌∷◌}
use Prim.Native.Nat.{ℕ, ◌+◌, ◌≤◌, ◌<◌}
use native.Mathlib.Omega.{arith}
use Rattle.meaning.specs.declared.RuleNo.{RuleNo}
use Rattle.meaning.specs.Books.{Book, count}
use Rattle.meaning.specs.Colours.{Pair, Side, on_side, off_side, put}
use Rattle.meaning.specs.declared.kind.Claim.{Claim}
use Rattle.meaning.specs.Written.{Tables, written, colour_on, colour_off, pair}
use Rattle.meaning.proofs.Written.{pair-on, pair-off}
use Rattle.meaning.proofs.Listed.{listed-long}
use Rattle.meaning.proofs.Engine.{next-splits}
use Rattle.writer.specs.Branches.{Branch, parted, branch, branches}
use Rattle.writer.specs.Scan.{Progress, writing, course_at, scan}
use Rattle.writer.specs.Draft.{tip_of, Wrote, course_of, Stage}
use Rattle.writer.specs.declared.step.Tip.{Tip}
use Rattle.writer.specs.declared.step.Tip.TheVariants.{Ended, Parted, Unsettled}
use Rattle.writer.specs.declared.branch.Written.{Written}
use Rattle.writer.specs.declared.split.Course.{Course}
use Rattle.writer.specs.declared.split.Course.TheVariants.{Writing, Limited, Refuted}
use Rattle.writer.specs.declared.split.Drafted.{Drafted}
use Rattle.writer.proofs.Branches.{left, Reached, reached-split, branch-reached, parted-left}
use Rattle.writer.proofs.Branches.{branches-unfold, branches-ended, branches-unsettled, branches-parted}
use Rattle.writer.proofs.Scan.{taken, scan-nil, scan-append, scan-over, scan-taken, scan-stops, scan-tries}

-- ---- a walk that is over

only-writing : (h : Course) → course_of h ≡ writing → h ≡ Writing
only-writing Writing e = refl
only-writing Limited e = cc
only-writing Refuted e = cc

pub stage-over : {p : Drafted} {out : List ℕ} {s : Progress} → Stage p out s → (p.course ≡ Writing → ⊥) → (limit : ℕ) (l : List Branch)
    → Stage p out (scan limit s l)
stage-over {p} {s = s} g n limit l = rw (scan-over limit s l (λ e. n (only-writing p.course (g.course ∙ e)))) g

-- ---- how a written branch ends

module _ (b : Book) (k : Claim) (fits : count b ≤ 255) (c : Pair) {m : ℕ} {out : List ℕ} {w : Written} {after : List ℕ}
    (d : Wrote (branch b k c) m out w after) where
  tip-is : {t : Tip} → w.tip ≡ t → (branch b k c).tip ≡ tip_of t (pair (written w.colours))
  tip-is e = sym d.tip ∙ ap (λ t. tip_of t (pair (written w.colours))) e

  module _ {r : RuleNo} (e : w.tip ≡ Parted r) where
    pub part-below : r.0 < 255
    part-below = from (branch-reached b k fits c (tip-is e))
      where
        from : Reached b k c (parted r (pair (written w.colours))) → r.0 < 255
        from (reached-split v n) = omega (arith, (next-splits b k _ r n).0)

    -- the colourings behind the split
    pub part-on : {x : Tables} → x ≡ colour_on r (written w.colours)
        → pair x ≡ put on_side (r ∷ []) (pair (written w.colours))
    part-on f = rw f (pair-on (written w.colours) r (rw (listed-long w.colours.on.w) (omega (arith, part-below))))

    pub part_off : {x : Tables} → x ≡ colour_off r (written w.colours)
        → pair x ≡ put off_side (r ∷ []) (pair (written w.colours))
    part_off f = rw f (pair-off (written w.colours) r (rw (listed-long w.colours.off.w) (omega (arith, part-below))))

    pub part-fewer : (x : Side) (q : Pair) → q ≡ put x (r ∷ []) (pair (written w.colours)) → left b q < left b c
    part-fewer x q f = rw f (parted-left b k fits x r c _ (tip-is e))

-- ---- one branch

-- one try more, and the draft up to the end of the branch
abbrev pub further : Drafted → Written → Course → Drafted
further p w h = record { tries = p.tries + 1; length = w.length; course = h }

module _ (b : Book) (k : Claim) (fits : count b ≤ 255) (limit : ℕ) (c : Pair) {p : Drafted} {out : List ℕ} {s : Progress}
    (g : Stage p out s) (going : p.course ≡ Writing) where
  still : s.course ≡ writing
  still = sym g.course ∙ ap course_of going

  pub stage-stopped : limit ≤ p.tries → s.tries ≤ limit
      → Stage (record { tries = p.tries; length = p.length; course = Limited }) out (scan limit s (branches b k c))
  stage-stopped h l =
      rw (branches-unfold b k fits c, scan-stops limit s still (branch b k c) _ (omega (arith, g.tries)))
      record { tries = g.tries; bytes = g.bytes; course = refl }

  module _ (h : p.tries < limit) {w : Written} {after : List ℕ} (d : Wrote (branch b k c) p.length out w after) where
    one_more : (l : List Branch) → scan limit s (branch b k c ∷ l) ≡ scan limit (taken limit s (branch b k c)) l
    one_more l = scan-taken limit s still (branch b k c) l (λ e. omega (arith, g.tries))

    -- the draft behind the branch
    stage-taken : (h : Course) → course_of h ≡ course_at (branch b k c).tip → Stage (further p w h) after (taken limit s (branch b k c))
    stage-taken h e = record { tries = ap (λ n. n + 1) g.tries; bytes = d.bytes.behind _ g.bytes; course = e }

    pub stage-ended : w.tip ≡ Ended → Stage (further p w Writing) after (scan limit s (branches b k c))
    unfolding course_at
    stage-ended e =
        let e = tip-is b k fits c d e in
        rw (branches-ended b k fits c e, one_more [], scan-nil) (stage-taken Writing (sym (ap course_at e)))

    pub stage-unsettled : w.tip ≡ Unsettled → Stage (further p w Refuted) after (scan limit s (branches b k c))
    unfolding course_at
    stage-unsettled e =
        let e = tip-is b k fits c d e in
        rw (branches-unsettled b k fits c e, one_more [], scan-nil) (stage-taken Refuted (sym (ap course_at e)))

    pub stage-parted : {r : RuleNo} → w.tip ≡ Parted r → {q v : Drafted} {out' end : List ℕ} {on off : Pair}
        → on ≡ put on_side (r ∷ []) (pair (written w.colours)) → off ≡ put off_side (r ∷ []) (pair (written w.colours)) → s.tries ≤ limit
        → ((t : Progress) → Stage (further p w Writing) after t → t.tries ≤ limit → Stage q out' (scan limit t (branches b k on)))
        → ((t : Progress) → Stage q out' t → t.tries ≤ limit → Stage v end (scan limit t (branches b k off)))
        → Stage v end (scan limit s (branches b k c))
    unfolding course_at
    stage-parted {r} e o f l first second =
        let e = tip-is b k fits c d e in
        let start = stage-taken Writing (sym (ap course_at e)) in
        let few : s.tries + 1 ≤ limit = omega (arith, g.tries) in
        rw (branches-parted b k fits c r _ e, one_more, scan-append, ← o, ← f)
        (second _ (first _ start few) (scan-tries limit _ _ few))
