-- Levels along the walk (specs/Levels; request 8, V1 to V6): a closed colouring of the walk has as many levels as choices above it, and no
-- rule's level is above that; without the rules above a level it is the closed colouring at that level again, which stands above it on the
-- walk; and what has level 0 is so in every answer set's colouring. The idea: a closing stamps just the rules that it colours, so what
-- was coloured above keeps its level, and what was not gets one that is higher.
use mathlib.Core.Path.{◌≡◌, refl, sym, ◌∙◌, ap, subst}
use mathlib.Core.Logic.{⊎_elim, ◌⊎◌, inl, inr}
use mathlib.Core.Bool.{Bool, true, false, not, ◌&&◌}
use mathlib.Core.List.Memᴰ
use mathlib.Core.List.{List, Memᴰ}
use Prim.Native.Nat.{ℕ, suc, ◌+◌, ◌≤◌, ◌<◌}
use native.Mathlib.Nat.{eq-or-lt_of_le}
use native.Mathlib.Numerals.{add-one}
use native.Mathlib.Omega.{arith}
use lib.ListN.{get_or-replicate}
use borrow.Author.Tests.{lt-ltb, le-ltb}
use Rattle.meaning.specs.declared.RuleNo.{RuleNo}
use Rattle.meaning.specs.Written.{Tables}
use Rattle.meaning.specs.Sets.{◌∈◌, ◌∉◌}
use Rattle.meaning.specs.Books.{Atoms, Book, count, InBook}
use Rattle.meaning.specs.AnswerSet.{AnswerSet}
use Rattle.meaning.specs.Choice.{ifb}
use Rattle.meaning.specs.Colours.{Side, on_side, off_side, side, Within, Consistent, uncoloured, colouring_of}
use Rattle.meaning.specs.Written.{of, level_of, nothing, chosen, pair}
use Rattle.meaning.specs.Computed.{newly, close}
use Rattle.meaning.specs.Lowest.{none, one, lowest, clashed}
use Rattle.meaning.proofs.Tests.{both, true-and-false, refuted, decided, same, not_first, not-second, apart}
use Rattle.meaning.proofs.Choice.{b-yes, b-no}
use Rattle.meaning.proofs.Rules.{uncoloured-no, clashing-no, within-trans}
use Rattle.meaning.proofs.Stamps.{level-of-chosen, level-of-other}
use Rattle.meaning.proofs.Written.{Sized, sized-nothing, sized-chosen}
use Rattle.meaning.proofs.Closing.{close-is, close-sized, close-level, level-stamped}
use Rattle.meaning.proofs.Lowest.{lowest-one, clashed-none}
use Rattle.closing.specs.Left.{left}
use Rattle.closing.proofs.Left.{chosen-above, chosen-in, chosen-level, chosen-other, coloured, uncoloured-mono}
use Rattle.closing.proofs.Left.{left-count, left-chosen, left-close}
use Rattle.closing.proofs.Laws.{close-keeps-answers}
use Rattle.walk.specs.Events.{Event, reading, events}
use Rattle.walk.specs.Levels.{Node, at_first, below, Down, here, deeper, kept, dropped}
use Rattle.walk.proofs.Events.{Walk, at_clash, at-reading, at_fork, walks}
use Rattle.walk.proofs.Forks.{stands-nothing}

with-true : (t : Bool) → (t && true) ≡ t
with-true true = refl
with-true false = refl

module _ (b : Book) (fits : count b ≤ 255) where
  -- ---- one choice and the closing behind it

  module _ (d : Tables) (sized : Sized d) (q : RuleNo) (e : lowest b (uncoloured (pair d)) ≡ one q) (x : Side) where
    abbrev c : Tables
    c = chosen x q d

    low : q.0 < 255
    low = let h = (lowest-one b _ q e).0 in omega arith

    c-sized : Sized c
    c-sized = sized-chosen x q sized

    -- a rule that had a colour keeps it and its level
    module _ (r : RuleNo) (h : InBook b r) where
      stamp-kept : r ∉ uncoloured (pair c) → level_of (close b c) r ≡ level_of c r
      unfolding newly
      stamp-kept m = level-stamped b fits c c-sized r h ∙ b-no _ _ _ (not_first _ m)

      pub level-kept : r ∉ uncoloured (pair d) → level_of (close b c) r ≡ level_of d r
      level-kept m =
          let n : r ≡ q → ⊥ = λ z. true-and-false (lowest-one b _ q e).1 (rw z at m) in
          let k = refuted (λ u. true-and-false (uncoloured-mono b (chosen-above b d sized x q low) r h u) m) in
          stamp-kept k ∙ level-of-other q d x r n

    pub level-of-choice : level_of (close b c) q ≡ d.level + 1
    level-of-choice =
        stamp-kept q (lowest-one b _ q e).0 (coloured x (pair c) q (chosen-in b d sized x q low))
        ∙ level-of-chosen q d x (omega (arith, sized.levels, low))

    -- a rule that had none gets the level of the choice with its colour, and has 0 as long as it has none
    module _ (r : RuleNo) (h : InBook b r) (m : r ∈ uncoloured (pair d)) where
      pub level-new : r ∉ uncoloured (pair (close b c)) → level_of (close b c) r ≡ d.level + 1
      unfolding newly
      level-new k = ⊎_elim
          (λ (u : r ∈ uncoloured (pair c)). level-stamped b fits c c-sized r h ∙ b-yes _ _ _ (both u (ap not k)) ∙ chosen-level b x q d)
          (λ u. let z = chosen-other b d sized x q low r m u in rw z level-of-choice)
          (decided (uncoloured (pair c) r))

      pub level-still : r ∈ uncoloured (pair (close b c)) → level_of (close b c) r ≡ level_of d r
      unfolding newly
      level-still k =
          let u = uncoloured-mono b (close-is b fits c c-sized).good.above r h k in
          let n : r ≡ q → ⊥ = λ z. true-and-false (rw z at u) (coloured x (pair c) q (chosen-in b d sized x q low)) in
          level-stamped b fits c c-sized r h
          ∙ b-no (newly (pair c) (pair (close b c)) r) c.level (level_of c r) (not-second (uncoloured (pair c) r) (ap not k))
          ∙ level-of-other q d x r n

    pub choice-grows : Within b (pair d) (pair (close b c))
    choice-grows = within-trans b (chosen-above b d sized x q low) (close-is b fits c c-sized).good.above

  -- ---- the closed colourings of the walk

  pub node-sized : {n : ℕ} {d : Tables} → Node b n d → Sized d
  node-sized at_first = close-sized b fits nothing sized-nothing
  node-sized (below {r = r} k t p x) = close-sized b fits _ (sized-chosen x r (node-sized k))

  -- V1: as many levels as choices, and there are rules enough for them
  pub level-counts : {n : ℕ} {d : Tables} → Node b n d → d.level ≡ n
  level-counts at_first = close-level b nothing
  level-counts (below {d = d} {r = r} k t p x) =
      close-level b (chosen x r d) ∙ chosen-level b x r d ∙ add-one d.level ∙ ap suc (level-counts k)

  pub level-left : {n : ℕ} {d : Tables} → Node b n d → n + left b d ≤ count b
  level-left at_first = omega (arith, left-count b (close b nothing))
  level-left (below {d = d} {r = r} k t p x) =
      let (h, m, f) = lowest-one b _ r p in let s = node-sized k in
      omega (arith, level-left k, left-chosen b fits d s x r h m, left-close b fits (chosen x r d) (sized-chosen x r s))

  nothing-level : (r : RuleNo) → InBook b r → level_of nothing r ≡ 0
  unfolding level_of
  nothing-level r h = get_or-replicate 255 r.0 0 0 (omega arith)

  first-level : (r : RuleNo) → InBook b r → level_of (close b nothing) r ≡ 0
  first-level r h = ⊎_elim
      (λ m. level-stamped b fits nothing sized-nothing r h ∙ b-yes _ _ _ m)
      (λ m. level-stamped b fits nothing sized-nothing r h ∙ b-no _ _ _ m ∙ nothing-level r h)
      (decided (newly (pair nothing) (pair (close b nothing)) r))

  -- V2: no level is above the present one
  pub level-most : {n : ℕ} {d : Tables} → Node b n d → (r : RuleNo) → InBook b r → level_of d r ≤ n
  level-most at_first r h = omega (arith, first-level r h)
  level-most (below {n = n} {d = d} {r = q} k t p x) r h =
      let s = node-sized k in let u = level-counts k in let v = level-most k r h in ⊎_elim
      (λ m. ⊎_elim (λ j. omega (arith, level-still d s q p x r h m j)) (λ j. omega (arith, level-new d s q p x r h m j))
      (decided (uncoloured (pair (close b (chosen x q d))) r)))
      (λ m. omega (arith, level-kept d s q p x r h m))
      (decided (uncoloured (pair d) r))

  -- V3: a chosen rule has the level of its choice
  pub level-chosen : {n : ℕ} {d : Tables} {r : RuleNo} → Node b n d → lowest b (uncoloured (pair d)) ≡ one r → (x : Side)
      → level_of (close b (chosen x r d)) r ≡ n + 1
  level-chosen {d = d} {r = r} k p x = level-of-choice d (node-sized k) r p x ∙ ap (λ (m : ℕ). m + 1) (level-counts k)

  -- a rule without a colour has 0
  pub level-none : {n : ℕ} {d : Tables} → Node b n d → (r : RuleNo) → InBook b r → r ∈ uncoloured (pair d) → level_of d r ≡ 0
  level-none at_first r h m = first-level r h
  level-none (below {d = d} {r = q} k t p x) r h m =
      let s = node-sized k in let u = uncoloured-mono b (choice-grows d s q p x) r h m in
      level-still d s q p x r h u m ∙ level-none k r h u

  -- ---- above and below

  pub down-node : {m : ℕ} {d e : Tables} → Node b m d → Down b d e → (n : ℕ) × Node b n e × (m ≤ n)
  down-node {m} k here = (m, k, omega arith)
  down-node k (deeper w t p x) = let (n, j, h) = down-node k w in (suc n, below j t p x, omega arith)

  -- for every level up to the present one a closed colouring stands above on the walk
  pub node-above : {n : ℕ} {e : Tables} → Node b n e → (m : ℕ) → m ≤ n → (d : Tables) × Node b m d × Down b d e
  node-above at_first m h =
      let z : m ≡ 0 = omega arith in
      (close b nothing, subst (λ (j : ℕ). Node b j (close b nothing)) (sym z) at_first, here)
  node-above (below {d = d} {r = r} k t p x) m h = ⊎_elim
      (λ z.
      let e = close b (chosen x r d) in
      (e, subst (λ (j : ℕ). Node b j e) (sym z) (below k t p x), here))
      (λ z. let (e, j, w) = node-above k m (omega arith) in (e, j, deeper w t p x))
      (eq-or-lt_of_le h)

  pub node-first : {d : Tables} → Node b 0 d → d ≡ close b nothing
  node-first at_first = refl

  -- ---- V4: dropping the rules above a level

  module _ (m : ℕ) (e : Tables) where
    kept_low : (l : List Bool) (r : RuleNo) → level_of e r ≤ m → kept m e l r ≡ of l r
    unfolding kept
    kept_low l r h = rw (le-ltb _ _ h) (with-true (of l r))

    kept_high : (l : List Bool) (r : RuleNo) → m < level_of e r → kept m e l r ≡ false
    unfolding kept
    kept_high l r h = not-second (of l r) (ap not (lt-ltb _ _ h))

    kept_out : (l : List Bool) (r : RuleNo) → r ∉ of l → kept m e l r ≡ false
    unfolding kept
    kept_out l r h = not_first _ h

  module _ {m : ℕ} {d : Tables} (node : Node b m d) where
    -- what is coloured in e has its colour and its level from above
    module _ {e : Tables} {q : RuleNo} (w : Down b d e) (t : clashed b (pair e) ≡ none) (p : lowest b (uncoloured (pair e)) ≡ one q)
        (x : Side) (calm : clashed b (pair (close b (chosen x q e))) ≡ none) where
      abbrev lower : Tables
      lower = close b (chosen x q e)

      e-sized : Sized e
      e-sized = node-sized (down-node node w).1

      consistent : Consistent b (pair lower)
      consistent = clashing-no b (pair lower) ((clashed-none b (pair lower)).0 calm)

      -- a second colour would be a contradiction
      side-stays : (y : Side) (r : RuleNo) → InBook b r → r ∉ uncoloured (pair e) → side y (pair lower) r ≡ side y (pair e) r
      unfolding side
      side-stays on_side r h n = let g = choice-grows e e-sized q p x in same _ _
          (λ k. ⊎_elim (λ i. i) (λ i. absurd (consistent r h k (g.each off_side r h i))) (uncoloured-no b (pair e) r n)) (g.each on_side r h)
      side-stays off_side r h n = let g = choice-grows e e-sized q p x in same _ _
          (λ k. ⊎_elim (λ i. absurd (consistent r h (g.each on_side r h i) k)) (λ i. i) (uncoloured-no b (pair e) r n)) (g.each off_side r h)

      -- what gets its colour there is above level m
      high : (r : RuleNo) → InBook b r → r ∈ uncoloured (pair e) → r ∉ uncoloured (pair lower) → m < level_of lower r
      high r h u n =
          let (k, j, l) = down-node node w in
          omega (arith, level-new e e-sized q p x r h u n, level-counts j)

      kept_same : (l l' : List Bool) (r : RuleNo) → InBook b r → (r ∉ uncoloured (pair e) → of l' r ≡ of l r)
          → (r ∈ uncoloured (pair e) → r ∉ of l) → (r ∈ of l' → r ∉ uncoloured (pair lower)) → kept m lower l' r ≡ kept m e l r
      unfolding kept
      kept_same l l' r h same_set was has = ⊎_elim
          (λ u. kept_new u (decided (of l' r)) ∙ sym (kept_out m e l r (was u)))
          (λ u. let z = level-kept e e-sized q p x r h u in rw (same_set u, z))
          (decided (uncoloured (pair e) r))
        where
          kept_new : r ∈ uncoloured (pair e) → (r ∈ of l') ⊎ (r ∉ of l') → kept m lower l' r ≡ false
          kept_new u (inl i) = kept_high m lower l' r (high r h u (has i))
          kept_new u (inr i) = kept_out m lower l' r i

      drop-same : (y : Side) (r : RuleNo) → InBook b r → side y (dropped m lower) r ≡ side y (dropped m e) r
      unfolding side
      drop-same on_side r h = kept_same e.on lower.on r h (side-stays on_side r h)
          (λ u. refuted (λ i. true-and-false u (coloured on_side (pair e) r i))) (λ i. coloured on_side (pair lower) r i)
      drop-same off_side r h = kept_same e.off lower.off r h (side-stays off_side r h)
          (λ u. refuted (λ i. true-and-false u (coloured off_side (pair e) r i))) (λ i. coloured off_side (pair lower) r i)

    pub drop-again : {e : Tables} → Down b d e → clashed b (pair e) ≡ none → (x : Side) (r : RuleNo) → InBook b r
        → side x (dropped m e) r ≡ side x (pair d) r
    unfolding side
    drop-again here calm on_side r h = kept_low m d d.on r (level-most node r h)
    drop-again here calm off_side r h = kept_low m d d.off r (level-most node r h)
    drop-again (deeper w t p y) calm x r h = drop-same w t p y calm x r h ∙ drop-again w t x r h

    -- a rule that is coloured in d keeps its level below
    level-stays : {e : Tables} → Down b d e → (r : RuleNo) → InBook b r → r ∉ uncoloured (pair d) → level_of e r ≡ level_of d r
    level-stays here r h n = refl
    level-stays (deeper {r = q} w t p x) r h n =
        let s = node-sized (down-node node w).1 in
        level-kept _ s q p x r h (refuted (λ u. true-and-false (down-grows w r h u) n)) ∙ level-stays w r h n
      where
        down-grows : {e : Tables} → Down b d e → (r : RuleNo) → InBook b r → r ∈ uncoloured (pair e) → r ∈ uncoloured (pair d)
        down-grows here r h u = u
        down-grows (deeper {r = q} w t p x) r h u =
            down-grows w r h (uncoloured-mono b (choice-grows _ (node-sized (down-node node w).1) q p x) r h u)

    uncoloured-again : {e : Tables} → Down b d e → clashed b (pair e) ≡ none → (r : RuleNo) → InBook b r
        → uncoloured (dropped m e) r ≡ uncoloured (pair d) r
    unfolding uncoloured side
    uncoloured-again w calm r h = rw (drop-again w calm on_side r h, drop-again w calm off_side r h)

    -- the levels too: what is dropped has 0 there
    pub drop-levels : {e : Tables} → Down b d e → clashed b (pair e) ≡ none → (r : RuleNo) → InBook b r
        → level_of d r ≡ ifb (uncoloured (dropped m e) r) 0 (level_of e r)
    drop-levels w calm r h = let z = uncoloured-again w calm r h in ⊎_elim
        (λ u. level-none node r h u ∙ sym (b-yes _ _ _ (z ∙ u)))
        (λ u. sym (b-no _ _ _ (z ∙ u) ∙ level-stays w r h u))
        (decided (uncoloured (pair d) r))

  -- ---- V5: what has level 0 is so in every answer set's colouring

  pub settled-everywhere : {n : ℕ} {e : Tables} → Node b n e → clashed b (pair e) ≡ none → (x : Side) (r : RuleNo) → InBook b r
      → r ∈ side x (pair e) → level_of e r ≡ 0 → (y : Atoms) → AnswerSet b y → r ∈ side x (colouring_of b y)
  unfolding side
  settled-everywhere {e = e} k calm x r h m z y answer =
      let (d, j, w) = node-above k 0 (omega arith) in
      let i = sym (drop-again j w calm x r h) ∙ settled-kept x m in
      first-keeps x r h (rw (node-first j) at i)
    where
      settled-kept : (x : Side) → r ∈ side x (pair e) → r ∈ side x (dropped 0 e)
      settled-kept on_side m = kept_low 0 e e.on r (omega (arith, z)) ∙ m
      settled-kept off_side m = kept_low 0 e e.off r (omega (arith, z)) ∙ m

      first-keeps : (x : Side) (r : RuleNo) → InBook b r → r ∈ side x (pair (close b nothing)) → r ∈ side x (colouring_of b y)
      first-keeps = (close-keeps-answers b fits nothing sized-nothing y answer (stands-nothing b y answer).holds).each

  -- ---- V6: every reading of the walk is a closed colouring of it

  walk-node : {c : Tables} {es : List Event} → Walk b c es → {n : ℕ} → Node b n (close b c) → (d : Tables)
      → Memᴰ (reading d) es → (m : ℕ) × Node b m d
  walk-node (at_clash k t) j d m = ⊎_elim (λ e. apart (cc)) (λ i. absurd (Memᴰ.not-nil i)) (Memᴰ.cases_cons m)
  walk-node (at-reading {d = e} k t p) {n} j d m =
      ⊎_elim (λ q. let z : e ≡ d = cc in (n, subst (Node b n) (sym k.closed ∙ z) j)) (λ i. absurd (Memᴰ.not-nil i)) (Memᴰ.cases_cons m)
  walk-node (at_fork {d = e} {r = r} f v w) {n} j d m =
      let i = subst (Node b n) (sym f.closes.closed) j in
      ⊎_elim (λ q. apart (cc))
      (λ u. ⊎_elim (λ z. walk-node v (below i f.calm f.choice on_side) d z) (λ z. walk-node w (below i f.calm f.choice off_side) d z)
      (Memᴰ.append_cases _ u)) (Memᴰ.cases_cons m)

  pub reading-node : (d : Tables) → Memᴰ (reading d) (events b nothing) → (n : ℕ) × Node b n d
  reading-node d = walk-node (walks b fits nothing sized-nothing) at_first d
