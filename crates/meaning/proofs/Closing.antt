-- Closing (document 01, "Closing repeats these until nothing is added"; blueprint C2): the closing is unique and grows with the pair, and
-- the computed one is it, written out, with the places from R on left as they were. What a round adds is in every closed pair above,
-- since all conditions only grow with the pair; a round that adds nothing has found a closed pair.
use mathlib.Core.Path.{◌≡◌, refl, sym, ◌∙◌, ap}
use mathlib.Core.Logic.{◌⊎◌, inl, inr, ⊎_elim}
use mathlib.Core.Bool.{true, not}
use mathlib.Core.List.{List}
use Prim.Native.Nat.{ℕ, ◌+◌, ◌≤◌, ◌<◌}
use native.Mathlib.Omega.{arith}
use lib.ListN.{get_or}
use borrow.Author.Tests.{not-true}
use Rattle.meaning.specs.declared.RuleNo.{RuleNo}
use Rattle.meaning.specs.Written.{Tables}
use Rattle.meaning.specs.Sets.{◌∈◌}
use Rattle.meaning.specs.Books.{Book, count, InBook}
use Rattle.meaning.specs.Colours.{Pair, Side, on_side, off_side, side, blocked, starved, Closed, Within, ClosedAbove, Closing}
use Rattle.meaning.specs.Written.{of, lent, pair, level_of}
use Rattle.meaning.specs.Choice.{ifb}
use Rattle.meaning.specs.Computed.{iterate, support, goes_off, close_more, marked, newly, new_levels, stamped, close}
use Rattle.meaning.proofs.Tests.{either, or_left, or_right, absent, same}
use Rattle.meaning.proofs.Least.{Adding, smallest-mono, smallest-unique, iterate-fine, iterate-smallest}
use Rattle.meaning.proofs.Rules.{in-book-or-not, within_on, within-off, within_both, within-refl, within-trans}
use Rattle.meaning.proofs.Rules.{may_on-mono, blocked-mono, starved-mono}
use Rattle.meaning.proofs.Written.{of-same, length-added, of-added, of-added-outside, added-above, added-grows, added-rests}
use Rattle.meaning.proofs.Written.{size, size-le, Sized, Untouched, room}
use Rattle.meaning.proofs.Stamps.{length-stamp, stamp-at, stamp-rests, newly-same}
use Rattle.meaning.proofs.Support.{support-is, length-support, outside, unsupported-any}

-- how many additions have been made
amount : Book → Tables → ℕ
amount b d = size (count b) d.on + size (count b) d.off

module _ (b : Book) where
  -- ---- closings of pairs

  pub closing-unique : {c d e : Pair} → Closing b c d → Closing b c e → (x : Side) (r : RuleNo) → InBook b r → side x d r ≡ side x e r
  closing-unique p q x r h = let (v, w) = smallest-unique p q in same _ _ (v.each x r h) (w.each x r h)

  pub closing-mono : {c d e f : Pair} → Within b c d → Closing b c e → Closing b d f → Within b e f
  closing-mono w p q = smallest-mono (λ t g. record { above = within-trans b w g.above; closed = g.closed }) p q

  -- a closed pair is its own closing
  pub closed-closing : {c : Pair} → Closed b c → Closing b c c
  closed-closing {c} k = record { good = record { above = within-refl b c; closed = k }; least = λ t g. g.above }

  -- ---- one round

  module _ (fits : count b ≤ 255) where
    goes_off-within : (c e : Pair) → Within b c e → Closed b e
        → (r : RuleNo) → InBook b r → r ∈ goes_off b c (of (support b c.off)) → r ∈ e.off
    unfolding goes_off
    goes_off-within c e w k r h m = ⊎_elim
        (λ p. k.goes-off-blocked r h (blocked-mono b w r p))
        (λ m. ⊎_elim (λ p. k.goes-off-starved r h (starved-mono b w r p)) unsupported (either (starved b c r) _ m))
        (either (blocked b c r) _ m)
      where
        unsupported : not (of (support b c.off) r) ≡ true → r ∈ e.off
        unsupported p =
            outside b k _ (λ q g n. (support-is b c.off fits).good q g (absent (within-off b w q g) n)) r h (not-true _ p)

    -- a round that adds nothing has found a closed pair
    rests-closed : (d : Tables) → Sized d → d ≡ close_more b d → Closed b (pair d)
    unfolding close_more goes_off
    rests-closed d s e = record {
      goes_on = λ r h p. added-rests b _ d.on (rw s.on (room b fits)) (λ i. (e i).on) r h p;
      goes-off-blocked = λ r h p. gone r h (or_left _ p);
      goes-off-starved = λ r h p. gone r h (or_right (blocked b (pair d) r) (or_left _ p));
      goes-off-unsupported = unsupported-any b (support-is b (of d.off) fits)
          (λ r h n. gone r h (or_right (blocked b (pair d) r) (or_right (starved b (pair d) r) (ap not n))));
    }
      where
        gone : (r : RuleNo) → InBook b r → r ∈ goes_off b (pair d) (of (support b (of d.off))) → r ∈ of d.off
        gone r h p = added-rests b _ d.off (rw s.off (room b fits)) (λ i. (e i).off) r h p

    -- ---- the rounds, from c on

    module _ (c : Tables) where
      record Between (d : Tables) : Type 0 where
        sized : Sized d
        above : Within b (pair c) (pair d)
        untouched : Untouched b c d

      between_start : Sized c → Between c
      between_start s = record { sized = s; above = within-refl b (pair c); untouched = record { on = λ r h. refl; off = λ r h. refl } }

      more_within : (d : Tables) → Between d → (e : Pair) → Closed b e → Within b (pair d) e → Within b (pair (close_more b d)) e
      unfolding close_more
      more_within d f e k w = within_both b
          (λ r h m. ⊎_elim (within_on b w r h) (λ p. k.goes_on r h (may_on-mono b w r p))
          (either (of d.on r) _ (sym (of-added b _ d.on (rw f.sized.on (room b fits)) r h) ∙ m)))
          (λ r h m. ⊎_elim (within-off b w r h) (goes_off-within (pair d) e w k r h)
          (either (of d.off r) _ (sym (of-added b _ d.off (rw f.sized.off (room b fits)) r h) ∙ m)))

      more-between : (d : Tables) → Between d → Between (close_more b d)
      unfolding close_more
      more-between d f = record {
        sized = record {
          on = length-added b _ d.on ∙ f.sized.on;
          off = length-added b _ d.off ∙ f.sized.off;
          marks = f.sized.marks;
          levels = f.sized.levels;
        };
        above = within-trans b f.above (within_both b
            (λ r h. added-above b _ d.on (rw f.sized.on (room b fits)) r) (λ r h. added-above b _ d.off (rw f.sized.off (room b fits)) r));
        untouched = record {
          on = λ r h. of-added-outside b _ d.on r h ∙ f.untouched.on r h;
          off = λ r h. of-added-outside b _ d.off r h ∙ f.untouched.off r h;
        };
      }

      more-grows : (d : Tables) → Between d → (d ≡ close_more b d) ⊎ (amount b d < amount b (close_more b d))
      unfolding close_more amount
      more-grows d f = sides (added-grows b _ d.on (rw f.sized.on (room b fits))) (added-grows b _ d.off (rw f.sized.off (room b fits)))
        where
          sides : (d.on ≡ (close_more b d).on) ⊎ (size (count b) d.on < size (count b) (close_more b d).on)
              → (d.off ≡ (close_more b d).off) ⊎ (size (count b) d.off < size (count b) (close_more b d).off)
              → (d ≡ close_more b d) ⊎ (amount b d < amount b (close_more b d))
          sides (inl p) (inl q) = inl (λ i. record { on = p i; off = q i; marks = d.marks; level = d.level; levels = d.levels })
          sides (inl p) (inr q) = inr (omega (arith, ap (size (count b)) p))
          sides (inr p) (inl q) = inr (omega (arith, ap (size (count b)) q))
          sides (inr p) (inr q) = inr (omega arith)

      close-adding : Adding (Within b) (ClosedAbove b (pair c)) pair (close_more b) Between (count b + count b)
      unfolding amount
      close-adding = record {
        size = amount b;
        bounded = λ d f. omega (arith, size-le (count b) d.on, size-le (count b) d.off);
        kept = more-between;
        grows = more-grows;
        forced = λ d f t g w. more_within d f t g.closed w;
        rests = λ d f e. record { above = f.above; closed = rests-closed d f.sized e };
      }

      rounds-between : Sized c → Between (iterate (close_more b) (count b + count b) c)
      rounds-between s = iterate-fine close-adding (count b + count b) c (between_start s)

    -- ---- the computed closing

    module _ (c : Tables) (sized : Sized c) where
      pub close-is : Closing b (pair c) (pair (close b c))
      unfolding close marked stamped
      close-is = iterate-smallest (close-adding c) c (between_start c sized) (λ t g. g.above)

      pub close-sized : Sized (close b c)
      unfolding close marked stamped new_levels
      close-sized = let f = (rounds-between c sized).sized in record {
        on = f.on;
        off = f.off;
        marks = length-support b _ fits;
        levels = length-stamp 0 (count b) _ c.level c.levels ∙ sized.levels;
      }

      pub close-untouched : Untouched b c (close b c)
      unfolding close marked stamped
      close-untouched = let f = (rounds-between c sized).untouched in record { on = f.on; off = f.off }

  pub close-marks : (c : Tables) → (close b c).marks ≡ support b (of (close b c).off)
  unfolding close marked stamped
  close-marks c = refl

  -- ---- levels: a closing has that of the choices above it, and gives it to the rules that get their colour there

  pub close-level : (c : Tables) → (close b c).level ≡ c.level
  unfolding close stamped
  close-level c = refl

  pub close-levels : (c : Tables) → (close b c).levels ≡ new_levels b c (pair (close b c))
  unfolding close stamped
  close-levels c = refl

  pub level-stamped : count b ≤ 255 → (c : Tables) → Sized c → (r : RuleNo) → InBook b r
      → level_of (close b c) r ≡ ifb (newly (pair c) (pair (close b c)) r) c.level (level_of c r)
  unfolding level_of new_levels
  level-stamped fits c s r h =
      ap (λ (l : List ℕ). get_or l r.0 0) (close-levels c) ∙ stamp-at (count b) _ c.level c.levels r h (omega (arith, s.levels))

  module _ (fits : count b ≤ 255) where
    -- a colouring that is a closing of c, in whatever order it was made, is the computed one
    pub closing-computed : (c d : Tables) → Sized c → Sized d → Closing b (pair c) (pair d) → d.marks ≡ support b (of d.off)
        → Untouched b c d → d.level ≡ c.level → d.levels ≡ new_levels b c (pair d) → d ≡ close b c
    unfolding side
    closing-computed c d s t p m u v l =
        let k = close-is fits c s in let z = close-sized fits c s in let w = close-untouched fits c s in
        let on : d.on ≡ (close b c).on = of-same _ _ (t.on ∙ sym z.on) (λ r. ⊎_elim
        (λ h. closing-unique p k on_side r h) (λ h. u.on r h ∙ sym (w.on r h)) (in-book-or-not b r)) in
        let off : d.off ≡ (close b c).off = of-same _ _ (t.off ∙ sym z.off) (λ r. ⊎_elim
        (λ h. closing-unique p k off_side r h) (λ h. u.off r h ∙ sym (w.off r h)) (in-book-or-not b r)) in
        let marks : d.marks ≡ (close b c).marks = m ∙ ap (λ l. support b (of l)) off ∙ sym (close-marks c) in
        let levels : d.levels ≡ (close b c).levels = l ∙ (λ i. new_levels b c (lent (on i) (off i))) ∙ sym (close-levels c) in
        let level : d.level ≡ (close b c).level = v ∙ sym (close-level c) in
        λ i. record { on = on i; off = off i; marks = marks i; level = level i; levels = levels i }

    -- where no rule gets a colour, no level is new
    levels-rest : (c : Tables) → c.levels ≡ new_levels b c (pair c)
    unfolding new_levels
    levels-rest c = sym (stamp-rests 0 (count b) _ c.level c.levels (newly-same (pair c)))

    pub close-mono : (c d : Tables) → Sized c → Sized d → Within b (pair c) (pair d) → Within b (pair (close b c)) (pair (close b d))
    close-mono c d s t w = closing-mono w (close-is fits c s) (close-is fits d t)

    -- to a closed pair nothing is added
    pub closed-close : (c : Tables) → Sized c → Closed b (pair c) → marked b c ≡ close b c
    unfolding marked
    closed-close c s k = closing-computed c (marked b c) s
        (record { on = s.on; off = s.off; marks = length-support b _ fits; levels = s.levels }) (closed-closing k) refl
        (record { on = λ r h. refl; off = λ r h. refl }) refl (levels-rest c)

    pub close-idempotent : (c : Tables) → Sized c → close b c ≡ close b (close b c)
    close-idempotent c s = let z = close-sized fits c s in
        closing-computed (close b c) (close b c) z z (closed-closing (close-is fits c s).good.closed) (close-marks c)
        (record { on = λ r h. refl; off = λ r h. refl }) refl (levels-rest (close b c))
