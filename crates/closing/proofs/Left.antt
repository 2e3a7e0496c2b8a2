-- How many rules are left without a colour (specs/Left; document 01: "the number of uncoloured rules falls at each level"): a rule that is
-- chosen has a colour from then on and all others keep theirs, so a choice leaves fewer; and closing takes no colour away. So the choices
-- above a walk's colouring, with the rules left, are never more than the book has rules (Shallow).
use mathlib.Core.Path.{◌≡◌, refl, ap}
use mathlib.Core.Logic.{⊎_elim}
use mathlib.Core.Bool.{not}
use mathlib.Core.List.{[], ◌∷◌}
use Prim.Native.Nat.{◌+◌, ◌≤◌, ◌<◌}
use native.Mathlib.Omega.{arith}
use Rattle.meaning.specs.declared.RuleNo.{RuleNo}
use Rattle.meaning.specs.Written.{Tables}
use Rattle.meaning.specs.Sets.{◌∈◌, ◌∉◌}
use Rattle.meaning.specs.Books.{Book, count, InBook}
use Rattle.meaning.specs.Colours.{Pair, Side, on_side, off_side, side, put, Under, Within, uncoloured}
use Rattle.meaning.specs.Written.{nothing, chosen, pair}
use Rattle.meaning.specs.Computed.{close}
use Rattle.meaning.proofs.Tests.{or_left, or_right, either, true-and-false, proved}
use Rattle.meaning.proofs.Rules.{among_one, one-among, one-under, put-above, put-within, uncoloured-no}
use Rattle.meaning.proofs.RulesIn.{rules-length, rules-more, rules-fewer}
use Rattle.meaning.proofs.Written.{Sized, pair-on, pair-off}
use Rattle.meaning.proofs.Closing.{close-is, close-level}
use Rattle.closing.specs.Left.{left, Shallow}

-- the rule that is put in is there, and so has a colour
put_in : (x : Side) (r : RuleNo) (c : Pair) → r ∈ side x (put x (r ∷ []) c)
unfolding side put
put_in on_side r c = or_right (c.on r) (one-among r)
put_in off_side r c = or_right (c.off r) (one-among r)

pub coloured : (x : Side) (c : Pair) (r : RuleNo) → r ∈ side x c → r ∉ uncoloured c
unfolding side uncoloured
coloured on_side c r m = ap not (or_left _ m)
coloured off_side c r m = ap not (or_right (c.on r) m)

put-new : (b : Book) (x : Side) (r : RuleNo) (c : Pair) (q : RuleNo) → q ∈ uncoloured c → q ∉ uncoloured (put x (r ∷ []) c) → q ≡ r
unfolding side put
put-new b on_side r c q m n = ⊎_elim
    (λ p. ⊎_elim (λ e. true-and-false m (coloured on_side c q e)) among_one (either (c.on q) _ p)) (λ p. true-and-false m (coloured off_side c q p))
    (uncoloured-no b (put on_side (r ∷ []) c) q n)
put-new b off_side r c q m n = ⊎_elim
    (λ p. true-and-false m (coloured on_side c q p)) (λ p. ⊎_elim (λ e. true-and-false m (coloured off_side c q e)) among_one (either (c.off q) _ p))
    (uncoloured-no b (put off_side (r ∷ []) c) q n)

module _ (b : Book) where
  -- ---- a rule chosen

  module _ (d : Tables) (s : Sized d) (x : Side) (r : RuleNo) (h : r.0 < 255) where
    pair-chosen : (x : Side) → pair (chosen x r d) ≡ put x (r ∷ []) (pair d)
    pair-chosen on_side = pair-on d r (omega (arith, s.on))
    pair-chosen off_side = pair-off d r (omega (arith, s.off))

    pub chosen-above : Within b (pair d) (pair (chosen x r d))
    chosen-above = rw (pair-chosen x) (put-above b x (r ∷ []) (pair d))

    pub chosen-within : (e : Pair) → Within b (pair d) e → r ∈ side x e → Within b (pair (chosen x r d)) e
    chosen-within e w m = rw (pair-chosen x) (put-within b x (r ∷ []) w (one-under b (side x e) r m))

    pub chosen-in : r ∈ side x (pair (chosen x r d))
    chosen-in = rw (pair-chosen x) (put_in x r (pair d))

    -- only the chosen rule has a colour that it had not
    pub chosen-other : (q : RuleNo) → q ∈ uncoloured (pair d) → q ∉ uncoloured (pair (chosen x r d)) → q ≡ r
    chosen-other q m n = put-new b x r (pair d) q m (rw (pair-chosen x) at n)

  -- ---- the number of rules left

  pub uncoloured-mono : {c d : Pair} → Within b c d → Under b (uncoloured d) (uncoloured c)
  unfolding side
  uncoloured-mono {c} {d} w r h m = proved (λ n. ⊎_elim
      (λ p. true-and-false m (coloured on_side d r (w.each on_side r h p))) (λ p. true-and-false m (coloured off_side d r (w.each off_side r h p)))
      (uncoloured-no b c r n))

  pub left-count : (c : Tables) → left b c ≤ count b
  unfolding left
  left-count c = rules-length b (uncoloured (pair c))

  module _ (fits : count b ≤ 255) (c : Tables) (s : Sized c) where
    pub left-chosen : (x : Side) (r : RuleNo) → InBook b r → r ∈ uncoloured (pair c) → left b (chosen x r c) < left b c
    unfolding left
    left-chosen x r h m =
        let k : r.0 < 255 = omega arith in
        rules-fewer b _ _ (uncoloured-mono (chosen-above c s x r k)) r h m (coloured x _ r (chosen-in c s x r k))

    pub left-close : left b (close b c) ≤ left b c
    unfolding left
    left-close = rules-more b _ _ (uncoloured-mono (close-is b fits c s).good.above)

  -- ---- levels

  pub chosen-level : (x : Side) (r : RuleNo) (c : Tables) → (chosen x r c).level ≡ c.level + 1
  chosen-level on_side r c = refl
  chosen-level off_side r c = refl

  pub shallow-nothing : count b ≤ 255 → Shallow b nothing
  shallow-nothing fits = omega (arith, left-count nothing)

  -- a choice after a closing goes one level deeper and leaves fewer rules
  pub shallow-chosen : count b ≤ 255 → (c : Tables) → Sized c → (x : Side) (r : RuleNo) → left b (chosen x r (close b c)) < left b (close b c)
      → Shallow b c → ((close b c).level < 255) × Shallow b (chosen x r (close b c))
  shallow-chosen fits c s x r k h = let e = close-level b c in let f = left-close fits c s in
      (omega (arith, e, f, k, h), omega (arith, chosen-level x r (close b c), e, f, k, h))
