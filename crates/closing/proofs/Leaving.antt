-- A closing may be left at the first contradiction (request 14): what was added on the way is in the closing, so a rule that is in both
-- sets on the way is in both at the end. What is told then, and what is told where the closing went on to its end.
use mathlib.Core.Path.{◌≡◌, refl, sym, ◌∙◌, ap₂, subst}
use mathlib.Core.Bool.{Bool, true, false, ◌&&◌}
use mathlib.Core.List.{List}
use Prim.Native.Nat.{ℕ, ◌≤◌}
use Rattle.std.specs.Prelude.{Option, Some, None, is_some}
use Rattle.meaning.specs.declared.RuleNo.{RuleNo}
use Rattle.meaning.specs.Books.{Book, count}
use Rattle.meaning.specs.Colours.{Pair, on_side, off_side, side, Closing, clashing}
use Rattle.meaning.specs.Bits.{listed}
use Rattle.meaning.specs.Written.{Tables, coloured, lent, pair}
use Rattle.meaning.specs.Computed.{close}
use Rattle.meaning.specs.Lowest.{Pick, none, one, lowest_from, in_both, clashed}
use Rattle.meaning.proofs.Tests.{true-and-false, refuted, apart}
use Rattle.meaning.proofs.Rules.{within-trans, clashing-mono}
use Rattle.meaning.proofs.Lowest.{clashed-none, clashed-clashing}
use Rattle.meaning.proofs.Written.{Sized}
use Rattle.meaning.proofs.Closing.{closing-unique, closed-closing, close-is}
use Rattle.meaning.proofs.Alike.{lowest-same}
use Rattle.closing.specs.Ended.{ClosedTo, left_at, EndsAt, Ends, at-end, at_clash}
use Rattle.closing.specs.Picked.{picked}
use Rattle.closing.proofs.Searches.{lowest-in}
use Rattle.closing.proofs.Propagating.{sized-coloured}
use Rattle.closing.proofs.Closed.{UnderWay, closed-behind}

-- ---- the test

pub not_left : {early : Bool} (p : Pick) → early ≡ false → early ≡ left_at early p
unfolding left_at
not_left none e = e
not_left (one r) e = refl

pub left_told : {early told : Bool} {p : Pick} → early ≡ true → (v : Option RuleNo) → picked v ≡ p → told ≡ is_some v → told ≡ left_at early p
unfolding left_at
left_told e None f g = rw (g, ← f) refl
left_told e (Some r) f g = rw (g, ← f) (sym e)

left_by : {early : Bool} (p : Pick) → left_at early p ≡ true → (early ≡ true) × (r : RuleNo) × (p ≡ one r)
unfolding left_at
left_by none e = true-and-false e refl
left_by (one r) e = (e, r, refl)

-- ---- the two sets

module _ (b : Book) {start c : Pair} (s : UnderWay b start c) where
  -- what closes the start closes what was reached
  closing-from : {e : Pair} → Closing b start e → Closing b c e
  closing-from {e} g = record {
    good = record { above = s.reached.below e g.good; closed = g.good.closed };
    least = λ d h. g.least d (record { above = within-trans b s.reached.above h.above; closed = h.closed });
  }

  pub ends-behind : {early left : Bool} {d : Pair} → EndsAt b early c d left → EndsAt b early start d left
  ends-behind k = record { closed = λ z. closed-behind b s (k.closed z); may = k.may; clash = λ z e g. k.clash z e (closing-from g) }

  early-clash : clashing b c ≡ true → (e : Pair) → Closing b start e → clashing b e ≡ true
  early-clash m e g = clashing-mono b (s.reached.below e g.good) m

-- left where the search among the first rules has found one
pub ends-left : (b : Book) {n : ℕ} → count b ≡ n → {start : Pair} (on off : List Bool) → UnderWay b start (lent on off) → {early left : Bool}
    → left ≡ left_at early (lowest_from 0 n (in_both (lent on off))) → left ≡ true → EndsAt b early start (lent on off) true
unfolding clashed
ends-left b n on off s e f =
    let (early, r, p) = left_by _ (sym e ∙ f) in
    let m = clashed-clashing b (lent on off) r (sym (lowest-in b n (in_both (lent on off)) refl) ∙ p) in
    record { closed = λ z. true-and-false refl z; may = λ z. early; clash = λ z. early-clash b s m }

pub ends-closed : {b : Book} {early : Bool} {c d : Pair} → ClosedTo b c d → EndsAt b early c d false
ends-closed k = record { closed = λ z. k; may = λ z. true-and-false z refl; clash = λ z. true-and-false z refl }

-- where it may not be left
pub never-left : {b : Book} {c d : Pair} {left : Bool} → EndsAt b false c d left → ClosedTo b c d
never-left k = k.closed (refuted (λ z. true-and-false (k.may z) refl))

-- ---- what is told

pub tells-clash : {b : Book} {early : Bool} {c d : Tables} → d ≡ c → (r : RuleNo) → count b ≤ 255 → Sized c → {e : Pair} {left : Bool}
    → EndsAt b early (pair c) e left → left ≡ true → Ends b early c d (one r)
tells-clash {b} {c = c} y r few long k z = at_clash (k.may z) y r refl (k.clash z _ (close-is b few c long))

module _ {b : Book} {c d : Tables} {p : Pick} where
  -- by a closing that may not be left
  pub ends-told : Ends b false c d p → (d ≡ close b c) × (p ≡ clashed b (pair (close b c)))
  ends-told (at-end e f) = (e, f)
  ends-told (at_clash z y r f g) = true-and-false z refl

  -- where no contradiction is told, there is none, and the closing went on to its end
  pub ends-calm : {early : Bool} → Ends b early c d p → p ≡ none → (d ≡ close b c) × (p ≡ clashed b (pair (close b c)))
  ends-calm (at-end e f) n = (e, f)
  ends-calm (at_clash z y r f g) n = apart (cc)

  -- where one is told, there is one
  pub ends-clash : {early : Bool} {r : RuleNo} → Ends b early c d p → p ≡ one r → (q : RuleNo) × (clashed b (pair (close b c)) ≡ one q)
  ends-clash {r = r} (at-end e f) m = (r, sym f ∙ m)
  ends-clash (at_clash z y q f g) m = found (clashed b (pair (close b c))) refl
    where
      found : (p : Pick) → clashed b (pair (close b c)) ≡ p → (q : RuleNo) × (clashed b (pair (close b c)) ≡ one q)
      found none e = true-and-false g ((clashed-none b (pair (close b c))).0 e)
      found (one q) e = (q, e)

-- ---- the rule of a contradiction, told later

closings-clashed : (b : Book) {c d e : Pair} → Closing b c d → Closing b c e → clashed b d ≡ clashed b e
unfolding clashed side
closings-clashed b {d = d} {e = e} p q = lowest-same b (in_both d) (in_both e) (λ r h.
    ap₂ ◌&&◌ (closing-unique b p q on_side r h) (closing-unique b p q off_side r h))

-- it depends on the two sets alone, and the sets that were told lead to the same closing
pub ends-origin : (b : Book) → count b ≤ 255 → {early : Bool} {c d : Tables} {p : Pick} → Sized c → Ends b early c d p → (on off : List ℕ)
    → pair d ≡ lent (listed on) (listed off) → clashed b (pair (close b (coloured (listed on) (listed off)))) ≡ clashed b (pair (close b c))
ends-origin b few {c = c} {d = d} long k on off e = closings-clashed b origin (from k)
  where
    origin : Closing b (pair d) (pair (close b (coloured (listed on) (listed off))))
    origin = subst (λ (x : Pair). Closing b x (pair (close b (coloured (listed on) (listed off))))) (sym e)
        (close-is b few (coloured (listed on) (listed off)) (sized-coloured on off))

    from : {early : Bool} {p : Pick} → Ends b early c d p → Closing b (pair d) (pair (close b c))
    from (at-end g f) = subst (λ (x : Tables). Closing b (pair x) (pair (close b c))) (sym g) (closed-closing b (close-is b few c long).good.closed)
    from (at_clash z y r f g) = subst (λ (x : Tables). Closing b (pair x) (pair (close b c))) (sym y) (close-is b few c long)
