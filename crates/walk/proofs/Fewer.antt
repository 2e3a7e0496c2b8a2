-- What the walk from a larger colouring costs (request 3, H4): no more tries than the walk from a smaller one, in all, and up to any answer
-- set that stands above both. By induction over the smaller one's walk: where it forks on r, the larger one ends, or forks on r too, or
-- has a colour for r and is within one side. So the search for the first reading alike x makes no more closings than the fixed walk has
-- tries up to x.
use mathlib.Core.Path.{◌≡◌, ap}
use mathlib.Core.Logic.{◌⊎◌, ⊎_elim, ⊎_map}
use mathlib.Core.Bool.{true, false, not}
use mathlib.Core.List.{List}
use Prim.Native.Nat.{◌+◌, ◌≤◌, ◌<◌}
use native.Mathlib.Omega.{arith}
use lib.ListN.{length, length-append}
use borrow.Author.Tests.{not-true}
use Rattle.meaning.specs.declared.AtomNo.{AtomNo}
use Rattle.meaning.specs.declared.RuleNo.{RuleNo}
use Rattle.meaning.specs.Written.{Tables}
use Rattle.meaning.specs.Sets.{◌∈◌, ◌∉◌}
use Rattle.meaning.specs.Books.{Atoms, Book, InBook, count}
use Rattle.meaning.specs.AnswerSet.{AnswerSet, generating}
use Rattle.meaning.specs.Colours.{Pair, Side, on_side, off_side, side, Within, uncoloured}
use Rattle.meaning.specs.Written.{nothing, pair}
use Rattle.meaning.specs.Computed.{close}
use Rattle.meaning.specs.Lowest.{none, one, lowest, clashed}
use Rattle.meaning.proofs.Tests.{true-and-false, decided, or_left, or_right, lt-or-le}
use Rattle.meaning.proofs.Rules.{within_on, within-off, within_both, within-trans, clashing-mono, uncoloured-no}
use Rattle.meaning.proofs.Written.{sized-nothing, of_none, sized-chosen}
use Rattle.meaning.proofs.Closing.{close-is}
use Rattle.meaning.proofs.Lowest.{lowest-one, lowest-none, clashed-clashing, clashed-none}
use Rattle.meaning.specs.Written.{chosen}
use Rattle.closing.proofs.Left.{chosen-above, chosen-within, chosen-in}
use Rattle.walk.specs.Events.{Event, events, rest}
use Rattle.walk.specs.FirstAlike.{avoiding}
use Rattle.walk.proofs.Events.{Closes, Forks, fork-in-book, fork-low, Walk, at_clash, at-reading, at_fork, walks}
use Rattle.walk.proofs.Events.{rest_clash, rest-reading, rest-fork-on, rest-fork-off}
use Rattle.walk.proofs.Forks.{Stands, closing, sized, stands_after, stands-clash, stands-side}
use Rattle.walk.proofs.Alike.{alike_refl}
use Rattle.walk.proofs.Avoiding.{sized-avoiding, alike-stands}

-- ---- a rule without a colour

coloured-not : (c : Pair) (r : RuleNo) → (r ∈ c.on) ⊎ (r ∈ c.off) → r ∉ uncoloured c
unfolding uncoloured
coloured-not c r m = ap not (⊎_elim (or_left _) (or_right (c.on r)) m)

module _ (b : Book) {c d : Pair} (w : Within b c d) where
  still-coloured : (r : RuleNo) → InBook b r → r ∉ uncoloured c → r ∉ uncoloured d
  still-coloured r h n = coloured-not d r (⊎_map (within_on b w r h) (within-off b w r h) (uncoloured-no b c r n))

-- the second closes to as much as the first starts with, or more
pub record More (b : Book) (c d : Tables) : Type 0 where
  pub within : Within b (pair c) (pair (close b d))

-- ---- two walks, where the closing of the second holds what the first starts with

module _ {b : Book} where
  -- the closing of the second holds that of the first
  module _ {c u d v : Tables} (k : Closes b c u) (l : Closes b d v) (w : Within b (pair c) (pair v)) where
    larger : Within b (pair u) (pair v)
    larger = (closing k).least (pair v) (record { above = w; closed = (closing l).good.closed })

    fork-after-clash : {r : RuleNo} → clashed b (pair u) ≡ one r → clashed b (pair v) ≡ none → ⊥
    fork-after-clash t e = true-and-false (clashing-mono b larger (clashed-clashing b (pair u) _ t)) ((clashed-none b (pair v)).0 e)

    fork-after-all : {r : RuleNo} → lowest b (uncoloured (pair u)) ≡ none → lowest b (uncoloured (pair v)) ≡ one r → ⊥
    fork-after-all {r} e g =
        let (h, m, o) = lowest-one b _ r g in true-and-false m (still-coloured b larger r h (lowest-none b _ e r h))

  module _ {c u d v : Tables} {r q : RuleNo} (f : Forks b c u r) (g : Forks b d v q) (w : Within b (pair c) (pair v)) where
    above : Within b (pair u) (pair v)
    above = larger f.closes g.closes w

    -- a rule that has no colour in both is the lowest of both
    same-rule : r ∈ uncoloured (pair v) → r ≡ q
    same-rule m =
        let (h, n, o) = lowest-one b _ r f.choice in let (i, p, s) = lowest-one b _ q g.choice in
        let e : r.0 ≡ q.0 = ⊎_elim (λ z. true-and-false m (s r z)) (λ z. ⊎_elim
        (λ y. true-and-false p (still-coloured b above q i (o q y))) (λ y. omega arith) (lt-or-le q.0 r.0)) (lt-or-le r.0 q.0) in
        λ i. record { 0 = e i }

    -- the rule has a colour in the second: it is within that side of the first
    one_side : (x : Side) → r ∈ side x (pair v) → More b (chosen x r u) d
    one_side x m = record { within = rw g.closes.closed at (chosen-within b u (sized f.closes) x r (fork-low f) (pair v) above m) }

    -- both fork on it
    both-side : (x : Side) → r ≡ q → More b (chosen x r u) (chosen x q v)
    both-side x e = record {
      within = chosen-within b u (sized f.closes) x r (fork-low f) _
          (within-trans b above (within-trans b (chosen-above b v (sized g.closes) x q (fork-low g)) onward))
          (rw e (onward.each x q (fork-in-book g) (chosen-in b v (sized g.closes) x q (fork-low g))));
    }
      where
        onward : Within b (pair (chosen x q v)) (pair (close b (chosen x q v)))
        onward = (close-is b g.closes.few _ (sized-chosen x q (sized g.closes))).good.above

  closed-more : {c d v : Tables} → Closes b d v → More b c d → Within b (pair c) (pair v)
  closed-more l w = rw l.closed w.within

  -- ---- all tries

  pub fewer : {c : Tables} {es : List Event} → Walk b c es → {d : Tables} {fs : List Event} → Walk b d fs → More b c d
      → length fs ≤ length es
  unfolding side
  fewer (at_clash k t) (at_clash l z) w = omega arith
  fewer (at_clash k t) (at-reading l z p) w = omega arith
  fewer (at_clash k t) (at_fork g x y) w = absurd (fork-after-clash k g.closes (closed-more g.closes w) t g.calm)
  fewer (at-reading k t p) (at_clash l z) w = omega arith
  fewer (at-reading k t p) (at-reading l z q) w = omega arith
  fewer (at-reading k t p) (at_fork g x y) w = absurd (fork-after-all k g.closes (closed-more g.closes w) p g.choice)
  fewer (at_fork f m n) (at_clash l z) w = omega arith
  fewer (at_fork f m n) (at-reading l z q) w = omega arith
  fewer (at_fork {d = u} {r = r} f m n) (at_fork {d = v} {r = q} g x y) w =
      let h = closed-more g.closes w in
      let on = events b (chosen on_side r u) in let off = events b (chosen off_side r u) in
      ⊎_elim
      (λ o. let e = same-rule f g h o in omega (
        arith,
        fewer m x (both-side f g h on_side e),
        fewer n y (both-side f g h off_side e),
        length-append on off,
        length-append (events b (chosen on_side q v)) (events b (chosen off_side q v)),
      ))
      (λ o. ⊎_elim
      (λ i. omega (arith, fewer m (at_fork g x y) (one_side f g h on_side i), length-append on off))
      (λ i. omega (arith, fewer n (at_fork g x y) (one_side f g h off_side i), length-append on off))
      (uncoloured-no b (pair v) r o))
      (decided (uncoloured (pair v) r))

  -- ---- the tries up to an answer set: all events less those that come after it

  rest-short : {c : Tables} {es : List Event} → Walk b c es → (y : Atoms) → length (rest b c y) < length es
  rest-short (at_clash k t) y = omega (arith, ap length (rest_clash k y t))
  rest-short (at-reading k t p) y = omega (arith, ap length (rest-reading k t p y))
  rest-short (at_fork {d = u} {r = r} f m n) y =
      let sum = length-append (events b (chosen on_side r u)) (events b (chosen off_side r u)) in
      ⊎_elim
      (λ g. omega (
        arith,
        sum,
        ap length (rest-fork-on f y g),
        length-append (rest b (chosen on_side r u) y) (events b (chosen off_side r u)),
        rest-short m y,
      ))
      (λ g. omega (arith, sum, ap length (rest-fork-off f y g), rest-short n y))
      (decided (generating b y r))

  pub fewer-up-to : {c : Tables} {es : List Event} → Walk b c es → {d : Tables} {fs : List Event} → Walk b d fs → More b c d
      → (y : Atoms) → Stands b d y → length fs + length (rest b c y) ≤ length es + length (rest b d y)
  unfolding side
  fewer-up-to (at_clash k t) x w y s = omega (arith, ap length (rest_clash k y t), fewer (at_clash k t) x w)
  fewer-up-to (at-reading k t p) x w y s = omega (arith, ap length (rest-reading k t p y), fewer (at-reading k t p) x w)
  fewer-up-to (at_fork f m n) (at_clash l z) w y s = absurd (stands-clash l z y s)
  fewer-up-to (at_fork f m n) (at-reading l z q) w y s = omega (arith, rest-short (at_fork f m n) y)
  fewer-up-to (at_fork {d = u} {r = r} f m n) (at_fork {d = v} {r = q} g i j) w y s =
      let h = closed-more g.closes w in
      let sum = length-append (events b (chosen on_side r u)) (events b (chosen off_side r u)) in
      let sums = length-append (events b (chosen on_side q v)) (events b (chosen off_side q v)) in
      let on = length-append (rest b (chosen on_side r u) y) (events b (chosen off_side r u)) in
      let ons = length-append (rest b (chosen on_side q v) y) (events b (chosen off_side q v)) in
      let holds = (stands_after g.closes y s).holds in
      ⊎_elim
      -- both fork on r
      (λ o. let e = same-rule f g h o in ⊎_elim
      (λ a. let t : generating b y q ≡ true = rw e at a in omega (
        arith,
        sum,
        sums,
        on,
        ons,
        ap length (rest-fork-on f y a),
        ap length (rest-fork-on g y t),
        fewer-up-to m i (both-side f g h on_side e) y (stands-side g on_side y s t),
      ))
      (λ a. let t : generating b y q ≡ false = rw e at a in omega (
        arith,
        sum,
        sums,
        ap length (rest-fork-off f y a),
        ap length (rest-fork-off g y t),
        fewer m i (both-side f g h on_side e),
        fewer-up-to n j (both-side f g h off_side e) y (stands-side g off_side y s (ap not t)),
      ))
      (decided (generating b y r)))
      -- the second has a colour for r
      (λ o. ⊎_elim
      (λ a. omega (
        arith,
        sum,
        on,
        ap length (rest-fork-on f y (within_on b holds r (fork-in-book f) a)),
        fewer-up-to m (at_fork g i j) (one_side f g h on_side a) y s,
      ))
      (λ a. omega (
        arith,
        sum,
        ap length (rest-fork-off f y (not-true _ (within-off b holds r (fork-in-book f) a))),
        fewer-up-to n (at_fork g i j) (one_side f g h off_side a) y s,
      ))
      (uncoloured-no b (pair v) r o))
      (decided (uncoloured (pair v) r))

-- ---- the search for the first reading alike x

module _ (b : Book) (fits : count b ≤ 255) (s : List AtomNo) (x : Atoms) where
  start-more : More b nothing (avoiding b s x)
  start-more = record {
    within = within_both b (λ r h m. true-and-false m (of_none 256 r)) (λ r h m. true-and-false m (of_none 256 r));
  }

  pub avoiding-fewer : length (events b (avoiding b s x)) ≤ length (events b nothing)
  avoiding-fewer = fewer (walks b fits nothing sized-nothing) (walks b fits _ (sized-avoiding b s x)) start-more

  -- up to x the search's walk has no more tries than the fixed walk
  pub avoiding-fewer-up-to : AnswerSet b x
      → length (events b (avoiding b s x)) + length (rest b nothing x) ≤ length (events b nothing) + length (rest b (avoiding b s x) x)
  avoiding-fewer-up-to p =
      fewer-up-to (walks b fits nothing sized-nothing) (walks b fits _ (sized-avoiding b s x)) start-more x
      (alike-stands b s x fits x p (alike_refl s x))
