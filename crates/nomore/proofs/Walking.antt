-- The no_mo_re walk by its ways (src/own.rt): what a call returns, in the words of what it called, is what the run says of the events from its
-- two sets. The events go by their own laws, the run by those of walk (walk/proofs/Steps).
use mathlib.Core.Path.{◌≡◌, refl, sym, ◌∙◌, ap, ap₂}
use mathlib.Core.Bool.{Bool}
use mathlib.Core.List.{List, [], ◌∷◌}
use Prim.Native.Nat.{ℕ, ◌≤◌, ◌<◌}
use native.Mathlib.Omega.{arith}
use Rattle.std.specs.Prelude.{Option}
use Rattle.meaning.specs.declared.RuleNo.{RuleNo}
use Rattle.meaning.specs.Books.{Book, count, InBook}
use Rattle.meaning.specs.Bits.{none as none_in, below, plus, less, members, listed}
use Rattle.meaning.specs.Colours.{Pair, Side, on_side, off_side}
use Rattle.meaning.specs.Written.{Tables, nothing, coloured, colour, pair, lent}
use Rattle.meaning.specs.Lowest.{Pick, none, one, lowest_from, lowest, in_both, clashed}
use Rattle.meaning.specs.Propagation.{Propagated, propagate}
use Rattle.meaning.proofs.Written.{Sized, sized_on, sized-off}
use Rattle.meaning.proofs.Listed.{listed-empty}
use Rattle.meaning.proofs.Lowest.{lowest-one}
use Rattle.meaning.proofs.Propagate.{propagate-is, propagate-rest}
use Rattle.book.specs.declared.reader.Shape.{Shape}
use Rattle.book.specs.Format.{book_in, ReadAs}
use Rattle.book.specs.ReadBook.{the_book}
use Rattle.book.specs.declared.read.ReadBook.{ReadBook}
use Rattle.book.proofs.Places.{shape-count}
use Rattle.closing.specs.Left.{left}
use Rattle.closing.specs.Picked.{picked}
use Rattle.closing.specs.Taken.{puts}
use Rattle.closing.specs.declared.choice.Choice.{Choice}
use Rattle.closing.specs.declared.choice.Choice.TheVariants.{Nothing, On, Off}
use Rattle.closing.proofs.Good.{good-book, good-few}
use Rattle.closing.proofs.Searches.{lowest-in}
use Rattle.closing.proofs.Propagating.{sized-coloured}
use Rattle.walk.specs.Events.{Event, clash, fork, quiet, reading}
use Rattle.walk.specs.Readings.{reading_of}
use Rattle.walk.specs.declared.wanted.Wanted.{Wanted}
use Rattle.walk.specs.Run.{State, counted, clashed_at, halting, reading_met, run}
use Rattle.walk.specs.declared.tally.Halt.TheVariants.{Going, Limit}
use Rattle.walk.specs.declared.tally.Tally.{Tally}
use Rattle.walk.proofs.Run.{run-ended}
use Rattle.walk.proofs.Steps.{way-stops, way-clash, way-reading, way-fork, way-quiet}
use Rattle.nomore.specs.Own.{supported, rest_off, tested, test_of, own_after, own_in, own_from, own_events}
use Rattle.nomore.proofs.Choosing.{rest-listed}
use Rattle.nomore.proofs.Events.{Propagates, Forks, Leaf, own-clash, own-leaf, own-fork, fork-falls}

-- ---- two sets of 256 bits

pub sized-puts : (k : Choice) (on off : List ℕ) → Sized (puts k (coloured (listed on) (listed off)))
sized-puts Nothing on off = sized-coloured on off
sized-puts (On r) on off = sized_on r (sized-coloured on off)
sized-puts (Off r) on off = sized-off r (sized-coloured on off)

-- ---- closing without support, written out

module _ (b : Book) (fits : count b ≤ 255) (k : Choice) (on off : List ℕ) where
  abbrev from : Tables
  from = puts k (coloured (listed on) (listed off))

  -- the marks and the levels stay
  pub grown : (d-on d-off : List ℕ) → listed d-on ≡ (propagate b (puts k (coloured (listed on) (listed off)))).on
      → listed d-off ≡ (propagate b (puts k (coloured (listed on) (listed off)))).off
      → coloured (listed d-on) (listed d-off) ≡ propagate b (puts k (coloured (listed on) (listed off)))
  grown d-on d-off e f =
      let (m, v, l) = propagate-rest b fits from (sized-puts k on off) in
      let (m', v', l') = as_before k in
      λ i. record { on = e i; off = f i; marks = sym (m ∙ m') i; level = sym (v ∙ v') i; levels = sym (l ∙ l') i }
    where
      as_before : (k : Choice) → let c = puts k (coloured (listed on) (listed off)) in
          (c.marks ≡ nothing.marks) × (c.level ≡ 0) × (c.levels ≡ nothing.levels)
      as_before Nothing = (refl, refl, refl)
      as_before (On r) = (refl, refl, refl)
      as_before (Off r) = (refl, refl, refl)

-- ---- what closing without support and the search for a rule say

module _ (s : List ℕ) (h : Shape) (e : ReadAs s h) where
  pub lowest-told : (on off : List Bool) {v w : Option RuleNo} → picked v ≡ lowest_from 0 h.rules (supported (book_in s) (lent on off)) → v ≡ w
      → lowest (book_in s) (supported (book_in s) (lent on off)) ≡ picked w
  lowest-told on off f g = sym (lowest-in (book_in s) (shape-count s h e) _ f) ∙ ap picked g

  pub grown-clash : (on off : List Bool) (v : Option RuleNo) → picked v ≡ lowest_from 0 h.rules (in_both (lent on off))
      → picked v ≡ clashed (book_in s) (pair (coloured on off))
  unfolding clashed
  grown-clash on off v f = lowest-in (book_in s) (shape-count s h e) _ f

  -- the two sets with the rest put off
  pub rest-coloured : count (book_in s) ≤ 255 → (on off w : List ℕ) → members w ≡ plus (members off) (less (below h.rules) (members on))
      → coloured (listed on) (listed w) ≡ rest_off (book_in s) (coloured (listed on) (listed off))
  unfolding rest_off
  rest-coloured n on off w f = ap (coloured (listed on)) (rest-listed (book_in s) (shape-count s h e) (omega (arith, shape-count s h e)) w on off f)

pub clash-told : (b : Book) (c : Pair) {v w : Option RuleNo} → picked v ≡ clashed b c → v ≡ w → clashed b c ≡ picked w
clash-told b c f g = sym f ∙ ap picked g

-- the ways after closing without support, as the code is told of them
pub propagates-told : (b : ReadBook) (k : Choice) (on off : List ℕ) {d : Tables} → d ≡ propagate (the_book b) (puts k (coloured (listed on) (listed off)))
    → Propagates (the_book b) (puts k (coloured (listed on) (listed off))) d
propagates-told b k on off e = record { few = good-few (good-book b); sized = sized-puts k on off; propagated = e }

pub leaf-told : {b : Book} {c d : Tables} → Propagates b c d → clashed b (pair d) ≡ none → lowest b (supported b (pair d)) ≡ none → Leaf b c d
leaf-told p t q = record { propagates = p; calm = t; no-choice = q }

pub forks-told : {b : Book} {c d : Tables} {r : RuleNo} → Propagates b c d → clashed b (pair d) ≡ none → lowest b (supported b (pair d)) ≡ one r
    → Forks b c d r
forks-told p t q = record { propagates = p; calm = t; choice = q }

-- each side of a fork is less far from its end
pub side-falls : {b : Book} {c d : Tables} {r : RuleNo} {n : ℕ} → Forks b c d r → left b c ≡ n → (x : Side) → left b (colour x r d) < n
side-falls f e x = rw (← e) (fork-falls f x)

-- and what is new on it comes from the rule
pub side-grows : {b : Book} {c d : Tables} {r : RuleNo} → Forks b c d r → InBook b r × Propagated b (pair d)
side-grows {b} {c} {r = r} f = let k = f.propagates in
    ((lowest-one b _ r f.choice).0, rw k.propagated (propagate-is b k.few c k.sized).good.propagated)

-- ---- the ways of a call

after-some : (b : Book) (d : Tables) (t p : Pick) (f : Tables → List Event) → (e : Event) × (es : List Event) × (own_after b d t p f ≡ e ∷ es)
unfolding own_after
after-some b d (one r) p f = (clash r, [], refl)
after-some b d none none f = (quiet, _, refl)
after-some b d none (one r) f = (fork r, _, refl)

own-some : (b : Book) (c : Tables) → (e : Event) × (es : List Event) × (own_from b c ≡ e ∷ es)
unfolding own_from own_in
own-some b c = after-some _ _ _ _ _

test-some : (e : Tables) (p : Pick) → (f : Event) × (es : List Event) × (tested e p ≡ f ∷ es)
unfolding tested
test-some e none = (reading e, [], refl)
test-some e (one r) = (clash r, [], refl)

module _ (b : Book) (w : Wanted) (s : State) where
  -- from two empty sets
  pub own-start : (on off : List ℕ) {u : State} → members on ≡ none_in → members off ≡ none_in
      → u ≡ run b w s (own_from b (coloured (listed on) (listed off))) → u ≡ run b w s (own_events b)
  unfolding own_events
  own-start on off e f g =
      g ∙ ap₂ (λ (x y : List Bool). run b w s (own_from b (coloured x y))) (listed-empty on e) (listed-empty off f)

  pub walk-ended : (c : Tables) → (s.tally.halt ≡ Going → ⊥) → s ≡ run b w s (own_from b c)
  walk-ended c n = sym (run-ended b w s (own_from b c) n)

  module _ (going : s.tally.halt ≡ Going) where
    pub walk-stops : (c : Tables) {t : Tally} → w.limit ≤ s.tally.tries → t ≡ (halting Limit s).tally
        → record { tally = t; out = s.out } ≡ run b w s (own_from b c)
    walk-stops c h e = let (f, es, q) = own-some b c in rw e (way-stops b w s going _ q h)

    pub test-stops : (e : Tables) {t : Tally} → w.limit ≤ s.tally.tries → t ≡ (halting Limit s).tally
        → record { tally = t; out = s.out } ≡ run b w s (test_of b e)
    test-stops e h k = let (f, es, q) = test-some e (clashed b (pair (propagate b e))) in rw k (way-stops b w s going _ q h)

    module _ (h : s.tally.tries < w.limit) where
      pub walk-clash : {c d : Tables} {t : Tally} {r : RuleNo} → Propagates b c d → clashed b (pair d) ≡ one r → t ≡ clashed_at s r
          → record { tally = t; out = s.out } ≡ run b w s (own_from b c)
      walk-clash k z e = way-clash b w s going h _ (own-clash k z) e

      -- v is the tally after the try, u the state after the test of y
      pub walk-leaf : {c d y : Tables} {t : Tally} {u : State} → Leaf b c d → t ≡ counted s s.tally.sets Going → y ≡ rest_off b d
          → u ≡ run b w (record { tally = t; out = s.out }) (test_of b y) → u ≡ run b w s (own_from b c)
      walk-leaf {c} {y = y} f et ey eu =
          let q : own_from b c ≡ quiet ∷ test_of b y = rw ey (own-leaf f) in way-quiet b w s going h _ (test_of b y) q et eu

      -- u is the state after the one side of the fork, v after both
      pub walk-fork : {c d : Tables} {r : RuleNo} {t : Tally} {u v : State} → Forks b c d r → t ≡ counted s s.tally.sets Going
          → u ≡ run b w (record { tally = t; out = s.out }) (own_from b (colour on_side r d))
          → v ≡ run b w u (own_from b (colour off_side r d)) → v ≡ run b w s (own_from b c)
      walk-fork f et eu ev = way-fork b w s going h _ _ _ (own-fork f) et eu ev

      -- the test of e, which closing without support takes to d
      module _ (e : Tables) {d : Tables} (k : d ≡ propagate b e) where
        test-is : {p : Pick} → clashed b (pair d) ≡ p → test_of b e ≡ tested e p
        test-is z = ap (tested e) (rw k at z)

        pub test-clash : {t : Tally} {r : RuleNo} → clashed b (pair d) ≡ one r → t ≡ clashed_at s r
            → record { tally = t; out = s.out } ≡ run b w s (test_of b e)
        unfolding tested
        test-clash z m = way-clash b w s going h _ (test-is z) m

        pub test-reading : {u : State} → clashed b (pair d) ≡ none → u ≡ reading_met b w s (reading_of b e) → u ≡ run b w s (test_of b e)
        unfolding tested
        test-reading z m = way-reading b w s going h _ (test-is z) m
