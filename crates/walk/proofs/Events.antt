-- The events of a walk, level by level (blueprint, section 3): a choice leaves fewer rules without a colour and a closing no more, so the
-- number of levels that specs/Events allows never ends a walk, and the events are those after the first closing. The same for what comes
-- after a reading. A walk's events are built up as Walk says: proofs about them go by induction over it.
use mathlib.Core.Path.{◌≡◌, refl}
use mathlib.Core.Bool.{true, false}
use mathlib.Core.List.{List, [], ◌∷◌, ◌++◌}
use Prim.Native.Nat.{ℕ, zero, suc, ◌≤◌, ◌<◌}
use native.Mathlib.Omega.{arith}
use Rattle.meaning.specs.declared.RuleNo.{RuleNo}
use Rattle.meaning.specs.Written.{Tables}
use Rattle.meaning.specs.Books.{Atoms, Book, InBook, count}
use Rattle.meaning.specs.AnswerSet.{generating}
use Rattle.meaning.specs.Colours.{Side, on_side, off_side, uncoloured}
use Rattle.meaning.specs.Written.{chosen, pair}
use Rattle.meaning.specs.Computed.{close}
use Rattle.meaning.specs.Lowest.{Pick, none, one, lowest, clashed}
use Rattle.meaning.proofs.Written.{Sized, sized-chosen}
use Rattle.meaning.proofs.Closing.{close-sized}
use Rattle.meaning.proofs.Lowest.{lowest-one}
use Rattle.closing.specs.Left.{left, Shallow}
use Rattle.walk.specs.Events.{Event, clash, fork, reading, after, after_closing, events_in, events, beside, after_past, rest_in, rest}
use Rattle.closing.proofs.Left.{left-count, left-chosen, left-close, shallow-chosen}

-- what comes after a closing needs the walk below only where it goes on
after_same : (d : Tables) (t p : Pick) (f g : Tables → List Event)
    → ((x : Side) (r : RuleNo) → p ≡ one r → f (chosen x r d) ≡ g (chosen x r d)) → after d t p f ≡ after d t p g
unfolding after
after_same d (one q) p f g h = refl
after_same d none none f g h = refl
after_same d none (one r) f g h = let k = h on_side r refl in let l = h off_side r refl in rw (k, l)

past_same : (b : Book) (d : Tables) (x : Atoms) (t p : Pick) (f g : Tables → List Event)
    → ((y : Side) (r : RuleNo) → p ≡ one r → f (chosen y r d) ≡ g (chosen y r d)) → after_past b d x t p f ≡ after_past b d x t p g
unfolding after_past
past_same b d x (one q) p f g h = refl
past_same b d x none none f g h = refl
past_same b d x none (one r) f g h = let k = h on_side r refl in let l = h off_side r refl in rw (k, l)

module _ (b : Book) (fits : count b ≤ 255) where
  -- one level down
  module _ (c : Tables) (s : Sized c) (x : Side) (r : RuleNo) (e : lowest b (uncoloured (pair (close b c))) ≡ one r) where
    pub below-sized : Sized (chosen x r (close b c))
    below-sized = sized-chosen x r (close-sized b fits c s)

    below-fewer : left b (chosen x r (close b c)) < left b (close b c)
    below-fewer = let (h, m, f) = lowest-one b _ r e in left-chosen b fits (close b c) (close-sized b fits c s) x r h m

    pub below_left : left b (chosen x r (close b c)) < left b c
    below_left = omega (arith, below-fewer, left-close b fits c s)

  -- ---- enough levels are as good as more

  events-fuel : (m n : ℕ) (c : Tables) → Sized c → left b c < m → left b c < n → events_in m b c ≡ events_in n b c
  unfolding events_in
  events-fuel zero n c s h k = absurd (omega arith)
  events-fuel (suc m) zero c s h k = absurd (omega arith)
  events-fuel (suc m) (suc n) c s h k = after_same _ _ _ _ _ (λ x r e.
      let g = below_left c s x r e in events-fuel m n _ (below-sized c s x r e) (omega arith) (omega arith))

  pub events-enough : (n : ℕ) (c : Tables) → Sized c → left b c < n → events_in n b c ≡ events b c
  unfolding events
  events-enough n c s h = events-fuel n (suc (count b)) c s h (omega (arith, left-count b c))

  rest-fuel : (m n : ℕ) (c : Tables) (x : Atoms) → Sized c → left b c < m → left b c < n → rest_in m b c x ≡ rest_in n b c x
  unfolding rest_in
  rest-fuel zero n c x s h k = absurd (omega arith)
  rest-fuel (suc m) zero c x s h k = absurd (omega arith)
  rest-fuel (suc m) (suc n) c x s h k = past_same _ _ _ _ _ _ _ (λ y r e.
      let g = below_left c s y r e in rest-fuel m n _ x (below-sized c s y r e) (omega arith) (omega arith))

  pub rest-enough : (n : ℕ) (c : Tables) (x : Atoms) → Sized c → left b c < n → rest_in n b c x ≡ rest b c x
  unfolding rest
  rest-enough n c x s h = rest-fuel n (suc (count b)) c x s h (omega (arith, left-count b c))

  -- ---- the first closing, and then the rest

  module _ (c : Tables) (s : Sized c) where
    pub events-unfold : events b c ≡ after_closing b (close b c) (events b)
    unfolding events events_in
    events-unfold = after_same _ _ _ _ _ (λ x r e.
        events-enough (count b) _ (below-sized c s x r e) (omega (arith, below_left c s x r e, left-count b c)))

    pub rest-unfold : (x : Atoms) → rest b c x
        ≡ after_past b (close b c) x (clashed b (pair (close b c))) (lowest b (uncoloured (pair (close b c)))) (λ d. rest b d x)
    unfolding rest rest_in
    rest-unfold x = past_same _ _ _ _ _ _ _ (λ y r e.
        rest-enough (count b) _ x (below-sized c s y r e) (omega (arith, below_left c s y r e, left-count b c)))

-- ---- the three ways after a closing

-- a colouring c of a book that has at most 255 rules, closed to d
pub record Closes (b : Book) (c d : Tables) : Type 0 where
  pub few : count b ≤ 255
  pub sized : Sized c
  pub closed : d ≡ close b c

-- such a closing has no contradiction and leaves r to choose
pub record Forks (b : Book) (c d : Tables) (r : RuleNo) : Type 0 where
  pub closes : Closes b c d
  pub calm : clashed b (pair d) ≡ none
  pub choice : lowest b (uncoloured (pair d)) ≡ one r

module _ {b : Book} {c d : Tables} where
  module _ (k : Closes b c d) where
    events-of : events b c ≡ after_closing b d (events b)
    events-of = rw k.closed (events-unfold b k.few c k.sized)

    rest_of : (x : Atoms) → rest b c x ≡ after_past b d x (clashed b (pair d)) (lowest b (uncoloured (pair d))) (λ e. rest b e x)
    rest_of x = rw k.closed (rest-unfold b k.few c k.sized x)

    pub events-clash : {r : RuleNo} → clashed b (pair d) ≡ one r → events b c ≡ clash r ∷ []
    unfolding after
    events-clash t = rw t at events-of

    pub rest_clash : (x : Atoms) {r : RuleNo} → clashed b (pair d) ≡ one r → rest b c x ≡ []
    unfolding after_past
    rest_clash x t = rw t at (rest_of x)

    module _ (t : clashed b (pair d) ≡ none) (p : lowest b (uncoloured (pair d)) ≡ none) where
      pub events-reading : events b c ≡ reading d ∷ []
      unfolding after
      events-reading = rw (t, p) at events-of

      pub rest-reading : (x : Atoms) → rest b c x ≡ []
      unfolding after_past
      rest-reading x = rw (t, p) at (rest_of x)

  module _ {r : RuleNo} (f : Forks b c d r) where
    abbrev k : Closes b c d
    k = f.closes

    pub fork-in-book : InBook b r
    fork-in-book = (lowest-one b _ r f.choice).0

    pub fork-low : r.0 < 255
    fork-low = omega (arith, fork-in-book, k.few)

    -- each side has fewer rules without a colour
    module _ (x : Side) where
      pub fork-falls : left b (chosen x r d) < left b c
      fork-falls = rw k.closed (below_left b k.few c k.sized x r (rw k.closed at f.choice))

      pub fork-fewer : left b (close b (chosen x r d)) < left b (close b c)
      fork-fewer = let e = rw k.closed at f.choice in
          rw k.closed (omega (
            arith,
            below-fewer b k.few c k.sized x r e,
            left-close b k.few _ (below-sized b k.few c k.sized x r e),
          ))

    -- and is one level deeper, which fits in a byte
    module _ (shallow : Shallow b c) where
      sides-shallow : (x : Side) → (d.level < 255) × Shallow b (chosen x r d)
      sides-shallow x =
          let e = rw k.closed at f.choice in
          rw k.closed (shallow-chosen b k.few c k.sized x r (below-fewer b k.few c k.sized x r e) shallow)

      pub fork-level : d.level < 255
      fork-level = (sides-shallow on_side).0

      pub fork-shallow : (x : Side) → Shallow b (chosen x r d)
      fork-shallow x = (sides-shallow x).1

    pub events-fork : events b c ≡ fork r ∷ (events b (chosen on_side r d) ++ events b (chosen off_side r d))
    unfolding after
    events-fork = rw (f.calm, f.choice) at (events-of k)

    rest-fork : (x : Atoms) → rest b c x
        ≡ beside (generating b x r) (rest b (chosen on_side r d) x) (rest b (chosen off_side r d) x) (events b (chosen off_side r d))
    unfolding after_past
    rest-fork x = rw (f.calm, f.choice) at (rest_of k x)

    pub rest-fork-on : (x : Atoms) → generating b x r ≡ true → rest b c x ≡ rest b (chosen on_side r d) x ++ events b (chosen off_side r d)
    unfolding beside
    rest-fork-on x g = rw g at (rest-fork x)

    pub rest-fork-off : (x : Atoms) → generating b x r ≡ false → rest b c x ≡ rest b (chosen off_side r d) x
    unfolding beside
    rest-fork-off x g = rw g at (rest-fork x)

-- ---- how a walk's events are built up

pub data Walk (b : Book) : Tables → List Event → Type 0 where
  at_clash : {c d : Tables} {r : RuleNo} → Closes b c d → clashed b (pair d) ≡ one r → Walk b c (clash r ∷ [])
  at-reading : {c d : Tables} → Closes b c d → clashed b (pair d) ≡ none → lowest b (uncoloured (pair d)) ≡ none
      → Walk b c (reading d ∷ [])
  at_fork : {c d : Tables} {r : RuleNo} → Forks b c d r
      → Walk b (chosen on_side r d) (events b (chosen on_side r d)) → Walk b (chosen off_side r d) (events b (chosen off_side r d))
      → Walk b c (fork r ∷ (events b (chosen on_side r d) ++ events b (chosen off_side r d)))

module _ (b : Book) (fits : count b ≤ 255) where
  pub walks : (c : Tables) → Sized c → Walk b c (events b c)
  walks c s = down (suc (left b c)) c s (omega arith)
    where
      down : (n : ℕ) (c : Tables) → Sized c → left b c < n → Walk b c (events b c)
      down zero c s h = absurd (omega arith)
      down (suc n) c s h = ways (clashed b (pair d)) refl (lowest b (uncoloured (pair d))) refl
          (λ x r e. down n _ (below-sized b fits c s x r e) (omega (arith, below_left b fits c s x r e)))
        where
          d : Tables
          d = close b c

          here : Closes b c d
          here = record { few = fits; sized = s; closed = refl }

          ways : (t : Pick) → clashed b (pair d) ≡ t → (p : Pick) → lowest b (uncoloured (pair d)) ≡ p
              → ((x : Side) (r : RuleNo) → lowest b (uncoloured (pair d)) ≡ one r → Walk b (chosen x r d) (events b (chosen x r d)))
              → Walk b c (events b c)
          ways (one r) t p q g = rw (events-clash here t) (at_clash here t)
          ways none t none q g = rw (events-reading here t q) (at-reading here t q)
          ways none t (one r) q g = rw (events-fork forks) (at_fork forks (g on_side r q) (g off_side r q))
            where
              forks : Forks b c d r
              forks = record { closes = here; calm = t; choice = q }
