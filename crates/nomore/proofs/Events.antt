-- The events of the no_mo_re walk, level by level, as those of the fixed walk are told (walk/proofs/Events): a choice leaves fewer rules
-- without a colour and closing without support no more, so the number of levels that specs/Own allows never ends a walk. The events are
-- built up as Owns says: proofs about them go by induction over it.
use mathlib.Core.Path.{◌≡◌, refl}
use mathlib.Core.List.{List, [], ◌∷◌, ◌++◌}
use Prim.Native.Nat.{ℕ, zero, suc, ◌≤◌, ◌<◌}
use native.Mathlib.Omega.{arith}
use Rattle.meaning.specs.declared.RuleNo.{RuleNo}
use Rattle.meaning.specs.Sets.{◌∈◌}
use Rattle.meaning.specs.Books.{Book, InBook, count}
use Rattle.meaning.specs.Colours.{Side, on_side, off_side, uncoloured}
use Rattle.meaning.specs.Written.{Tables, colour, pair}
use Rattle.meaning.specs.Lowest.{Pick, none, one, lowest, clashed}
use Rattle.meaning.specs.Propagation.{propagate}
use Rattle.meaning.proofs.Tests.{and_left}
use Rattle.meaning.proofs.Written.{Sized}
use Rattle.meaning.proofs.Lowest.{lowest-one}
use Rattle.meaning.proofs.Propagate.{propagate-sized}
use Rattle.closing.specs.Left.{left}
use Rattle.closing.proofs.Left.{left-count}
use Rattle.closing.proofs.Propagating.{sized-colour}
use Rattle.walk.specs.Events.{Event, clash, fork, quiet, reading}
use Rattle.nomore.specs.Own.{supported, rest_off, tested, test_of, own_after, own_after_propagating, own_in, own_from}
use Rattle.nomore.proofs.Node.{left-propagate, left-coloured}

-- what comes after closing without support needs the walk below only where it goes on
after_same : (b : Book) (d : Tables) (t p : Pick) (f g : Tables → List Event)
    → ((x : Side) (r : RuleNo) → p ≡ one r → f (colour x r d) ≡ g (colour x r d)) → own_after b d t p f ≡ own_after b d t p g
unfolding own_after
after_same b d (one q) p f g h = refl
after_same b d none none f g h = refl
after_same b d none (one r) f g h = let k = h on_side r refl in let l = h off_side r refl in rw (k, l)

module _ (b : Book) (fits : count b ≤ 255) where
  -- one level down
  module _ (c : Tables) (s : Sized c) (x : Side) (r : RuleNo) (e : lowest b (supported b (pair (propagate b c))) ≡ one r) where
    pub below-sized : Sized (colour x r (propagate b c))
    below-sized = sized-colour x r (propagate-sized b fits c s)

    below-fewer : left b (colour x r (propagate b c)) < left b (propagate b c)
    unfolding supported
    below-fewer = let (h, m, f) = lowest-one b _ r e in
        left-coloured b fits (propagate b c) (propagate-sized b fits c s) x r h (and_left (uncoloured (pair (propagate b c)) r) _ m)

    pub below_left : left b (colour x r (propagate b c)) < left b c
    below_left = omega (arith, below-fewer, left-propagate b fits c s)

  -- ---- enough levels are as good as more

  own-fuel : (m n : ℕ) (c : Tables) → Sized c → left b c < m → left b c < n → own_in m b c ≡ own_in n b c
  unfolding own_in
  own-fuel zero n c s h k = absurd (omega arith)
  own-fuel (suc m) zero c s h k = absurd (omega arith)
  own-fuel (suc m) (suc n) c s h k = after_same _ _ _ _ _ _ (λ x r e.
      let g = below_left c s x r e in own-fuel m n _ (below-sized c s x r e) (omega arith) (omega arith))

  own-enough : (n : ℕ) (c : Tables) → Sized c → left b c < n → own_in n b c ≡ own_from b c
  unfolding own_from
  own-enough n c s h = own-fuel n (suc (count b)) c s h (omega (arith, left-count b c))

  -- ---- the first try, and then the rest

  own-unfold : (c : Tables) → Sized c → own_from b c ≡ own_after_propagating b (propagate b c) (own_from b)
  unfolding own_from own_in
  own-unfold c s = after_same _ _ _ _ _ _ (λ x r e.
      own-enough (count b) _ (below-sized c s x r e) (omega (arith, below_left c s x r e, left-count b c)))

-- ---- the ways after closing without support

-- a colouring c of a book that has at most 255 rules, closed without support to d
pub record Propagates (b : Book) (c d : Tables) : Type 0 where
  pub few : count b ≤ 255
  pub sized : Sized c
  pub propagated : d ≡ propagate b c

-- such a closing has no contradiction and leaves r to choose
pub record Forks (b : Book) (c d : Tables) (r : RuleNo) : Type 0 where
  pub propagates : Propagates b c d
  pub calm : clashed b (pair d) ≡ none
  pub choice : lowest b (supported b (pair d)) ≡ one r

-- such a closing has no contradiction and leaves none to choose
pub record Leaf (b : Book) (c d : Tables) : Type 0 where
  pub propagates : Propagates b c d
  pub calm : clashed b (pair d) ≡ none
  pub no-choice : lowest b (supported b (pair d)) ≡ none

module _ {b : Book} {c d : Tables} where
  module _ (k : Propagates b c d) where
    own_of : own_from b c ≡ own_after_propagating b d (own_from b)
    own_of = rw k.propagated (own-unfold b k.few c k.sized)

    pub own-clash : {r : RuleNo} → clashed b (pair d) ≡ one r → own_from b c ≡ clash r ∷ []
    unfolding own_after
    own-clash t = rw t at own_of

  pub own-leaf : Leaf b c d → own_from b c ≡ quiet ∷ test_of b (rest_off b d)
  unfolding own_after
  own-leaf f = rw (f.calm, f.no-choice) at (own_of f.propagates)

  module _ {r : RuleNo} (f : Forks b c d r) where
    abbrev k : Propagates b c d
    k = f.propagates

    abbrev told : lowest b (supported b (pair (propagate b c))) ≡ one r
    told = rw k.propagated at f.choice

    pub fork-in-book : InBook b r
    fork-in-book = (lowest-one b _ r f.choice).0

    pub fork-supported : r ∈ supported b (pair d)
    fork-supported = (lowest-one b _ r f.choice).1

    -- each side has fewer rules without a colour
    module _ (x : Side) where
      pub fork-falls : left b (colour x r d) < left b c
      fork-falls = rw k.propagated (below_left b k.few c k.sized x r told)

      pub fork-fewer : left b (propagate b (colour x r d)) < left b (propagate b c)
      fork-fewer = rw k.propagated (omega (
        arith,
        below-fewer b k.few c k.sized x r told,
        left-propagate b k.few _ (below-sized b k.few c k.sized x r told),
      ))

    pub own-fork : own_from b c ≡ fork r ∷ (own_from b (colour on_side r d) ++ own_from b (colour off_side r d))
    unfolding own_after
    own-fork = rw (f.calm, f.choice) at (own_of k)

-- ---- how the events are built up

pub data Owns (b : Book) : Tables → List Event → Type 0 where
  at_clash : {c d : Tables} {r : RuleNo} → Propagates b c d → clashed b (pair d) ≡ one r → Owns b c (clash r ∷ [])
  at_failing : {c d : Tables} {r : RuleNo} → Leaf b c d → clashed b (pair (propagate b (rest_off b d))) ≡ one r
      → Owns b c (quiet ∷ (clash r ∷ []))
  at-reading : {c d : Tables} → Leaf b c d → clashed b (pair (propagate b (rest_off b d))) ≡ none
      → Owns b c (quiet ∷ (reading (rest_off b d) ∷ []))
  at_fork : {c d : Tables} {r : RuleNo} → Forks b c d r
      → Owns b (colour on_side r d) (own_from b (colour on_side r d)) → Owns b (colour off_side r d) (own_from b (colour off_side r d))
      → Owns b c (fork r ∷ (own_from b (colour on_side r d) ++ own_from b (colour off_side r d)))

module _ (b : Book) (fits : count b ≤ 255) where
  pub owns : (c : Tables) → Sized c → Owns b c (own_from b c)
  unfolding tested
  owns c s = down (suc (left b c)) c s (omega arith)
    where
      down : (n : ℕ) (c : Tables) → Sized c → left b c < n → Owns b c (own_from b c)
      down zero c s h = absurd (omega arith)
      down (suc n) c s h = ways (clashed b (pair d)) refl (lowest b (supported b (pair d))) refl
          (λ x r e. down n _ (below-sized b fits c s x r e) (omega (arith, below_left b fits c s x r e)))
        where
          d : Tables
          d = propagate b c

          here : Propagates b c d
          here = record { few = fits; sized = s; propagated = refl }

          last : (f : Leaf b c d) (t : Pick) → clashed b (pair (propagate b (rest_off b d))) ≡ t → Owns b c (quiet ∷ test_of b (rest_off b d))
          last f (one r) e = rw e (at_failing f e)
          last f none e = rw e (at-reading f e)

          ways : (t : Pick) → clashed b (pair d) ≡ t → (p : Pick) → lowest b (supported b (pair d)) ≡ p
              → ((x : Side) (r : RuleNo) → lowest b (supported b (pair d)) ≡ one r → Owns b (colour x r d) (own_from b (colour x r d)))
              → Owns b c (own_from b c)
          ways (one r) t p q g = rw (own-clash here t) (at_clash here t)
          ways none t none q g = let f : Leaf b c d = record { propagates = here; calm = t; no-choice = q } in
              rw (own-leaf f) (last f _ refl)
          ways none t (one r) q g = let f : Forks b c d r = record { propagates = here; calm = t; choice = q } in
              rw (own-fork f) (at_fork f (g on_side r q) (g off_side r q))
