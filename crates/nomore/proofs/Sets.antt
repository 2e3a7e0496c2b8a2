-- What the no_mo_re walk finds (document 02, request 6: "the same answer sets, each once"): exactly the answer sets, each once, and as many as
-- the fixed walk; and how many tries it has at most, which is not the bound of the fixed walk. By induction over the walk, from the laws of
-- one try (proofs/Grounded): its on rules stay grounded.
use mathlib.Core.Path.{◌≡◌, refl, sym, ◌∙◌, ap, subst, fun_ext}
use mathlib.Core.Logic.{⊎_elim}
use mathlib.Core.Bool.{not}
use mathlib.Core.List.Memᴰ
use mathlib.Core.List.{List, Memᴰ}
use Prim.Native.Nat.{◌+◌, ◌*◌, ◌^◌, ◌≤◌, ◌<◌}
use native.Mathlib.Nat.{le_antisymm}
use native.Mathlib.Omega.{arith}
use lib.ListN.{length, length-append}
use lib.Pow.{pow_pos, pow_mono}
use borrow.Author.Tests.{not-true}
use Rattle.meaning.specs.declared.RuleNo.{RuleNo}
use Rattle.meaning.specs.Sets.{◌∈◌, ◌∉◌}
use Rattle.meaning.specs.Books.{Atoms, Book, InBook, count}
use Rattle.meaning.specs.AnswerSet.{generating}
use Rattle.meaning.specs.Colours.{Pair, Side, on_side, off_side, side, Within, colouring_of}
use Rattle.meaning.specs.Written.{Tables, of, nothing, colour, pair}
use Rattle.meaning.specs.Lowest.{none, one, clashed}
use Rattle.meaning.specs.Propagation.{Propagation, propagate}
use Rattle.meaning.proofs.Tests.{decided, true-and-false}
use Rattle.meaning.proofs.Rules.{within-trans}
use Rattle.meaning.proofs.Written.{Sized, sized-nothing, pair-nothing, pair-on}
use Rattle.meaning.proofs.Lowest.{lowest-none, clashed-clashing, clashed-none}
use Rattle.meaning.proofs.Propagate.{propagate-is, propagate-sized}
use Rattle.closing.specs.Left.{left}
use Rattle.closing.proofs.Left.{chosen-above, chosen-within, chosen-in}
use Rattle.walk.specs.Events.{Event}
use Rattle.walk.specs.Readings.{reading_of, readings_in, readings, Agree}
use Rattle.walk.proofs.Forks.{Stands, stands-nothing}
use Rattle.walk.proofs.Readings.{readings-append, readings-all}
use Rattle.nomore.specs.Own.{supported, rest_off, own_from, own_events, Apart, no_more, differs, SameSets}
use Rattle.nomore.proofs.Grounded.{Grounded, rested, grounded-none, grounded-propagation, grounded-choice, leaf-sound}
use Rattle.nomore.proofs.Grounded.{propagation-keeps-answers, propagation-no-clash, leaf-heads, leaf-test}
use Rattle.nomore.proofs.Node.{pair-colour, test-is}
use Rattle.nomore.proofs.Apart.{apart-append, at_most, ordered-apart}
use Rattle.nomore.proofs.Events.{Propagates, Forks, Leaf, fork-in-book, fork-supported, fork-fewer}
use Rattle.nomore.proofs.Events.{Owns, at_clash, at_failing, at-reading, at_fork, owns}

module _ {b : Book} {c d : Tables} where
  module _ (k : Propagates b c d) where
    propagation : Propagation b (pair c) (pair d)
    propagation = rw k.propagated (propagate-is b k.few c k.sized)

    sized : Sized d
    sized = rw k.propagated (propagate-sized b k.few c k.sized)

    keeps : (x : Atoms) → Stands b c x → Within b (pair d) (colouring_of b x)
    keeps x s = propagation-keeps-answers b x s.answer propagation s.holds

    stands-clash : {r : RuleNo} → clashed b (pair d) ≡ one r → (x : Atoms) → Stands b c x → ⊥
    stands-clash t x s =
        true-and-false (clashed-clashing b (pair d) _ t) (propagation-no-clash b x s.answer propagation s.holds)

  -- ---- where no rule is left to choose

  module _ (f : Leaf b c d) where
    abbrev p : Propagates b c d
    p = f.propagates

    test : Propagation b (rested (pair d)) (pair (propagate b (rest_off b d)))
    test = test-is b p.few d (sized p)

    left_over : (r : RuleNo) → InBook b r → r ∉ supported b (pair d)
    left_over = lowest-none b _ f.no-choice

    leaf-stands : Grounded b (of c.on) → clashed b (pair (propagate b (rest_off b d))) ≡ none → Stands b c (reading_of b (rest_off b d))
    unfolding rest_off
    leaf-stands g t =
        let (answer, holds) = leaf-sound b g (propagation p) test ((clashed-none b _).0 t) in record { answer = answer; holds = holds }

    leaf-only : (x : Atoms) → Stands b c x → Agree x (reading_of b (rest_off b d))
    unfolding rest_off
    leaf-only x s a = sym (leaf-heads b x s.answer (keeps p x s) left_over a)

    leaf-fails : {r : RuleNo} → clashed b (pair (propagate b (rest_off b d))) ≡ one r → (x : Atoms) → Stands b c x → ⊥
    leaf-fails t x s = true-and-false (clashed-clashing b _ _ t) (leaf-test b x s.answer (keeps p x s) left_over test)

  -- ---- at a fork

  module _ {r : RuleNo} (f : Forks b c d r) where
    abbrev k : Propagates b c d
    k = f.propagates

    low : r.0 < 255
    low = omega (arith, fork-in-book f, k.few)

    side-grounded : Grounded b (of c.on) → (x : Side) → Grounded b (of (colour x r d).on)
    side-grounded g on_side = subst (λ (q : Pair). Grounded b q.on) (sym (pair-on d r (omega (arith, low, (sized k).on))))
        (grounded-choice b (pair d) (grounded-propagation b g (propagation k)) r (fork-supported f))
    side-grounded g off_side = grounded-propagation b g (propagation k)

    side-stands : (x : Side) (y : Atoms) → Stands b (colour x r d) y → Stands b c y
    side-stands x y s = record {
      answer = s.answer;
      holds = within-trans b (propagation k).good.above
          (within-trans b (chosen-above b d (sized k) x r low) (rw (pair-colour x r d) at s.holds));
    }

    stands-side : (x : Side) (y : Atoms) → Stands b c y → r ∈ side x (colouring_of b y) → Stands b (colour x r d) y
    stands-side x y s m = record {
      answer = s.answer;
      holds = rw (pair-colour x r d) (chosen-within b d (sized k) x r low _ (keeps k y s) m);
    }

    -- the sets of the two sides differ in the rule
    sides-differ : (x y : Atoms) → Stands b (colour on_side r d) x → Stands b (colour off_side r d) y → Agree x y → ⊥
    unfolding side
    sides-differ x y s t e = true-and-false
        (ap (λ (z : Atoms). generating b z r) (sym (fun_ext e))
        ∙ s.holds.each on_side r (fork-in-book f) (chosen-in b d (sized k) on_side r low))
        (not-true _ (t.holds.each off_side r (fork-in-book f) (chosen-in b d (sized k) off_side r low)))

-- ---- the sets of a walk

module _ {b : Book} where
  own-sound : {c : Tables} {es : List Event} → Owns b c es → Grounded b (of c.on) → (x : Atoms) → Memᴰ x (readings_in b es)
      → Stands b c x
  unfolding readings_in
  own-sound (at_clash k t) g x m = absurd (Memᴰ.not-nil m)
  own-sound (at_failing f t) g x m = absurd (Memᴰ.not-nil m)
  own-sound (at-reading f t) g x m = rw (Memᴰ.eq_of_singleton m) (leaf-stands f g t)
  own-sound (at_fork f v w) g x m = ⊎_elim
      (λ e. side-stands f on_side x (own-sound v (side-grounded f g on_side) x e))
      (λ e. side-stands f off_side x (own-sound w (side-grounded f g off_side) x e))
      (Memᴰ.append_cases _ (rw (readings-append b) at m))

  own-complete : {c : Tables} {es : List Event} → Owns b c es → (x : Atoms) → Stands b c x
      → (y : Atoms) × Memᴰ y (readings_in b es) × Agree x y
  unfolding readings_in side
  own-complete (at_clash k t) x s = absurd (stands-clash k t x s)
  own-complete (at_failing f t) x s = absurd (leaf-fails f t x s)
  own-complete (at-reading {d = d} f t) x s = (reading_of b (rest_off b d), Memᴰ.head refl, leaf-only f x s)
  own-complete (at_fork {d = d} {r = r} f v w) x s = rw (readings-append b) (⊎_elim
      (λ g. let (y, m, e) = own-complete v x (stands-side f on_side x s g) in (y, Memᴰ.append_left _ m, e))
      (λ g.
      let (y, m, e) = own-complete w x (stands-side f off_side x s (ap not g)) in
      (y, Memᴰ.append_right (readings_in b (own_from b (colour on_side r d))) m, e))
      (decided (generating b x r)))

  own-apart : {c : Tables} {es : List Event} → Owns b c es → Grounded b (of c.on) → Apart (readings_in b es)
  unfolding readings_in
  own-apart (at_clash k t) g = no_more
  own-apart (at_failing f t) g = no_more
  own-apart (at-reading f t) g = differs (λ y m. absurd (Memᴰ.not-nil m)) no_more
  own-apart (at_fork f v w) g =
      let i = side-grounded f g on_side in let j = side-grounded f g off_side in
      rw (readings-append b) (apart-append (own-apart v i) (own-apart w j)
      (λ x m y n. sides-differ f x y (own-sound v i x m) (own-sound w j y n)))

  -- a leaf has at most two tries
  own-tries : {c : Tables} {es : List Event} → Owns b c es → length es + 1 ≤ 3 * 2 ^ left b (propagate b c)
  own-tries {c = c} (at_clash k t) = omega (arith, pow_pos (left b (propagate b c)))
  own-tries {c = c} (at_failing f t) = omega (arith, pow_pos (left b (propagate b c)))
  own-tries {c = c} (at-reading f t) = omega (arith, pow_pos (left b (propagate b c)))
  own-tries (at_fork f v w) = simp length-append (omega (
    arith,
    own-tries v,
    own-tries w,
    pow_mono (fork-fewer f on_side),
    pow_mono (fork-fewer f off_side),
  ))

-- two lists of exactly the answer sets have one length
pub sets-count : {b : Book} {l k : List Atoms} → SameSets b l → SameSets b k → length l ≡ length k
sets-count {l = l} {k = k} s t = le_antisymm
    (at_most l k s.once (λ x m. t.complete x (s.sound x m))) (at_most k l t.once (λ x m. s.complete x (t.sound x m)))

-- ---- the walk of a book

module _ (b : Book) (fits : count b ≤ 255) where
  walk : Owns b nothing (own_events b)
  unfolding own_events
  walk = owns b fits nothing sized-nothing

  ground : Grounded b (of nothing.on)
  ground = subst (λ (p : Pair). Grounded b p.on) (sym pair-nothing) (grounded-none b)

  -- it finds exactly the answer sets, each once
  pub own-sets : SameSets b (readings_in b (own_events b))
  own-sets = record {
    sound = λ x m. (own-sound walk ground x m).answer;
    complete = λ x p. own-complete walk x (stands-nothing b x p);
    once = own-apart walk ground;
  }

  -- as many as the fixed walk
  pub own-count : length (readings_in b (own_events b)) ≡ length (readings b)
  own-count = let all = readings-all b fits in
      sets-count own-sets (record { sound = all.sound; complete = all.complete; once = ordered-apart b all.ordered })

  -- in at most 3 · 2^u - 1 tries, where the first closing without support leaves u rules without a colour
  pub own-most-tries : length (own_events b) + 1 ≤ 3 * 2 ^ left b (propagate b nothing)
  own-most-tries = own-tries walk
