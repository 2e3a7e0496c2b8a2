-- The way down to a reading (specs/Levels; request 8, V7), level by level as in Events: it ends at the colouring that the walk met, so the
-- levels told of the k-th reading are those of its colouring. And what the code of src/levels.rt keeps to on its way.
use mathlib.Core.Path.{◌≡◌, refl, sym, ◌∙◌, ap, subst}
use mathlib.Core.Logic.{⊎_elim}
use mathlib.Core.Bool.{Bool, true, false}
use mathlib.Core.List.Memᴰ
use mathlib.Core.List.{List, [], ◌∷◌, Memᴰ}
use Prim.Native.Nat.{ℕ, zero, suc, ◌≤◌, ◌<◌}
use native.Mathlib.Omega.{arith}
use Rattle.meaning.specs.declared.RuleNo.{RuleNo}
use Rattle.meaning.specs.Written.{Tables}
use Rattle.meaning.specs.Books.{Atoms, Book, count}
use Rattle.meaning.specs.AnswerSet.{generating}
use Rattle.meaning.specs.Colours.{Side, uncoloured}
use Rattle.meaning.specs.Written.{nothing, chosen, pair}
use Rattle.meaning.specs.Computed.{close}
use Rattle.meaning.specs.Lowest.{Pick, none, one, lowest, clashed}
use Rattle.meaning.proofs.Written.{Sized, sized-nothing, sized-chosen}
use Rattle.meaning.proofs.Closing.{close-sized}
use Rattle.meaning.proofs.Tests.{apart}
use Rattle.closing.specs.Left.{left, Shallow}
use Rattle.closing.specs.Taken.{taken, Ready, Takes}
use Rattle.closing.specs.declared.choice.Choice.{Choice}
use Rattle.closing.specs.declared.choice.Choice.TheVariants.{On, Off}
use Rattle.closing.proofs.Left.{left-count}
use Rattle.walk.specs.Events.{Event, clash, fork, reading, quiet, events}
use Rattle.walk.specs.Readings.{reading_of, readings_in}
use Rattle.walk.specs.Tries.{Kth}
use Rattle.walk.specs.Levels.{side_of, choice_of, after_down, down_in, down}
use Rattle.walk.proofs.Events.{Closes, Forks, below-sized, below_left, fork-falls, fork-shallow, Walk, at_clash, at-reading, at_fork, walks}
use Rattle.walk.proofs.Forks.{side-on, side-off}
use Rattle.walk.proofs.Readings.{walk-sound}

-- ---- level by level

down-same : (b : Book) (d : Tables) (x : Atoms) (t p : Pick) (f g : Tables → Tables)
    → ((y : Side) (r : RuleNo) → p ≡ one r → f (chosen y r d) ≡ g (chosen y r d)) → after_down b d x t p f ≡ after_down b d x t p g
unfolding after_down
down-same b d x (one q) p f g h = refl
down-same b d x none none f g h = refl
down-same b d x none (one r) f g h = h (side_of (generating b x r)) r refl

module _ (b : Book) (fits : count b ≤ 255) (x : Atoms) where
  -- enough levels are as good as more
  down-fuel : (m n : ℕ) (c : Tables) → Sized c → left b c < m → left b c < n → down_in m b c x ≡ down_in n b c x
  unfolding down_in
  down-fuel zero n c s h k = absurd (omega arith)
  down-fuel (suc m) zero c s h k = absurd (omega arith)
  down-fuel (suc m) (suc n) c s h k = down-same b _ x _ _ _ _ (λ y r e.
      let g = below_left b fits c s y r e in down-fuel m n _ (below-sized b fits c s y r e) (omega arith) (omega arith))

  down-unfold : (c : Tables) → Sized c → down b c x
      ≡ after_down b (close b c) x (clashed b (pair (close b c))) (lowest b (uncoloured (pair (close b c)))) (λ e. down b e x)
  unfolding down down_in
  down-unfold c s = down-same b _ x _ _ _ _ (λ y r e.
      down-fuel (count b) (suc (count b)) _ (below-sized b fits c s y r e)
      (omega (arith, below_left b fits c s y r e, left-count b c)) (omega (arith, below_left b fits c s y r e, left-count b c)))

module _ {b : Book} {c d : Tables} (x : Atoms) where
  down-of : Closes b c d → down b c x ≡ after_down b d x (clashed b (pair d)) (lowest b (uncoloured (pair d))) (λ e. down b e x)
  down-of k = rw k.closed (down-unfold b k.few x c k.sized)

  pub down-clash : Closes b c d → {r : RuleNo} → clashed b (pair d) ≡ one r → down b c x ≡ d
  unfolding after_down
  down-clash k t = rw t at (down-of k)

  pub down-reading : Closes b c d → clashed b (pair d) ≡ none → lowest b (uncoloured (pair d)) ≡ none → down b c x ≡ d
  unfolding after_down
  down-reading k t p = rw (t, p) at (down-of k)

  pub down-fork : {r : RuleNo} → Forks b c d r → down b c x ≡ down b (chosen (side_of (generating b x r)) r d) x
  unfolding after_down
  down-fork f = rw (f.calm, f.choice) at (down-of f.closes)

-- ---- the way to a reading of the walk

pub reading-in : (b : Book) (es : List Event) (d : Tables) → Memᴰ (reading d) es → Memᴰ (reading_of b d) (readings_in b es)
unfolding readings_in
reading-in b [] d m = absurd (Memᴰ.not-nil m)
reading-in b (clash r ∷ es) d m = ⊎_elim (λ e. apart (cc)) (reading-in b es d) (Memᴰ.cases_cons m)
reading-in b (fork r ∷ es) d m = ⊎_elim (λ e. apart (cc)) (reading-in b es d) (Memᴰ.cases_cons m)
reading-in b (quiet ∷ es) d m = ⊎_elim (λ e. apart (cc)) (reading-in b es d) (Memᴰ.cases_cons m)
reading-in b (reading e ∷ es) d m = ⊎_elim
    (λ q. let z : d ≡ e = cc in Memᴰ.head (ap (reading_of b) z)) (λ n. Memᴰ.tail (reading-in b es d n)) (Memᴰ.cases_cons m)

module _ {b : Book} where
  walk-down : {c : Tables} {es : List Event} → Walk b c es → (d : Tables) → Memᴰ (reading d) es → down b c (reading_of b d) ≡ d
  unfolding side_of
  walk-down (at_clash k t) d m = ⊎_elim (λ e. apart (cc)) (λ i. absurd (Memᴰ.not-nil i)) (Memᴰ.cases_cons m)
  walk-down (at-reading {d = e} k t p) d m = ⊎_elim
      (λ q. let z : e ≡ d = cc in down-reading (reading_of b d) k t p ∙ z) (λ i. absurd (Memᴰ.not-nil i)) (Memᴰ.cases_cons m)
  walk-down {c} (at_fork {d = e} {r = r} f v w) d m = ⊎_elim (λ q. apart (cc))
      (λ u. ⊎_elim
      (λ i. follows true (side-on f x (walk-sound v x (reading-in b _ d i))) ∙ walk-down v d i)
      (λ i. follows false (side-off f x (walk-sound w x (reading-in b _ d i))) ∙ walk-down w d i)
      (Memᴰ.append_cases _ u)) (Memᴰ.cases_cons m)
    where
      x : Atoms
      x = reading_of b d

      follows : (t : Bool) → generating b x r ≡ t → down b c x ≡ down b (chosen (side_of t) r e) x
      follows t g = down-fork x f ∙ ap (λ (t : Bool). down b (chosen (side_of t) r e) x) g

module _ (b : Book) (fits : count b ≤ 255) where
  -- V7: the way down that follows the k-th reading ends at the colouring that the walk met
  pub down-found : {k t : ℕ} {x : Atoms} → (c : Kth b (events b nothing) k t x) → down b nothing x ≡ c.found
  down-found c =
      ap (down b nothing) c.set ∙ walk-down (walks b fits nothing sized-nothing) c.found
      (rw c.walk (Memᴰ.append_right c.earlier (Memᴰ.head refl)))

-- ---- what the code keeps to on its way down

-- the choice of a rule, by the test whether it generates the set
module _ (r : RuleNo) {g h : Bool} (q : g ≡ h) where
  pub follow-on : g ≡ true → On r ≡ choice_of h r
  unfolding choice_of
  follow-on t = ap (λ (x : Bool). choice_of x r) (sym t ∙ q)

  pub follow-off : g ≡ false → Off r ≡ choice_of h r
  unfolding choice_of
  follow-off t = ap (λ (x : Bool). choice_of x r) (sym t ∙ q)

-- what it comes to where it is taken
module _ (g : Bool) (r : RuleNo) {k : Choice} (e : k ≡ choice_of g r) (d : Tables) where
  pub follow-taken : taken k d ≡ chosen (side_of g) r d
  unfolding choice_of side_of
  follow-taken = ap (λ (j : Choice). taken j d) e ∙ each g
    where
      each : (g : Bool) → taken (choice_of g r) d ≡ chosen (side_of g) r d
      each true = refl
      each false = refl

  pub follow-takes : {b : Book} → Ready b d r → Takes b d k
  unfolding choice_of
  follow-takes {b} ready = subst (Takes b d) (sym e) (each g)
    where
      each : (g : Bool) → Takes b d (choice_of g r)
      each true = ready
      each false = ready

pub record Descends (b : Book) (x : Atoms) (c : Tables) : Type 0 where
  pub sized : Sized c
  pub shallow : Shallow b c
  pub leads : down b nothing x ≡ down b c x

pub descends-start : (b : Book) (x : Atoms) {c : Tables} → Shallow b c → c ≡ nothing → Descends b x c
descends-start b x h e = record { sized = rw e sized-nothing; shallow = h; leads = ap (λ (c : Tables). down b c x) (sym e) }

module _ {b : Book} {x : Atoms} {c d : Tables} (k : Descends b x c) where
  pub descends-closes : count b ≤ 255 → d ≡ close b c → Closes b c d
  descends-closes few e = record { few = few; sized = k.sized; closed = e }

  pub descends-clash : Closes b c d → {r : RuleNo} → clashed b (pair d) ≡ one r → d ≡ down b nothing x
  descends-clash j t = sym (k.leads ∙ down-clash x j t)

  pub descends-reading : Closes b c d → clashed b (pair d) ≡ none → lowest b (uncoloured (pair d)) ≡ none → d ≡ down b nothing x
  descends-reading j t p = sym (k.leads ∙ down-reading x j t p)

  -- each choice leaves fewer rules without a colour
  pub descends-falls : {r : RuleNo} → Forks b c d r → {e : Tables} → e ≡ chosen (side_of (generating b x r)) r d → left b e < left b c
  descends-falls {r} f g = rw g (fork-falls f (side_of (generating b x r)))

  pub descends-fork : {r : RuleNo} → Forks b c d r → {e : Tables} → e ≡ chosen (side_of (generating b x r)) r d → Descends b x e
  descends-fork {r} f g = rw g (record {
    sized = sized-chosen (side_of (generating b x r)) r d-sized;
    shallow = fork-shallow f k.shallow (side_of (generating b x r));
    leads = k.leads ∙ down-fork x f;
  })
    where
      d-sized : Sized d
      d-sized = rw f.closes.closed (close-sized b f.closes.few c f.closes.sized)
