-- The walk by its ways (src/walk.rt, src/resume.rt): what a call returns, in the words of what it called, is what the run says of the
-- events from its colouring; and what it keeps to is kept for the next call. The events and the run go by their own laws.
use mathlib.Core.Path.{◌≡◌, refl, sym, ◌∙◌, ap}
use mathlib.Core.Logic.{◌⊎◌, inl, inr, ⊎_elim}
use mathlib.Core.Bool.{Bool, true, false}
use mathlib.Core.List.{List, [], ◌∷◌, ◌++◌}
use Prim.Native.Nat.{ℕ, ◌+◌, ◌≤◌, ◌<◌}
use native.Mathlib.Omega.{arith}
use lib.ListN.{length}
use Rattle.std.specs.Prelude.{Option, Some}
use Rattle.meaning.specs.declared.RuleNo.{RuleNo}
use Rattle.meaning.specs.Written.{Tables}
use Rattle.meaning.specs.Sets.{Set}
use Rattle.meaning.specs.Choice.{ifb}
use Rattle.meaning.specs.Books.{Atoms, Book, count}
use Rattle.meaning.specs.AnswerSet.{generating}
use Rattle.meaning.specs.Colours.{Side, on_side, off_side, heads, uncoloured}
use Rattle.meaning.specs.Written.{of, chosen, lent, pair}
use Rattle.meaning.specs.Computed.{close}
use Rattle.meaning.specs.Lowest.{Pick, none, one, lowest_from, lowest, clashed}
use Rattle.meaning.proofs.Tests.{apart}
use Rattle.meaning.proofs.Choice.{b-yes, b-no, lt-either}
use Rattle.meaning.proofs.Written.{Sized, sized-chosen}
use Rattle.book.specs.declared.reader.Shape.{Shape}
use Rattle.book.specs.Format.{book_in, ReadAs}
use Rattle.book.proofs.Places.{shape-count}
use Rattle.closing.specs.Left.{left, Shallow}
use Rattle.closing.specs.Taken.{taken, Ready}
use Rattle.closing.specs.declared.choice.Choice.{Choice}
use Rattle.closing.specs.declared.choice.Choice.TheVariants.{Nothing, On, Off}
use Rattle.walk.specs.Events.{Event, clash, fork, reading, quiet, after, events_in, events, rest}
use Rattle.walk.specs.Run.{Wanted, State, counted, clashed_at, halting, reading_met, run}
use Rattle.walk.specs.Room.{Room}
use Rattle.walk.specs.Readings.{reading_of}
use Rattle.walk.specs.FirstAlike.{counted_by}
use Rattle.closing.specs.Picked.{picked}
use Rattle.walk.specs.declared.tally.Halt.{Halt}
use Rattle.walk.specs.declared.tally.Halt.TheVariants.{Going, Full, Limit}
use Rattle.walk.specs.declared.tally.Tally.{Tally}
use Rattle.walk.proofs.Events.{Closes, events-clash, events-reading, rest_clash, rest-reading}
use Rattle.walk.proofs.Events.{Forks, fork-in-book, fork-falls, fork-level, events-fork, rest-fork-on, rest-fork-off}
use Rattle.closing.proofs.Searches.{lowest-in}
use Rattle.closing.proofs.Laws.{close-closed}
use Rattle.walk.proofs.Run.{run-append, run-ended, run-fine}
use Rattle.walk.proofs.Fresh.{counted-append}
use Rattle.walk.proofs.Steps.{way-stops, way-clash, way-reading, way-fork, way-quiet}
use Rattle.walk.proofs.Meeting.{wanted, room-fine, fine-room}

-- ---- what is kept to

going-or-not : (h : Halt) → (h ≡ Going) ⊎ (h ≡ Going → ⊥)
going-or-not Going = inl refl
going-or-not Full = inr (λ e. apart (cc))
going-or-not Limit = inr (λ e. apart (cc))

module _ {b : Book} {pass room : ℕ} {s : State} (f : Room b pass room s) where
  pub room-tried : {t : Tally} → s.tally.halt ≡ Going → t ≡ counted s s.tally.sets Going
      → Room b pass room (record { tally = t; out = s.out })
  room-tried g e = rw e (record { some = f.some; counts = omega (arith, f.counts); wanting = λ z. f.wanting g; fits = f.fits })

  pub room-run : (limit : ℕ) (es : List Event) {t : State} → t ≡ run b (wanted pass room limit) s es → Room b pass room t
  room-run limit es e = rw e (⊎_elim
      (λ g. fine-room limit (length s.out) f.some f.fits
      (run-fine b (wanted pass room limit) (length s.out) f.some f.fits s es (room-fine limit g f)))
      (λ n. rw (run-ended b (wanted pass room limit) s es n) f)
      (going-or-not s.tally.halt))

-- ---- what a closing and the search for a rule to choose say

module _ (s : List ℕ) (h : Shape) (e : ReadAs s h) where
  pub few : h.rules < 256 → count (book_in s) ≤ 255
  few n = omega (arith, shape-count s h e)

  pub lowest-told : (on off : List Bool) {v w : Option RuleNo} → picked v ≡ lowest_from 0 h.rules (uncoloured (lent on off)) → v ≡ w
      → lowest (book_in s) (uncoloured (lent on off)) ≡ picked w
  lowest-told on off f g = sym (lowest-in (book_in s) (shape-count s h e) _ f) ∙ ap picked g

  pub forks-told : {c d : Tables} {p : Option RuleNo} {r : RuleNo} → Closes (book_in s) c d → clashed (book_in s) (pair d) ≡ none
      → picked p ≡ lowest_from 0 h.rules (uncoloured (pair d)) → p ≡ Some r → Forks (book_in s) c d r
  forks-told k t q m = record { closes = k; calm = t; choice = lowest-told _ _ q m }

-- what a closing told of its contradiction, of the colouring that it gave
pub clash-told : {b : Book} {c d : Tables} {v w : Option RuleNo} → Closes b c d → picked v ≡ clashed b (pair (close b c)) → v ≡ w
    → clashed b (pair d) ≡ picked w
clash-told k f g = rw k.closed (sym f ∙ ap picked g)

-- each side of a fork is less far from its end, where a colouring is as far as it has rules without a colour
pub side-falls : {b : Book} {c d : Tables} {r : RuleNo} {n : ℕ} → Forks b c d r → left b c ≡ n → (x : Side) → left b (chosen x r d) < n
side-falls f e x = rw (← e) (fork-falls f x)

-- and what is new on it comes from the rule
pub side-ready : {b : Book} {c d : Tables} {r : RuleNo} → Forks b c d r → Shallow b c → Ready b d r
side-ready {b} {c} f h = let k = f.closes in record {
  closed = rw k.closed (close-closed b k.few c k.sized);
  in-book = fork-in-book f;
  low = fork-level f h;
}

pub sized-taken : (k : Choice) {c : Tables} → Sized c → Sized (taken k c)
sized-taken Nothing s = s
sized-taken (On r) s = sized-chosen on_side r s
sized-taken (Off r) s = sized-chosen off_side r s

-- ---- the ways of a call

after-some : (d : Tables) (t p : Pick) (f : Tables → List Event) → (e : Event) × (es : List Event) × (after d t p f ≡ e ∷ es)
unfolding after
after-some d (one r) p f = (clash r, [], refl)
after-some d none none f = (reading d, [], refl)
after-some d none (one r) f = (fork r, _, refl)

events-some : (b : Book) (c : Tables) → (e : Event) × (es : List Event) × (events b c ≡ e ∷ es)
unfolding events events_in
events-some b c = after-some _ _ _ _

-- the readings in p count
counted-some : (b : Book) (p : Set Atoms) (e : Event) (es : List Event) → (f : Event) × (fs : List Event) × (counted_by b p (e ∷ es) ≡ f ∷ fs)
unfolding counted_by
counted-some b p (clash r) es = (clash r, _, refl)
counted-some b p (fork r) es = (fork r, _, refl)
counted-some b p (reading d) es = (ifb (p (reading_of b d)) (reading d) quiet, _, refl)
counted-some b p quiet es = (quiet, _, refl)

module _ (b : Book) (p : Set Atoms) (w : Wanted) (s : State) (c : Tables) where
  -- the events from c, of which the readings in p count
  abbrev way : List Event
  way = counted_by b p (events b c)

  pub walk-ended : (s.tally.halt ≡ Going → ⊥) → s ≡ run b w s (counted_by b p (events b c))
  walk-ended n = sym (run-ended b w s way n)

  module _ (going : s.tally.halt ≡ Going) where
    pub walk-stops : w.limit ≤ s.tally.tries → halting Limit s ≡ run b w s (counted_by b p (events b c))
    walk-stops h =
        let (e, es, q) = events-some b c in
        let (f, fs, r) = counted-some b p e es in
        way-stops b w s going way (ap (counted_by b p) q ∙ r) h

    module _ (h : s.tally.tries < w.limit) {d : Tables} where
      pub walk-clash : {t : Tally} {r : RuleNo} → Closes b c d → clashed b (pair d) ≡ one r → t ≡ clashed_at s r
          → record { tally = t; out = s.out } ≡ run b w s (counted_by b p (events b c))
      unfolding counted_by
      walk-clash k z e = way-clash b w s going h way (ap (counted_by b p) (events-clash k z)) e

      module _ (k : Closes b c d) (z : clashed b (pair d) ≡ none) (q : lowest b (uncoloured (pair d)) ≡ none)
          {x : Bool} (asked : x ≡ p (heads b (of d.on))) where
        one-event : (e : Event) → ifb (p (heads b (of d.on))) (reading d) quiet ≡ e → way ≡ e ∷ []
        unfolding counted_by
        one-event e f = ap (counted_by b p) (events-reading k z q) ∙ ap (λ (g : Event). g ∷ []) f

        pub walk-reading : {u : State} → x ≡ true → u ≡ reading_met b w s (heads b (of d.on)) → u ≡ run b w s (counted_by b p (events b c))
        walk-reading t e = way-reading b w s going h way (one-event (reading d) (b-yes _ _ _ (sym asked ∙ t))) e

        pub walk-quiet : {t : Tally} → x ≡ false → t ≡ counted s s.tally.sets Going
            → record { tally = t; out = s.out } ≡ run b w s (counted_by b p (events b c))
        unfolding run
        walk-quiet f e = way-quiet b w s going h way [] (one-event quiet (b-no _ _ _ (sym asked ∙ f))) e refl

      -- u is the state after the one side of the fork, v after both
      pub walk-fork : {r : RuleNo} {t : Tally} {u v : State} → Forks b c d r → t ≡ counted s s.tally.sets Going
          → u ≡ run b w (record { tally = t; out = s.out }) (counted_by b p (events b (chosen on_side r d)))
          → v ≡ run b w u (counted_by b p (events b (chosen off_side r d))) → v ≡ run b w s (counted_by b p (events b c))
      unfolding counted_by
      walk-fork {r} f et eu ev =
          let x = events b (chosen on_side r d) in
          let y = events b (chosen off_side r d) in
          let q : way ≡ fork r ∷ (counted_by b p x ++ counted_by b p y) =
          ap (counted_by b p) (events-fork f) ∙ ap (λ (es : List Event). fork r ∷ es) (counted-append b p x y) in
          way-fork b w s going h way (counted_by b p x) (counted_by b p y) q et eu ev

-- one reading more
pub met-sets : (b : Book) (w : Wanted) (s : State) (x : Atoms) {t : State} → t ≡ reading_met b w s x → t.tally.sets ≡ s.tally.sets + 1
unfolding reading_met
met-sets b w s x e = ap (λ (u : State). u.tally.sets) e
    ∙ lt-either (λ (u : State). u.tally.sets ≡ s.tally.sets + 1) _ _ _ _ (λ h. refl) (λ h. refl)

-- ---- the ways of a call that goes on behind a set x

module _ (b : Book) (w : Wanted) (s : State) (c : Tables) (x : Atoms) {d : Tables} where
  pub resume-clash : {r : RuleNo} → Closes b c d → clashed b (pair d) ≡ one r → s ≡ run b w s (rest b c x)
  unfolding run
  resume-clash k z = sym (ap (run b w s) (rest_clash k x z))

  pub resume-reading : Closes b c d → clashed b (pair d) ≡ none → lowest b (uncoloured (pair d)) ≡ none → s ≡ run b w s (rest b c x)
  unfolding run
  resume-reading k z p = sym (ap (run b w s) (rest-reading k z p x))

  -- a says whether the rule that is chosen generates x
  module _ {r : RuleNo} (f : Forks b c d r) {a : Bool} (g : a ≡ generating b x r) where
    pub resume-off : a ≡ false → {u : State} → u ≡ run b w s (rest b (chosen off_side r d) x) → u ≡ run b w s (rest b c x)
    resume-off n eu = eu ∙ sym (ap (run b w s) (rest-fork-off f x (sym g ∙ n)))

    pub resume-on : a ≡ true → {u v : State} → u ≡ run b w s (rest b (chosen on_side r d) x) → v ≡ run b w u (events b (chosen off_side r d))
        → v ≡ run b w s (rest b c x)
    resume-on m eu ev = ev ∙ rw eu (sym (ap (run b w s) (rest-fork-on f x (sym g ∙ m)) ∙ run-append b w s _ _))
