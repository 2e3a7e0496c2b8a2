-- The rule of the last contradictory try, told late (specs/Origin): a tally that says there was none stays, every way but that of a
-- contradiction goes over to the tally with the rule told, and a contradiction's origin leads to its rule.
use mathlib.Core.Path.{◌≡◌, refl, sym, ◌∙◌, ap}
use mathlib.Core.Logic.{⊎_elim, ◌↔◌}
use mathlib.Core.Bool.{Bool, true, false}
use mathlib.Core.List.{List}
use Prim.Native.Nat.{ℕ, ◌+◌, ◌≤◌, ◌<◌}
use native.Mathlib.Omega.{arith}
use lib.ListN.{length}
use Rattle.std.specs.Prelude.{Option, Some, None, is_some}
use Rattle.meaning.specs.declared.RuleNo.{RuleNo}
use Rattle.meaning.specs.Sets.{Set}
use Rattle.meaning.specs.Books.{Atoms, Book, rule_no, count}
use Rattle.meaning.specs.Bits.{listed}
use Rattle.meaning.specs.Choice.{if_lt}
use Rattle.meaning.specs.Written.{Tables, nothing, coloured, lent, pair}
use Rattle.meaning.specs.Computed.{close}
use Rattle.meaning.specs.Lowest.{Pick, none, one, on_pick, clashed}
use Rattle.meaning.proofs.Tests.{lt-or-le, true-and-false}
use Rattle.meaning.proofs.Choice.{lt_yes, lt_no, eq_yes, eq_no}
use Rattle.meaning.proofs.Written.{Sized}
use Rattle.book.specs.RuleRows.{row}
use Rattle.closing.specs.Ended.{Ends}
use Rattle.closing.specs.Picked.{picked}
use Rattle.closing.proofs.Leaving.{ends-calm, ends-clash, ends-origin}
use Rattle.walk.specs.Events.{Event, events}
use Rattle.walk.specs.Run.{Wanted, State, reading_met, run}
use Rattle.walk.specs.Room.{Room}
use Rattle.walk.specs.Find.{start_at}
use Rattle.walk.specs.Page.{ended_by}
use Rattle.walk.specs.FirstAlike.{counted_by}
use Rattle.walk.specs.Memory.{stored, kept_at}
use Rattle.walk.specs.Origin.{origin_in, clash_of, told_clash, told_from}
use Rattle.walk.specs.declared.tally.Halt.{Halt}
use Rattle.walk.specs.declared.tally.Halt.TheVariants.{Going, Full, Limit}
use Rattle.walk.specs.declared.tally.Tally.{Tally}
use Rattle.walk.proofs.Events.{Closes}
use Rattle.walk.proofs.Remembering.{stored-length, row_other, row-stored}
use Rattle.walk.proofs.Walking.{clash-told, walk-clash}

-- ---- the words

pub origin-kept : (on off w exit : List ℕ) → length on ≡ 4 → length off ≡ 4 → length w ≡ 8 → exit ≡ kept_at 0 on off w
    → origin_in exit ≡ coloured (listed on) (listed off)
unfolding origin_in kept_at
origin-kept on off w exit lo lf l e =
    let half = stored 0 on w in
    let h = e ∙ lt_yes _ _ _ _ (omega (arith, l)) in
    let p : row exit 0 ≡ on = ap (λ (v : List ℕ). row v 0) h ∙ row_other 1 off half 0 (λ z. omega arith) ∙ row-stored 0 on w lo (omega (arith, l)) in
    let q : row exit 1 ≡ off = ap (λ (v : List ℕ). row v 1) h ∙ row-stored 1 off half lf (omega (arith, l, stored-length 0 on w)) in
    λ i. coloured (listed (p i)) (listed (q i))

-- the colouring that is read from them, made of the empty one
pub origin-read : (w on off : List ℕ) {c d : Tables} → c ≡ nothing → on ≡ row w 0 → off ≡ row w 1
    → d ≡ record { on = listed on; off = listed off; marks = c.marks; level = c.level; levels = c.levels } → d ≡ origin_in w
unfolding origin_in
origin-read w on off e p q f =
    f ∙ (λ i. record { on = listed (p i); off = listed (q i); marks = (e i).marks; level = (e i).level; levels = (e i).levels })

-- ---- the tally

module _ (b : Book) (w : List ℕ) where
  clash-none : (r : RuleNo) → r.0 ≡ 255 → clash_of b w r ≡ r
  unfolding clash_of
  clash-none r e = eq_yes _ _ _ _ e

  clash-some : (r : RuleNo) → (r.0 ≡ 255 → ⊥) → {p : Pick} → clashed b (pair (close b (origin_in w))) ≡ p → clash_of b w r ≡ on_pick p r (λ q. q)
  unfolding clash_of
  clash-some r n e = eq_no _ _ _ _ n ∙ ap (λ (p : Pick). on_pick p r (λ q. q)) e

  -- what is told where there was none, and where there was one
  pub told_none : (t : Tally) → t.clash.0 ≡ 255 → t ≡ told_clash b w t
  told_none t e = λ i. record { tries = t.tries; sets = t.sets; clash = sym (clash-none t.clash e) i; halt = t.halt }

  module _ (t : Tally) (n : t.clash.0 ≡ 255 → ⊥) {c : Tables} (k : c ≡ origin_in w) (v : Option RuleNo) (e : picked v ≡ clashed b (pair (close b c))) where
    found : clashed b (pair (close b (origin_in w))) ≡ picked v
    found = sym (e ∙ ap (λ (x : Tables). clashed b (pair (close b x))) k)

    pub told-still : v ≡ None → t ≡ told_clash b w t
    unfolding on_pick
    told-still z =
        let e = sym (clash-some t.clash n (found ∙ ap picked z)) in λ i. record { tries = t.tries; sets = t.sets; clash = e i; halt = t.halt }

    pub told-rule : {r : RuleNo} → v ≡ Some r → record { tries = t.tries; sets = t.sets; clash = r; halt = t.halt } ≡ told_clash b w t
    unfolding on_pick
    told-rule z =
        let e = sym (clash-some t.clash n (found ∙ ap picked z)) in λ i. record { tries = t.tries; sets = t.sets; clash = e i; halt = t.halt }

  -- at the start there was none
  pub told-start : (q : Wanted) (tries : ℕ) (out : List ℕ) (es : List Event) {u : State} → u ≡ run b q (told_from b w (start_at tries out)) es
      → u ≡ run b q (start_at tries out) es
  told-start q tries out es f =
      f ∙ (λ i. run b q (record { tally = sym (told_none (start_at tries out).tally refl) i; out = out }) es)

  -- at the end it is told
  pub told-end : (t : Tally) {r : Tally} (out : List ℕ) {u : State} → r ≡ told_clash b w t → record { tally = told_clash b w t; out = out } ≡ u
      → record { tally = r; out = out } ≡ u
  told-end t out e f = (λ i. record { tally = e i; out = out }) ∙ f

  -- ---- ways that meet no contradiction

  told-either : (m n : ℕ) (u v : State) → told_from b w (if_lt m n u v) ≡ if_lt m n (told_from b w u) (told_from b w v)
  told-either m n u v = ⊎_elim
      (λ h. ap (told_from b w) (lt_yes m n u v h) ∙ sym (lt_yes m n (told_from b w u) (told_from b w v) h))
      (λ h. ap (told_from b w) (lt_no m n u v h) ∙ sym (lt_no m n (told_from b w u) (told_from b w v) h))
      (lt-or-le m n)

  pub told-met : (q : Wanted) (s : State) (x : Atoms) → told_from b w (reading_met b q s x) ≡ reading_met b q (told_from b w s) x
  unfolding reading_met
  told-met q s x = told-either _ _ _ _

  pub room-told : {pass room : ℕ} (s : State) → Room b pass room s ↔ Room b pass room (told_from b w s)
  room-told s = (
    λ f. record { some = f.some; counts = f.counts; wanting = f.wanting; fits = f.fits },
    λ f. record { some = f.some; counts = f.counts; wanting = f.wanting; fits = f.fits },
  )

  -- a page tells no rule
  pub told-ended : (h : Halt) (s : State) → ended_by h s ≡ ended_by h (told_from b w s)
  unfolding ended_by
  told-ended Going s = refl
  told-ended Full s = refl
  told-ended Limit s = refl

-- ---- what a closing says that may be left

-- whether there is a rule
pub no-rule : {told : Bool} (v : Option RuleNo) → told ≡ is_some v → told ≡ false → v ≡ None
no-rule None e f = refl
no-rule (Some r) e f = true-and-false e f

pub some-rule : {told : Bool} (v : Option RuleNo) → told ≡ is_some v → told ≡ true → (r : RuleNo) × (v ≡ Some r)
some-rule None e f = true-and-false f e
some-rule (Some r) e f = (r, refl)

module _ {b : Book} {c d : Tables} (few : count b ≤ 255) (long : Sized c) (v : Option RuleNo) (k : Ends b true c d (picked v)) {told : Bool} (t : told ≡ is_some v) where
  pub closes-calm : told ≡ false → Closes b c d × (clashed b (pair d) ≡ none)
  closes-calm e =
      let (q, f) = ends-calm k (ap picked (no-rule v t e)) in
      let z : Closes b c d = record { few = few; sized = long; closed = q } in
      (z, clash-told z f (no-rule v t e))

  pub closes-clash : told ≡ true → Closes b c (close b c) × (q : RuleNo) × (clashed b (pair (close b c)) ≡ one q)
  closes-clash e = let (q, m) = ends-clash k (ap picked (some-rule v t e).1) in (record { few = few; sized = long; closed = refl }, q, m)

  -- the walk meets it: the origin that is kept leads to its rule
  pub walk-left : (p : Set Atoms) (w : Wanted) (s : State) → s.tally.halt ≡ Going → s.tally.tries < w.limit → told ≡ true
      → (on off origin : List ℕ) → pair d ≡ lent (listed on) (listed off) → origin_in origin ≡ coloured (listed on) (listed off)
      → {t : Tally} → t ≡ record { tries = s.tally.tries + 1; sets = s.tally.sets; clash = rule_no 0; halt = Going }
      → record { tally = told_clash b origin t; out = s.out } ≡ run b w s (counted_by b p (events b c))
  unfolding on_pick
  walk-left p w s going h e on off origin y z f =
      let (closes, q, m) = closes-clash e in
      let found = ap (λ (x : Tables). clashed b (pair (close b x))) z ∙ ends-origin b few long k on off y ∙ m in
      let rule : clash_of b origin (rule_no 0) ≡ q = clash-some b origin (rule_no 0) (λ n. omega arith) found in
      walk-clash b p w s c going h closes m
      (ap (told_clash b origin) f ∙ (λ i. record { tries = s.tally.tries + 1; sets = s.tally.sets; clash = rule i; halt = Going }))
