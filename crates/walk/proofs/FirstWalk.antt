-- The walk to answer set 1, as naming and the log make it (document 01, "then answer set 1 with limit L"): how it ends, and that the set is read back
-- from the row that it leaves.
use mathlib.Core.Path.{◌≡◌, refl, sym, ◌∙◌, ap, fun_ext}
use mathlib.Core.List.Memᴰ
use mathlib.Core.List.{List, [], ◌∷◌, ◌++◌, Memᴰ}
use Prim.Native.Nat.{ℕ, zero, suc, ◌≤◌, ◌<◌}
use native.Mathlib.Omega.{arith}
use lib.Dec.{eqb}
use lib.ListN.{length, get_or, drop, replicate}
use Rattle.meaning.specs.Books.{Atoms, Book, count}
use Rattle.meaning.specs.AnswerSet.{AnswerSet}
use Rattle.meaning.specs.Told.{Told, fewer, stopped, Answered}
use Rattle.meaning.specs.Written.{nothing}
use Rattle.meaning.proofs.Choice.{lt_no, eq_no}
use Rattle.meaning.proofs.LeastModel.{Inside}
use Rattle.walk.specs.Events.{events}
use Rattle.walk.specs.Readings.{readings_in, readings}
use Rattle.walk.specs.Tries.{Kth, Needs, last_clash}
use Rattle.walk.specs.Run.{row_of, State}
use Rattle.walk.specs.Find.{set, told_by, answered_by, find_along, find_in, first_walk}
use Rattle.walk.specs.Page.{set_in}
use Rattle.walk.specs.declared.tally.Halt.{Halt}
use Rattle.walk.specs.declared.tally.Halt.TheVariants.{Going, Full, Limit}
use Rattle.walk.proofs.Readings.{readings-append, readings-all}
use Rattle.walk.proofs.Rows.{set-in-row}
use Rattle.walk.proofs.Demand.{find-set, find-stopped, find-fewer, find-row}

-- two answers that differ in their kind
kinds : {A : Type 0} → ◌≡◌ {A = ℕ} 0 1 → A
kinds e = absurd (omega arith)

-- ---- the row that is left

-- zeros behind a list are read as what lies behind its end
zeros-behind : (l z : List ℕ) (i : ℕ) → ((j : ℕ) → get_or z j 0 ≡ 0) → get_or (l ++ z) i 0 ≡ get_or l i 0
zeros-behind [] z i f = f i
zeros-behind (x ∷ l) z zero f = refl
zeros-behind (x ∷ l) z (suc i) f = zeros-behind l z i f

abbrev zeros : ℕ → List ℕ
zeros n = replicate n 0

zeros-dropped : (n m j : ℕ) → get_or (drop n (zeros m)) j 0 ≡ 0
zeros-dropped zero zero j = refl
zeros-dropped zero (suc m) zero = refl
zeros-dropped zero (suc m) (suc j) = zeros-dropped zero m j
zeros-dropped (suc n) zero j = refl
zeros-dropped (suc n) (suc m) j = zeros-dropped n m j

module _ (b : Book) where
  pub set-in-first : (x : Atoms) → Inside b x → set_in (row_of b x ++ drop b.atoms (zeros 255)) ≡ x
  unfolding set_in
  set-in-first x inside =
      fun_ext (λ a. ap (λ (n : ℕ). eqb n 1) (zeros-behind (row_of b x) _ a.0 (zeros-dropped b.atoms 255))) ∙ set-in-row b x inside

  -- ---- readings are answer sets

  module _ (fits : count b ≤ 255) where
    pub kth-answer : {k t : ℕ} {x : Atoms} → Kth b (events b nothing) k t x → AnswerSet b x
    unfolding readings_in
    kth-answer {x = x} c = (readings-all b fits).sound x (rw (c.walk, readings-append, c.set)
        (Memᴰ.append_right (readings_in b c.earlier) (Memᴰ.head refl)))

    pub fewer-none : length (readings b) < 1 → (x : Atoms) → AnswerSet b x → ⊥
    fewer-none h x answer = let (y, m, e) = (readings-all b fits).complete x answer in none (readings b) h m
      where
        none : (l : List Atoms) → length l < 1 → {y : Atoms} → Memᴰ y l → ⊥
        none [] g m = Memᴰ.not-nil m
        none (x ∷ l) g m = omega arith

  -- ---- how the walk ends

  module _ (limit : ℕ) where
    -- what find would tell of such a walk is told by how it ended
    told-limit : (h : Halt) (s : State) → told_by h s limit ≡ stopped limit → h ≡ Limit
    unfolding told_by
    told-limit Going s e = kinds cc
    told-limit Full s e = kinds cc
    told-limit Limit s e = refl

    told-full : (h : Halt) (s : State) (t : ℕ) → told_by h s limit ≡ set t → h ≡ Full
    unfolding told_by
    told-full Going s t e = kinds cc
    told-full Full s t e = refl
    told-full Limit s t e = kinds cc

    told-going : (h : Halt) (s : State) (t n r : ℕ) → told_by h s limit ≡ fewer t n r
        → (h ≡ Going) × (s.tally.tries ≡ t) × (s.tally.clash.0 ≡ r)
    unfolding told_by
    told-going Going s t n r e = (refl, cc, cc)
    told-going Full s t n r e = kinds cc
    told-going Limit s t n r e = kinds cc

    module _ (few : b.atoms ≤ 255) where
      abbrev walked : State
      walked = first_walk b limit

      as-found : find_in b 1 limit (zeros 255) ≡ answered_by walked limit
      unfolding find_along first_walk
      as-found = eq_no _ _ _ _ (λ (e : ◌≡◌ {A = ℕ} 1 0). absurd (omega arith)) ∙ lt_no _ _ _ _ few

      told-as : {t : Told ℕ} → (find_in b 1 limit (zeros 255)).told ≡ t → told_by walked.tally.halt walked limit ≡ t
      told-as e = ap (λ (a : Answered ℕ). a.told) (sym as-found) ∙ e

      pub first-limited : {n : ℕ} → Needs b (events b nothing) 1 n → limit < n → (first_walk b limit).tally.halt ≡ Limit
      first-limited p h = told-limit _ walked (told-as ((find-stopped b (events b nothing) 1 limit (zeros 255) (omega arith) few).1 (_, p, h)))

      pub first-none : length (readings b) < 1 → length (events b nothing) ≤ limit
          → ((first_walk b limit).tally.halt ≡ Going) × ((first_walk b limit).tally.tries ≡ length (events b nothing))
          × ((first_walk b limit).tally.clash.0 ≡ last_clash (events b nothing))
      first-none p h =
          told-going _ walked _ _ _ (told-as ((find-fewer b (events b nothing) 1 limit (zeros 255) (omega arith) few _ _ _).1 (p, refl, refl, refl, h)))

      pub first_found : {t : ℕ} {x : Atoms} → Kth b (events b nothing) 1 t x → t ≤ limit
          → ((first_walk b limit).tally.halt ≡ Full) × ((first_walk b limit).out ≡ row_of b x ++ drop b.atoms (replicate 255 0))
      first_found {t} {x} p h =
          let e = (find-set b (events b nothing) 1 limit (zeros 255) (omega arith) few t).1 (x, p, h) in (
            told-full _ walked t (told-as e),
            ap (λ (a : Answered ℕ). a.buffer) (sym as-found) ∙ find-row b (events b nothing) 1 limit (zeros 255) t x e p,
          )
