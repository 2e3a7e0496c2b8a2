-- The tries that a call needs (specs/Tries): the k-th reading of the walk, where there is one, stands at one place only, and it is the k-th
-- of the readings. By induction over the events before it.
use mathlib.Core.Path.{◌≡◌, refl, sym, ◌∙◌, ap}
use mathlib.Core.Logic.{◌⊎◌, inl, inr, ⊎_elim, ⊎_map}
use mathlib.Core.List.{List, [], ◌∷◌, ◌++◌}
use Prim.Native.Nat.{ℕ, zero, suc, ◌+◌, ◌-◌, ◌≤◌, ◌<◌}
use native.Mathlib.Omega.{arith}
use lib.ListN.{length, get_or, take, drop, length-append}
use lib.Seq.{get_or_at, take_at, drop_at, take-append_seam, take-append-add}
use Rattle.meaning.specs.Written.{Tables}
use Rattle.meaning.specs.Books.{Atoms, Book}
use Rattle.meaning.proofs.Tests.{lt-or-le}
use Rattle.walk.specs.Events.{Event, clash, fork, reading, quiet}
use Rattle.walk.specs.Readings.{reading_of, readings_in}
use Rattle.walk.specs.Tries.{Kth, Needs, to-reading, to_end}
use Rattle.walk.proofs.Readings.{readings-append}

module _ (b : Book) where
  -- how many readings there are among some events
  abbrev pub amount : List Event → ℕ
  amount es = length (readings_in b es)

  amount-append : (es fs : List Event) → amount (es ++ fs) ≡ amount es + amount fs
  amount-append es fs = rw readings-append (length-append (readings_in b es) (readings_in b fs))

  amount-reading : (d : Tables) (es : List Event) → amount (reading d ∷ es) ≡ suc (amount es)
  unfolding readings_in
  amount-reading d es = refl

  pub amount-last : (es : List Event) (d : Tables) → amount (es ++ (reading d ∷ [])) ≡ amount es + 1
  unfolding readings_in
  amount-last es d = amount-append es (reading d ∷ [])

  -- ---- the k-th reading among some events

  pub record Met (es : List Event) (k : ℕ) : Type 0 where
    pub earlier : List Event
    pub found : Tables
    pub later : List Event
    pub walk : es ≡ earlier ++ (reading found ∷ later)
    pub number : k ≡ amount earlier + 1

  met-later : (e : Event) {es : List Event} {k : ℕ} (m : Met es k) (n : ℕ) → n ≡ amount (e ∷ m.earlier) + 1 → Met (e ∷ es) n
  met-later e m n h = record {
    earlier = e ∷ m.earlier;
    found = m.found;
    later = m.later;
    walk = ap (λ (l : List Event). e ∷ l) m.walk;
    number = h;
  }

  met-or-fewer : (es : List Event) (k : ℕ) → 1 ≤ k → Met es k ⊎ (amount es < k)
  unfolding readings_in
  met-or-fewer [] k h = inr h
  met-or-fewer (clash r ∷ es) k h = ⊎_map (λ m. met-later (clash r) m k m.number) (λ g. g) (met-or-fewer es k h)
  met-or-fewer (fork r ∷ es) k h = ⊎_map (λ m. met-later (fork r) m k m.number) (λ g. g) (met-or-fewer es k h)
  met-or-fewer (quiet ∷ es) k h = ⊎_map (λ m. met-later quiet m k m.number) (λ g. g) (met-or-fewer es k h)
  met-or-fewer (reading d ∷ es) zero h = absurd (omega arith)
  met-or-fewer (reading d ∷ es) (suc zero) h = inl (record { earlier = []; found = d; later = es; walk = refl; number = refl })
  met-or-fewer (reading d ∷ es) (suc (suc k)) h = ⊎_map
      (λ m. met-later (reading d) m (suc (suc k)) (omega (arith, m.number))) (λ g. omega arith) (met-or-fewer es (suc k) (omega arith))

  -- ---- two ways to part one list of events

  -- a reading behind e is among the events of a longer beginning f
  pub parted-more : (e : List Event) (d : Tables) (later f es : List Event) → e ++ (reading d ∷ later) ≡ f ++ es → length e < length f
      → amount e < amount f
  parted-more e d later f es q h =
      let n = length f - suc (length e) in
      let z : length f ≡ length e + suc n = omega arith in
      let p : f ≡ take (length f) (e ++ (reading d ∷ later)) = rw (q, take-append_seam f es) in
      let g : f ≡ e ++ (reading d ∷ take n later) = p ∙ ap (λ (m : ℕ). take m (e ++ (reading d ∷ later))) z ∙ take-append-add e _ (suc n) in
      omega (arith, ap amount g, amount-append e (reading d ∷ take n later), amount-reading d (take n later))

  met-one : {es : List Event} {k : ℕ} (m n : Met es k) → (m.earlier ≡ n.earlier) × (m.found ≡ n.found)
  met-one m n =
      let q = sym m.walk ∙ n.walk in
      let g = parted-more m.earlier m.found m.later n.earlier _ q in
      let h = parted-more n.earlier n.found n.later m.earlier _ (sym q) in
      let l : length m.earlier ≡ length n.earlier = equal g h (omega (arith, m.number, n.number)) in
      let u = reading m.found ∷ m.later in let v = reading n.found ∷ n.later in let i = length m.earlier in
      let p = sym (take_at m.earlier u i refl) ∙ ap (take i) q ∙ take_at n.earlier v i (sym l) in
      let r : u ≡ v = sym (drop_at m.earlier u i refl) ∙ ap (drop i) q ∙ drop_at n.earlier v i (sym l) in
      (p, cc)
    where
      equal : {i j u v : ℕ} → (i < j → u < v) → (j < i → v < u) → u ≡ v → i ≡ j
      equal {i} {j} f g e = ⊎_elim (λ h. absurd (omega (arith, f h)))
          (λ h. ⊎_elim (λ l. absurd (omega (arith, g l))) (λ l. omega arith) (lt-or-le j i)) (lt-or-le i j)

  -- ---- the k-th reading of a walk

  kth-met : {es : List Event} {k t : ℕ} {x : Atoms} → Kth b es k t x → Met es k
  kth-met c = record { earlier = c.earlier; found = c.found; later = c.later; walk = c.walk; number = c.number }

  pub kth-one : {es : List Event} {k t u : ℕ} {x y : Atoms} → Kth b es k t x → Kth b es k u y → (t ≡ u) × (x ≡ y)
  unfolding kth-met
  kth-one c d =
      let (p, q) = met-one (kth-met c) (kth-met d) in
      (c.try ∙ ap (λ (l : List Event). length l + 1) p ∙ sym d.try, c.set ∙ ap (reading_of b) q ∙ sym d.set)

  kth-splits : {es : List Event} {k t : ℕ} {x : Atoms} (c : Kth b es k t x)
      → readings_in b es ≡ readings_in b c.earlier ++ (reading_of b c.found ∷ readings_in b c.later)
  unfolding readings_in
  kth-splits c = ap (readings_in b) c.walk ∙ readings-append b c.earlier (reading c.found ∷ c.later)

  pub kth-count : {es : List Event} {k t : ℕ} {x : Atoms} → Kth b es k t x → k ≤ length (readings_in b es)
  kth-count c =
      let l = readings_in b c.earlier in let m = reading_of b c.found ∷ readings_in b c.later in
      omega (arith, ap length (kth-splits c), length-append l m, c.number)

  -- it is the k-th of the readings
  pub kth-reading : {es : List Event} {k t : ℕ} {x : Atoms} → Kth b es k t x → (z : Atoms) → get_or (readings_in b es) (k - 1) z ≡ x
  kth-reading {k = k} c z =
      ap (λ (l : List Atoms). get_or l (k - 1) z) (kth-splits c)
      ∙ get_or_at (readings_in b c.earlier) (reading_of b c.found) (readings_in b c.later) z (k - 1) (omega (arith, c.number))
      ∙ sym c.set

  pub kth-or-fewer : (es : List Event) (k : ℕ) → 1 ≤ k → ((t : ℕ) × (x : Atoms) × Kth b es k t x) ⊎ (length (readings_in b es) < k)
  kth-or-fewer es k h = ⊎_map (λ m. (
    length m.earlier + 1,
    reading_of b m.found,
    record {
      earlier = m.earlier;
      found = m.found;
      later = m.later;
      walk = m.walk;
      try = refl;
      number = m.number;
      set = refl;
    },
  )) (λ g. g) (met-or-fewer es k h)

  -- ---- the tries that a call needs

  pub needs-some : (es : List Event) (k : ℕ) → 1 ≤ k → (n : ℕ) × Needs b es k n
  needs-some es k h = ⊎_elim (λ (t, x, c). (t, to-reading c)) (λ g. (length es, to_end g)) (kth-or-fewer es k h)

  pub needs-one : {es : List Event} {k m n : ℕ} → Needs b es k m → Needs b es k n → m ≡ n
  needs-one (to-reading c) (to-reading d) = (kth-one c d).0
  needs-one (to-reading c) (to_end h) = absurd (omega (arith, kth-count c))
  needs-one (to_end h) (to-reading d) = absurd (omega (arith, kth-count d))
  needs-one (to_end h) (to_end g) = refl
