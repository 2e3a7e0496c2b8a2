-- The sentences of request 9 leave nothing open: whoever keeps them joins and logs as we do, to the byte. For each call one answer is found
-- that every engine gives of which they hold; ours is one of them. Document 01, "What the promises say".
use mathlib.Core.Path.{◌≡◌, refl, sym, ◌∙◌}
use mathlib.Core.Logic.{inl, inr, ⊎_elim}
use mathlib.Core.List.{List}
use Prim.Native.Nat.{ℕ, ◌+◌}
use lib.ListN.{length}
use Rattle.meaning.specs.Books.{Book, count}
use Rattle.meaning.specs.Told.{Told, success, refused, Answered}
use Rattle.meaning.proofs.Tests.{lt-or-le, apart}
use Rattle.book.specs.Rows.{Bytes}
use Rattle.crews.specs.Join.{of_book, only, joined_bytes, join_of}
use Rattle.crews.specs.Log.{Entry, log_of}
use Rattle.crews.specs.Rows.{Together, TooMany, TooShort, Fitting, Logs, within_both, first_passes, second-passes}
use Rattle.demands.specs.Damaged.{GoodBook}
use Rattle.demands.specs.TwoCrews.{Crews, our_crews, TwoCrews}
use Rattle.demands.proofs.Damaged.{every-book}
use Rattle.demands.proofs.OurCrews.{our-crews}

-- 17, 19 or neither
room-decided : {A : Type 0} (b c : Book) (room : ℕ) → (TooMany b c → A) → (TooShort b c room → A) → (Fitting b c room → A) → A
room-decided b c room many short fits = ⊎_elim (λ h. many (inl h))
    (λ h. ⊎_elim (λ g. many (inr g))
    (λ g. let t : Together b c = record { atoms = h; rules = g } in
    ⊎_elim (λ k. short (t, k)) (λ k. fits (t, k)) (lt-or-le room (length (joined_bytes b c)))) (lt-or-le 255 (count b + count c)))
    (lt-or-le 255 (b.atoms + c.atoms))

-- ---- joining

module _ (first second out : List ℕ) where
  Joins : Answered ℕ → Type 0
  Joins a = (e : Crews) → TwoCrews e → e.join first second out ≡ a

  leaves : (t : Told ℕ) → ((n : ℕ) → t ≡ success n → ⊥) → ((e : Crews) → TwoCrews e → (e.join first second out).told ≡ t) → Joins (only out t)
  unfolding Joins
  leaves t n f e d =
      let told = f e d in
      let kept = d.join-keeps first second out (λ m z. n m (sym told ∙ z)) in
      λ i. record { told = told i; buffer = kept i }

  of-good : {b c : Book} → GoodBook first b → GoodBook second c → (a : Answered ℕ) × Joins a
  unfolding Joins
  of-good {b} {c} g h = room-decided b c (length out)
      (λ m. (_, leaves (refused 17) (λ n z. apart cc) (λ e d. (d.join-many first second out).1 (b, c, g, h, m))))
      (λ m. (_, leaves (refused 19) (λ n z. apart cc) (λ e d. (d.join-room first second out).1 (b, c, g, h, m))))
      (λ m. (_, λ e d. d.joins first second out b c g h m))

  joined-one : (a : Answered ℕ) × Joins a
  joined-one = ⊎_elim
      (λ (b, g). ⊎_elim (λ (c, h). of-good g h)
      (λ (i, at, p). (_, leaves (of_book 2 i at) (λ n z. apart cc) (λ e d. (d.join-second first second out i at).1 (b, g, p)))) (every-book second))
      (λ (i, at, p). (_, leaves (of_book 1 i at) (λ n z. apart cc) (λ e d. (d.join_first first second out i at).1 p))) (every-book first)

  pub join-only : (e : Crews) → TwoCrews e → e.join first second out ≡ join_of first second out
  unfolding Joins
  join-only e d = let (a, f) = joined-one in f e d ∙ sym (f our_crews our-crews)

-- ---- logging

module _ (first second : List ℕ) (bytes : Bytes first) (others : Bytes second) (limit other : ℕ) (out : List ℕ) where
  Enters : Answered Entry → Type 0
  Enters a = (e : Crews) → TwoCrews e → e.log first second limit other out ≡ a

  stays : (t : Told Entry) → ((v : Entry) → t ≡ success v → ⊥) → ((e : Crews) → TwoCrews e → (e.log first second limit other out).told ≡ t)
      → Enters (only out t)
  unfolding Enters
  stays t n f e d =
      let told = f e d in
      let kept = d.log-keeps first second limit other out (λ v z. n v (sym told ∙ z)) in
      λ i. record { told = told i; buffer = kept i }

  module _ {b c : Book} (g : GoodBook first b) (h : GoodBook second c) where
    searched-one : Fitting b c (length out) → {t : Told Entry} → Logs b c limit other (length (joined_bytes b c)) t
        → (a : Answered Entry) × Enters a
    unfolding Enters
    searched-one fits (within_both {e = v} p q s) = (
      _,
      λ e d.
          let told = (d.logs first second limit other out bytes others b c g h fits (success v)).1 (within_both p q s) in
          let there = d.log-writes first second limit other out b c g h v told in
          λ i. record { told = told i; buffer = there i },
    )
    searched-one fits (first_passes p) = (
      _,
      stays _ (λ v z. apart cc) (λ e d. (d.logs first second limit other out bytes others b c g h fits _).1 (first_passes p)),
    )
    searched-one fits (second-passes p q) = (
      _,
      stays _ (λ v z. apart cc) (λ e d. (d.logs first second limit other out bytes others b c g h fits _).1 (second-passes p q)),
    )

    entered : (a : Answered Entry) × Enters a
    entered = room-decided b c (length out)
        (λ m. (_, stays (refused 17) (λ v z. apart cc) (λ e d. (d.log-many first second limit other out).1 (b, c, g, h, m))))
        (λ m. (_, stays (refused 19) (λ v z. apart cc) (λ e d. (d.log-room first second limit other out).1 (b, c, g, h, m))))
        (λ m. searched-one m ((our-crews.logs first second limit other out bytes others b c g h m _).0 refl))

  logged-one : (a : Answered Entry) × Enters a
  logged-one = ⊎_elim
      (λ (b, g). ⊎_elim (λ (c, h). entered g h)
      (λ (i, at, p). (
        _,
        stays (of_book 2 i at) (λ v z. apart cc) (λ e d. (d.log-second first second limit other out i at).1 (b, g, p)),
      )) (every-book second))
      (λ (i, at, p). (_, stays (of_book 1 i at) (λ v z. apart cc) (λ e d. (d.log-first first second limit other out i at).1 p)))
      (every-book first)

  pub log-only : (e : Crews) → TwoCrews e → e.log first second limit other out ≡ log_of first second limit other out
  unfolding Enters
  log-only e d = let (a, f) = logged-one in f e d ∙ sym (f our_crews our-crews)
