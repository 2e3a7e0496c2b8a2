-- A paper that a book has no reading beside the other answers: by no checker that is sound does a book have such a paper and one about an
-- atom; it is stopped exactly where finding is; where naming or clearing tells 11 it is written, or only its length stops it, and back.
-- And what it says of a text that a book was made of, and of two books that were joined.
use mathlib.Core.Path.{◌≡◌, sym, ◌∙◌}
use mathlib.Core.Logic.{◌⊎◌, inl, inr, ⊎_elim, ◌↔◌}
use mathlib.Core.List.{List}
use Prim.Native.Nat.{ℕ, ◌≤◌}
use native.Mathlib.Omega.{arith}
use lib.ListN.{length}
use Rattle.meaning.specs.declared.AtomNo.{AtomNo}
use Rattle.meaning.specs.declared.kind.Kind.{Kind}
use Rattle.meaning.specs.declared.kind.Claim.TheVariants.{NoReading}
use Rattle.meaning.specs.Books.{Book}
use Rattle.meaning.specs.Joined.{joined, Own, SomeAnswer}
use Rattle.meaning.specs.Claim.{Contrary}
use Rattle.meaning.specs.Paper.{paper_bytes}
use Rattle.meaning.specs.Told.{refused, fewer, stopped}
use Rattle.meaning.specs.Written.{nothing}
use Rattle.meaning.proofs.Claims.{claim-holds}
use Rattle.meaning.proofs.Joined.{joined-some-answer}
use Rattle.meaning.proofs.Tests.{lt-or-le, apart}
use Rattle.walk.specs.Events.{events}
use Rattle.walk.specs.Tries.{Needs, last_clash}
use Rattle.writer.specs.PaperNeeds.{bare_for}
use Rattle.writer.specs.Write.{paper}
use Rattle.checker.specs.Numbers.{accepted, no_reading}
use Rattle.imported.specs.Text.{TextAtoms, Text}
use Rattle.imported.specs.Answers.{Obeying}
use Rattle.imported.specs.Making.{made_book, back, forth}
use Rattle.imported.proofs.Imports.{import-sound, import-complete}
use Rattle.demands.specs.Engine.{Engine}
use Rattle.demands.specs.Demand2.{Call, Asking, Demand2}
use Rattle.demands.specs.Demand3.{Sound}
use Rattle.demands.specs.DemandNone.{Contradictor, Checker, NoneCall, SoundNone, DemandNone}
use Rattle.demands.proofs.Damaged.{good-is}

-- "no book has an accepted paper of this kind and one of another"
pub none-or-name : (check : Checker) → SoundNone check → (q : Kind) (e : Engine) → Sound q e → (book s t : List ℕ) (a : AtomNo)
    → check book s ≡ no_reading → e.check book t ≡ accepted q a → ⊥
none-or-name check none q e sound book s t a p r =
    let (b, g, f) = none book s p in
    let (x, i, (d, h, holds)) = sound book t a r in
    let (y, answer) = ((claim-holds b q a).1 (rw (sym (good-is book h) ∙ good-is book g) at holds)).one in
    f y answer

module _ (e : Engine) (two : Demand2 e) (f : Contradictor) (check : Checker) (d : DemandNone f check) (book : List ℕ) (b : Book)
    (limit : ℕ) (buffer : List ℕ) where
  -- 9 comes exactly where finding gives 9
  pub nine-as-finding : (answer : List ℕ) → Call book b 1 answer
      → ((f book limit buffer).told ≡ stopped limit) ↔ ((e.find book 1 limit answer).told ≡ stopped limit)
  nine-as-finding answer c =
      let (p, q) = d.stops book b limit buffer c.bytes c.good_book in
      let (u, v) = two.stops book b 1 limit answer c in
      (λ z. v (p z), λ z. q (u z))

  -- 11 of a naming or a clearing, and this paper, or 14
  pub eleven-has-paper : (q : Kind) (a : AtomNo) (out : List ℕ) → Asking book b a → (n : ℕ) → Needs b (events b nothing) 1 n → n ≤ limit
      → ((e.write q book a limit out).told ≡ fewer n 0 (last_clash (events b nothing)))
      ↔ (((f book limit buffer).told ≡ paper n (length (bare_for b NoReading))) ⊎ ((f book limit buffer).told ≡ refused 14))
  eleven-has-paper q a out c n needs h = (
    λ z. written ((two.asking-fewer q book b a limit out c n needs h).0 z),
    λ z. (two.asking-fewer q book b a limit out c n needs h).1
        (λ x answer. unwritten ((d.tells-reading book b limit n buffer call).1 (x, answer)) z),
  )
    where
      call : NoneCall book b limit n
      call = record { bytes = c.bytes; good_book = c.good_book; needs = needs; within = h }

      written : Contrary b
          → ((f book limit buffer).told ≡ paper n (length (bare_for b NoReading))) ⊎ ((f book limit buffer).told ≡ refused 14)
      written g = ⊎_elim (λ l. inr ((d.tells-length book b limit n buffer call g).1 (inl l)))
          (λ l. ⊎_elim (λ m. inr ((d.tells-length book b limit n buffer call g).1 (inr m)))
          (λ m. inl (d.writes book b limit n buffer call g l m).1) (lt-or-le paper_bytes (length (bare_for b NoReading))))
          (lt-or-le (length buffer) (length (bare_for b NoReading)))

      unwritten : (f book limit buffer).told ≡ refused 38
          → ((f book limit buffer).told ≡ paper n (length (bare_for b NoReading))) ⊎ ((f book limit buffer).told ≡ refused 14) → ⊥
      unwritten p z = ⊎_elim (λ w. let u = sym p ∙ w in apart (cc))
          (λ w. let u = sym p ∙ w in let n : ◌≡◌ {A = ℕ} 38 14 = cc in omega arith) z

-- ---- of imported texts and joined books

-- the book made has no answer set exactly if no set obeys the text (I3, I4)
pub contrary-imported : (t : Text) → Contrary (made_book t) ↔ ((y : TextAtoms) → Obeying t y → ⊥)
contrary-imported t = (
  λ f y o. f (forth t y) (import-complete t y o),
  λ f x answer. f (back t x) (import-sound t x answer),
)

-- the joined book has none exactly if not both have one (J3)
pub contrary-joined : (b c : Book) → Own b → Contrary (joined b c) ↔ (SomeAnswer b → SomeAnswer c → ⊥)
contrary-joined b c own = (
  λ f x y. let (z, answer) = (joined-some-answer b c own).1 (x, y) in f z answer,
  λ f z answer. let (x, y) = (joined-some-answer b c own).0 (z, answer) in f x y,
)
