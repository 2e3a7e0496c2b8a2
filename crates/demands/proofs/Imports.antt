-- The demands over imported books: our importer meets demand 1; and of any importer that does, and any engine that meets demands 2 and 3, what
-- they say of books made is so of the texts (imported's laws I1 to I6).
use mathlib.Core.Path.{◌≡◌, refl, sym, ◌∙◌, ap, fun_ext}
use mathlib.Core.Logic.{◌↔◌, inl, inr, ⊎_elim}
use mathlib.Core.Bool.{true}
use mathlib.Core.List.{List, [], ◌∷◌, map, Memᴰ}
use Prim.Native.Nat.{ℕ, ◌≤◌}
use lib.ListN.{length, take}
use lib.Seq.{take_at}
use Rattle.std.specs.Prelude.{Result, Ok, Err}
use Rattle.meaning.specs.declared.kind.Kind.{Kind}
use Rattle.meaning.specs.declared.kind.Kind.TheVariants.{Naming, Clearing}
use Rattle.meaning.specs.Books.{Atoms}
use Rattle.meaning.specs.AnswerSet.{AnswerSet, generating}
use Rattle.meaning.specs.Claim.{Holding}
use Rattle.meaning.specs.Told.{Told, success, refused_with, refused_at, refused, Answered}
use Rattle.meaning.proofs.Tests.{true-and-false, lt-or-le, proved, apart}
use Rattle.meaning.specs.Choice.{ifb, if_eq}
use Rattle.meaning.proofs.Told.{one_again, success-one, answered-one}
use Rattle.book.specs.Writing.{bytes_of_book}
use Rattle.walk.specs.Readings.{Before, Ordered, no_more, comes-first, AllReadings}
use Rattle.imported.specs.declared.TextAtom.{TextAtom}
use Rattle.imported.specs.Text.{Text}
use Rattle.imported.specs.Making.{mentioned, image, made_book, fits_in, back, forth}
use Rattle.imported.proofs.Members.{map-by, map_of}
use Rattle.imported.proofs.Fits.{test_fits}
use Rattle.imported.proofs.Imports.{import-sound, import-complete, back-forth, back_one, certain-imported, cleared-imported}
use Rattle.lparse.specs.Says.{Written, text_said, Says}
use Rattle.lparse.specs.Rows.{TooLarge}
use Rattle.lparse.specs.declared.answer.Unimported.{Unimported}
use Rattle.lparse.specs.declared.answer.Unimported.TheVariants.{Format, Kind as OtherKind, NoFit}
use Rattle.lparse.specs.Import.{told_book, import_of}
use Rattle.lparse.proofs.Rows.{refused-30, refused-31, refused-32, import-keeps, import-given}
use Rattle.demands.specs.Engine.{Engine, ours}
use Rattle.demands.specs.Demand2.{Demand2}
use Rattle.demands.specs.Demand3.{Papers}
use Rattle.demands.specs.Imports.{Importer, our_importer, ImportDemand1, MakesGood, Different, none, one_more, AllObeying, ImportDemand2, TextHolding, ImportPapers, ImportDemand3, ImportDemand3Twin}
use Rattle.demands.proofs.Determined.{equal-determined}
use Rattle.demands.proofs.Damaged.{good-is}
use Rattle.demands.proofs.Books.{good-exactly}
use Rattle.demands.proofs.Ours2.{ours-2}
use Rattle.demands.proofs.Ours3.{ours-3, ours-3-twin}

pub ours-import-1 : ImportDemand1 our_importer
ours-import-1 = record {
  format = λ s out at. refused-30 s out at;
  type = λ s out at. refused-31 s out at;
  large = λ s out. refused-32 s out;
  keeps = λ s out f. import-keeps s out f;
  gives = λ s out w h fit room. import-given s out w h fit room;
}

-- ---- a book made is good

module _ (i : Importer) (d : ImportDemand1 i) where
  -- where a book is told of a text, the text's book fits both
  within : (s out : List ℕ) (w : Written) → Says s w → (n : ℕ) → (i s out).told ≡ success n
      → (fits_in (made_book (text_said w)) ≡ true) × (length (bytes_of_book (made_book (text_said w))) ≤ length out)
  within s out w h n e = (
    proved (λ f. large (record { text = w; says = h; large = inl f })),
    ⊎_elim (λ l. absurd (large (record { text = w; says = h; large = inr l }))) (λ l. l)
        (lt-or-le (length out) (length (bytes_of_book (made_book (text_said w))))),
  )
    where
      large : TooLarge s out → ⊥
      large t = let z = sym e ∙ (d.large s out).1 t in apart (cc)

  pub makes-good : MakesGood i
  makes-good s t book m =
      let (fit, room) = within s m.room m.written m.says m.size m.told in
      let b = made_book (text_said m.written) in
      let g = d.gives s m.room m.written m.says fit room in
      let size : m.size ≡ length (bytes_of_book b) = success-one (sym m.told ∙ ap (λ (a : Answered ℕ). a.told) g) in
      let bytes : book ≡ bytes_of_book b =
      m.bytes ∙ ap (λ (a : Answered ℕ). take m.size a.buffer) g ∙ take_at (bytes_of_book b) _ m.size (sym size) in
      let (fine, good) = (good-exactly b book).1 (test_fits (text_said m.written) fit, bytes) in
      (rw m.text good, fine)

-- ---- demand 2

module _ (t : Text) where
  -- of two answer sets that come one before the other, the text's parts differ
  before-apart : (x y : Atoms) → AnswerSet (made_book t) x → AnswerSet (made_book t) y → Before (made_book t) x y
      → ((a : TextAtom) → back t x a ≡ back t y a) → ⊥
  before-apart x y p q b e =
      let same : x ≡ y = fun_ext (back_one t x y p q e) in
      true-and-false (ap (λ z. generating (made_book t) z b.at) (sym same) ∙ b.in-first) b.not-in-second

  different : (l : List Atoms) → ((x : Atoms) → Memᴰ x l → AnswerSet (made_book t) x) → Ordered (made_book t) l → Different (map (back t) l)
  different [] sound no_more = none
  different (x ∷ l) sound (comes-first f o) = one_more
      (λ y m e. let (z, k, p) = map-by (back t) l y m in
      before-apart x z (sound x (Memᴰ.head refl)) (sound z (Memᴰ.tail k)) (f z k) (λ a. e a ∙ ap (λ w. w a) p))
      (different l (λ z k. sound z (Memᴰ.tail k)) o)

  pub all-obeying : (l : List Atoms) → AllReadings (made_book t) l → AllObeying t (map (back t) l)
  all-obeying l all = record {
    sound = λ y m. let (x, k, p) = map-by (back t) l y m in rw p (import-sound t x (all.sound x k));
    complete = λ y o.
        let (x, k, agree) = all.complete (forth t y) (import-complete t y o) in
        (back t x, map_of (back t) l x k, λ a. sym (back-forth t y o a) ∙ ap (λ z. back t z a) (fun_ext agree));
    once = different l all.sound all.ordered;
  }

pub import-2 : (i : Importer) (e : Engine) → ImportDemand1 i → Demand2 e → ImportDemand2 i e
import-2 i e d f = record { makes-good = makes-good i d; engine = f; readings = λ s t book m l all. all-obeying t l all }

pub ours-import-2 : ImportDemand2 our_importer ours
ours-import-2 = import-2 our_importer ours ours-import-1 ours-2

-- ---- demand 3 and its twin

pub text-holding : (q : Kind) (t : Text) (a : TextAtom) → Memᴰ a (mentioned t) → Holding q (made_book t) (image t a) ↔ TextHolding q t a
unfolding Holding TextHolding
text-holding Naming t a m = certain-imported t a m
text-holding Clearing t a m = cleared-imported t a m

pub import-papers : (q : Kind) (i : Importer) (e : Engine) → ImportDemand1 i → Papers q e → ImportPapers q i e
import-papers q i e d p = record {
  makes-good = makes-good i d;
  engine = p;
  sound = λ s t book m paper a k f.
      let (x, y, (b, good, holding)) = p.sound book paper (image t a) f in
      let same : b ≡ made_book t = sym (good-is book good) ∙ good-is book (makes-good i d s t book m).0 in
      (text-holding q t a k).0 (rw same at holding);
  holds = text-holding q;
}

pub ours-import-3 : ImportDemand3 our_importer ours
ours-import-3 = import-papers Naming our_importer ours ours-import-1 ours-3

pub ours-import-3-twin : ImportDemand3Twin our_importer ours
ours-import-3-twin = import-papers Clearing our_importer ours ours-import-1 ours-3-twin

-- ---- the promise determines the answer and every byte

abbrev imported_at : Told ℕ → Result ℕ Unimported
imported_at (success n) = Ok n
imported_at (refused_with i l) = Err NoFit
imported_at (refused_at i at) = if_eq i 30 (Err (Format at)) (Err (OtherKind at))
imported_at (refused i) = Err NoFit

imported-again : (x : Result ℕ Unimported) → imported_at (told_book x) ≡ x
unfolding if_eq ifb
imported-again (Ok n) = refl
imported-again (Err (Format place)) = refl
imported-again (Err (OtherKind place)) = refl
imported-again (Err NoFit) = refl

module _ (text out : List ℕ) where
  abbrev ImportPromise : Result ℕ Unimported → List ℕ → Type 0
  ImportPromise r after = ◌≡◌ {A = Answered ℕ} (record { told = told_book r; buffer = after }) (import_of text out)

  pub import-determined : (r q : Result ℕ Unimported) (after other : List ℕ) → ImportPromise r after → ImportPromise q other
      → (r ≡ q) × (after ≡ other)
  import-determined r q after other p s =
      answered-one told_book (one_again told_book imported_at imported-again) r q after other (equal-determined p s)
