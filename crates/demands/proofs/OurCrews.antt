-- Our join and log keep the sentences of request 9 (specs/TwoCrews): from the rows and answers of crews, and from the laws of joined books
-- of meaning. What is told of two good books is followed down; the book that is written is read back as the joined book, and what holds of
-- that book in all answer sets is what the laws say.
use mathlib.Core.Path.{◌≡◌, refl, sym, ◌∙◌, ap, subst}
use mathlib.Core.Logic.{◌⊎◌, ◌↔◌, ⊎_elim}
use mathlib.Core.List.{List}
use Prim.Native.Nat.{ℕ, ◌<◌}
use lib.ListN.{length, take}
use Rattle.meaning.specs.declared.AtomNo.{AtomNo}
use Rattle.meaning.specs.declared.kind.Kind.{Kind}
use Rattle.meaning.specs.declared.kind.Kind.TheVariants.{Naming, Clearing}
use Rattle.meaning.specs.Books.{Book}
use Rattle.meaning.specs.Claim.{Holding}
use Rattle.meaning.specs.Joined.{up_atom, joined, Own, SomeAnswer}
use Rattle.meaning.specs.Told.{Told, success, Answered}
use Rattle.meaning.proofs.Told.{success-one}
use Rattle.meaning.proofs.Joined.{joined-answers, certain-first, clear_first, certain-second, clear_second}
use Rattle.meaning.proofs.Joined.{none-in-first, none-in-second}
use Rattle.book.specs.Rows.{Bytes}
use Rattle.book.proofs.Joined.{fits-own}
use Rattle.crews.specs.Join.{of_book, joined_bytes, written, join_of}
use Rattle.crews.specs.Log.{Entry, log_in, log_of}
use Rattle.crews.specs.Rows.{Together, Fitting, Says, both-have, first-has-none, second-has-none, neither-has, Logs, within_both}
use Rattle.crews.proofs.Laying.{Leaves, join-joins, join-fitting, log-fitting, join-leaves, log-leaves, leaves-written, leaves-behind}
use Rattle.crews.proofs.Rows.{join-first-refused, join-second-refused, join-17, join-19, join-of-good, join-keeps, joined-good-book}
use Rattle.crews.proofs.Rows.{log-first-refused, log-second-refused, log-17, log-19, log-of-good, log-keeps}
use Rattle.crews.proofs.Answers.{log-exactly}
use Rattle.demands.specs.Damaged.{GoodBook, DamagedBook}
use Rattle.demands.specs.TwoCrews.{our_crews, length_in, OneBook, TwoCrews}
use Rattle.demands.proofs.Damaged.{bad-damaged, damaged-bad}
use Rattle.demands.proofs.Calls.{along, book-fits}

-- ---- what holds of the joined book

module _ (b c : Book) (own : Own b) where
  holding-first : (q : Kind) (a : AtomNo) → a.0 < b.atoms → Holding q (joined b c) a ↔ (Holding q b a × SomeAnswer c)
  unfolding Holding
  holding-first Naming a = certain-first b c own a
  holding-first Clearing a = clear_first b c own a

  holding-second : (q : Kind) (a : AtomNo) → Holding q (joined b c) (up_atom b.atoms a) ↔ (Holding q c a × SomeAnswer b)
  unfolding Holding
  holding-second Naming a = certain-second b c own a
  holding-second Clearing a = clear_second b c own a

  holding-neither : (q : Kind) (a : AtomNo) → ((SomeAnswer b → ⊥) ⊎ (SomeAnswer c → ⊥)) → Holding q (joined b c) a → ⊥
  unfolding Holding
  holding-neither Naming a n t = ⊎_elim (λ f. none-in-first b c own f t) (λ f. none-in-second b c own f t) n
  holding-neither Clearing a n t = ⊎_elim (λ f. none-in-first b c own f t) (λ f. none-in-second b c own f t) n

module _ {first second : List ℕ} (bytes : Bytes first) (others : Bytes second) {b c : Book} (g : GoodBook first b) (h : GoodBook second c)
  where
    one-book : Together b c → OneBook b c (joined_bytes b c)
    one-book t =
        let own = fits-own b (book-fits g bytes) in
        record {
          book = joined b c;
          good = joined-good-book (book-fits g bytes) (book-fits h others) t;
          unions = joined-answers b c own;
          in-first = holding-first b c own;
          in-second = holding-second b c own;
          in-neither = holding-neither b c own;
        }

    -- of whatever writes the joined book at the front
    written-means : {S : Type 0} {out : List ℕ} {a : Answered S} → Leaves b c out a → Fitting b c (length out) → {v : S} → a.told ≡ success v
        → {n : ℕ} → n ≡ length (joined_bytes b c) → OneBook b c (take n a.buffer)
    written-means {out = out} {a} l fits e z =
        subst (OneBook b c) (sym (ap (λ (i : ℕ). take i a.buffer) z ∙ leaves-written b c out l e)) (one-book fits.0)

-- ---- join

module _ (first second out : List ℕ) where
  joined-first : (i at : ℕ) → ((join_of first second out).told ≡ of_book 1 i at) ↔ DamagedBook first i at
  joined-first i at =
      let r = join-first-refused first second out i at in (λ e. bad-damaged first (r.0 e), λ d. r.1 (damaged-bad first d))

  joined-second : (i at : ℕ) → ((join_of first second out).told ≡ of_book 2 i at) ↔ ((b : Book) × GoodBook first b × DamagedBook second i at)
  joined-second i at = let r = join-second-refused first second out i at in (
    λ e. let (b, g, p) = r.0 e in (b, g, bad-damaged second p),
    λ (b, g, d). r.1 (b, g, damaged-bad second d),
  )

  joined-means : Bytes first → Bytes second → (b c : Book) → GoodBook first b → GoodBook second c → (n : ℕ)
      → (join_of first second out).told ≡ success n → OneBook b c (take n (join_of first second out).buffer)
  joined-means bytes others b c g h n e =
      let same = join-of-good first second out g h in
      let told = ap (λ (a : Answered ℕ). a.told) (sym same) ∙ e in
      let fits = join-fitting b c out told in
      let size = success-one (sym told ∙ ap (λ (a : Answered ℕ). a.told) (join-joins b c out fits)) in
      subst (λ (a : Answered ℕ). OneBook b c (take n a.buffer)) (sym same)
      (written-means bytes others g h (join-leaves b c out) fits told size)

-- ---- log

says-length : {b c : Book} {n : ℕ} {v : Entry} → Says b c n v → length_in v ≡ n
unfolding length_in
says-length (both-have x y) = refl
says-length (first-has-none x y) = refl
says-length (second-has-none x y) = refl
says-length (neither-has x y) = refl

logs-length : {b c : Book} {limit other n : ℕ} {v : Entry} → Logs b c limit other n (success v) → length_in v ≡ n
logs-length (within_both p q s) = says-length s

module _ (first second : List ℕ) (limit other : ℕ) (out : List ℕ) where
  logged-first : (i at : ℕ) → ((log_of first second limit other out).told ≡ of_book 1 i at) ↔ DamagedBook first i at
  logged-first i at =
      let r = log-first-refused first second limit other out i at in (λ e. bad-damaged first (r.0 e), λ d. r.1 (damaged-bad first d))

  logged-second : (i at : ℕ)
      → ((log_of first second limit other out).told ≡ of_book 2 i at) ↔ ((b : Book) × GoodBook first b × DamagedBook second i at)
  logged-second i at = let r = log-second-refused first second limit other out i at in (
    λ e. let (b, g, p) = r.0 e in (b, g, bad-damaged second p),
    λ (b, g, d). r.1 (b, g, damaged-bad second d),
  )

  module _ (b c : Book) (g : GoodBook first b) (h : GoodBook second c) where
    logged-as : log_of first second limit other out ≡ log_in b c limit other out
    logged-as = log-of-good first second limit other out g h

    told_in : {v : Entry} → (log_of first second limit other out).told ≡ success v → (log_in b c limit other out).told ≡ success v
    told_in e = ap (λ (a : Answered Entry). a.told) (sym logged-as) ∙ e

    logged-writes : (v : Entry) → (log_of first second limit other out).told ≡ success v
        → (log_of first second limit other out).buffer ≡ (written b c out v).buffer
    logged-writes v e =
        ap (λ (a : Answered Entry). a.buffer) logged-as ∙ leaves-behind b c out (log-leaves b c limit other out) (told_in e)

    module _ (bytes : Bytes first) (others : Bytes second) where
      logged-exactly : Fitting b c (length out) → (t : Told Entry)
          → ((log_of first second limit other out).told ≡ t) ↔ Logs b c limit other (length (joined_bytes b c)) t
      logged-exactly fits t = along t (ap (λ (a : Answered Entry). a.told) logged-as)
          (log-exactly b c (book-fits g bytes) (book-fits h others) limit other out fits t)

      logged-means : (v : Entry) → (log_of first second limit other out).told ≡ success v
          → OneBook b c (take (length_in v) (log_of first second limit other out).buffer)
      logged-means v e =
          let told = told_in e in
          let fits = log-fitting b c limit other out told in
          let size = logs-length ((logged-exactly fits (success v)).0 e) in
          subst (λ (a : Answered Entry). OneBook b c (take (length_in v) a.buffer)) (sym logged-as)
          (written-means bytes others g h (log-leaves b c limit other out) fits told size)

pub our-crews : TwoCrews our_crews
our-crews = record {
  join_first = joined-first;
  join-second = joined-second;
  join-many = join-17;
  join-room = join-19;
  joins = λ first second out b c g h fits. join-of-good first second out g h ∙ join-joins b c out fits;
  join-keeps = join-keeps;
  join-means = joined-means;
  log-first = logged-first;
  log-second = logged-second;
  log-many = log-17;
  log-room = log-19;
  logs = λ first second limit other out bytes others b c g h. logged-exactly first second limit other out b c g h bytes others;
  log-writes = logged-writes;
  log-keeps = log-keeps;
  log-means = λ first second limit other out bytes others b c g h. logged-means first second limit other out b c g h bytes others;
}
