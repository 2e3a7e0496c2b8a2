-- Demands 1 and 2 of a call that lends a list of shown atoms. Document 02, request 3: "two readings differ only if they differ in one of
-- those. The k-th reading is then the k-th answer set in walk order that no earlier one matches on the shown atoms, and demand 2's "each
-- given once" and "fewer", with refusal 11's count, speak of readings so." Demand 3 keeps speaking of answer sets.
--
--   Finder                     whoever answers such calls, whatever it is made of: of the book, k, the limit, the list and the buffer lent
--   ShownCall book b k shown answer   a call whose book, numbers, list and room are good
--   ListGood b s               (of walk) the list of shown atoms ascends, and each is an atom of the book
--   AllShown b s l             (of walk) without a walk: the list l holds of the answer sets that match on s just the first, in their order
--   shown_events b s            (of walk) the tries of the fixed walk, where a reading that an earlier one matches counts as none
--   Needs b es k n, last_clash es   (of walk) as in demand 2
--
-- There is always one such list and one such number of tries (proofs/Shown), so nothing is said of no call.
use Rattle.std.specs.Prelude.{◌≡◌, List, ◌++◌, map, ◌↔◌, ℕ, ◌-◌, ◌≤◌, ◌<◌, length, get_or, drop}
use Rattle.meaning.specs.declared.AtomNo.{AtomNo}
use Rattle.meaning.specs.Books.{Atoms, Book, atom_no}
use Rattle.meaning.specs.Told.{refused_at, refused, fewer, stopped, Answered}
use Rattle.book.specs.Rows.{Bytes}
use Rattle.walk.specs.Tries.{Needs, last_clash}
use Rattle.walk.specs.Run.{row_of}
use Rattle.walk.specs.Find.{set}
use Rattle.walk.specs.Shown.{ListGood, AllShown, shown_events}
use Rattle.demands.specs.Damaged.{GoodBook, DamagedBook}

abbrev pub Finder : Type 0
Finder = List ℕ → ℕ → ℕ → List ℕ → List ℕ → Answered ℕ

abbrev pub atoms : List ℕ → List AtomNo
atoms shown = map atom_no shown

pub record ShownCall (book : List ℕ) (b : Book) (k : ℕ) (shown answer : List ℕ) : Type 0 where
  pub bytes : Bytes book
  pub good_book : GoodBook book b
  pub good-number : 0 < k
  pub good-list : ListGood b (atoms shown)
  pub good-room : b.atoms ≤ length answer

-- demand 1: each number exactly where its row holds, and every lent byte as it was on any answer but success
pub record RefusesShown (f : Finder) : Type 0 where
  pub shown-book : (book : List ℕ) (k limit : ℕ) (shown answer : List ℕ) (i at : ℕ)
      → ((f book k limit shown answer).told ≡ refused_at i at) ↔ DamagedBook book i at
  pub shown-number : (book : List ℕ) (k limit : ℕ) (shown answer : List ℕ)
      → ((f book k limit shown answer).told ≡ refused 15) ↔ ((b : Book) × GoodBook book b × (k ≡ 0))
  -- "16, no place, list out of range or out of order, after 15 and before 8"
  pub shown-list : (book : List ℕ) (k limit : ℕ) (shown answer : List ℕ)
      → ((f book k limit shown answer).told ≡ refused 16) ↔ ((b : Book) × GoodBook book b × (0 < k) × ¬ ListGood b (atoms shown))
  pub shown-room : (book : List ℕ) (k limit : ℕ) (shown answer : List ℕ)
      → ((f book k limit shown answer).told ≡ refused 8)
      ↔ ((b : Book) × GoodBook book b × (0 < k) × ListGood b (atoms shown) × (length answer < b.atoms))
  pub shown-keeps : (book : List ℕ) (k limit : ℕ) (shown answer : List ℕ)
      → ((t : ℕ) → (f book k limit shown answer).told ≡ set t → ⊥) → (f book k limit shown answer).buffer ≡ answer

-- demand 2, word for word as of finding
abbrev pub GivesShown : Finder → Type 0
GivesShown f = (book : List ℕ) (b : Book) (k limit : ℕ) (shown answer : List ℕ) → ShownCall book b k shown answer
    → (l : List Atoms) → AllShown b (atoms shown) l → (n : ℕ) → Needs b (shown_events b (atoms shown)) k n → n ≤ limit → k ≤ length l
    → ((f book k limit shown answer).told ≡ set n)
    × ((x : Atoms) → (f book k limit shown answer).buffer ≡ row_of b (get_or l (k - 1) x) ++ drop b.atoms answer)

abbrev pub ShownStops : Finder → Type 0
ShownStops f = (book : List ℕ) (b : Book) (k limit : ℕ) (shown answer : List ℕ) → ShownCall book b k shown answer
    → ((f book k limit shown answer).told ≡ stopped limit) ↔ ((n : ℕ) × Needs b (shown_events b (atoms shown)) k n × (limit < n))

abbrev pub ShownFewer : Finder → Type 0
ShownFewer f = (book : List ℕ) (b : Book) (k limit : ℕ) (shown answer : List ℕ) → ShownCall book b k shown answer
    → (l : List Atoms) → AllShown b (atoms shown) l → (n : ℕ) → Needs b (shown_events b (atoms shown)) k n → n ≤ limit
    → ((f book k limit shown answer).told ≡ fewer n (length l) (last_clash (shown_events b (atoms shown)))) ↔ (length l < k)

pub record DemandShown (f : Finder) : Type 0 where
  pub refuses : RefusesShown f
  pub gives-shown : GivesShown f
  pub stops : ShownStops f
  pub tells-fewer : ShownFewer f
