-- Document 01's table for the book, said of the bytes: what 1 to 7 are given for. Reading does not go by these; the laws of
-- proofs/Refusals.antt say that it gives each number and place exactly where its row holds and no row before it does.
--
--   LengthGood, MarkGood, TrailerGood    the opposites of 1, 2 and 3; FramedBook: all three
--   RecordFits, ByteWrong                the opposite of 5; 6 and 7 of one byte
--   RecordsGood s n index r at           nothing is wrong with the first r records, and the next is to start at `at`
--   EntryWrong, RecordWrong, BytesWrong  4, 5, and 6 or 7, each with its place, in a book of n atoms, k rules and this index
--   GoodAs s n k index l                 nothing is wrong, and these are the trailer's numbers and the rules
--   GoodBook s b                         nothing is wrong, and b is the book that the bytes hold
use Rattle.std.specs.Prelude.{◌≡◌, List, ℕ, suc, ◌+◌, ◌*◌, ◌-◌, ◌≤◌, ◌<◌, length, get_or}
use Rattle.meaning.specs.Books.{Rule, Book}
use Rattle.book.specs.Format.{u16_at, rules_of, book_bytes}

-- every byte is below 256, as a byte is
abbrev pub Bytes : List ℕ → Type 0
Bytes s = (i : ℕ) → get_or s i 0 < 256

-- 1: "book under 6 or over 9,441 bytes"
pub record LengthGood (s : List ℕ) : Type 0 where
  pub at_least : 6 ≤ length s
  pub at_most : length s ≤ book_bytes

-- 2: "mark isn't 52 42"
pub record MarkGood (s : List ℕ) : Type 0 where
  pub first : get_or s (length s - 2) 0 ≡ 0x52
  pub second : get_or s (length s - 1) 0 ≡ 0x42

-- "Trailer, the last 6 bytes: atom count A, rule count R, start of the index (two bytes)"
abbrev pub atom_count : List ℕ → ℕ
atom_count s = get_or s (length s - 6) 0

abbrev pub rule_count : List ℕ → ℕ
rule_count s = get_or s (length s - 5) 0

abbrev pub index_start : List ℕ → ℕ
index_start s = u16_at s (length s - 4)

-- 3: "index start + 2R + 6 isn't the length"
abbrev pub TrailerGood : List ℕ → Type 0
TrailerGood s = index_start s + 2 * rule_count s + 6 ≡ length s

pub record FramedBook (s : List ℕ) : Type 0 where
  pub size : LengthGood s
  pub mark : MarkGood s
  pub trailer : TrailerGood s

-- the record that starts at `at`: its counts, and where it ends
abbrev pub pos_count : List ℕ → ℕ → ℕ
pos_count s at = get_or s (at + 1) 0

abbrev pub neg_count : List ℕ → ℕ → ℕ
neg_count s at = get_or s (at + 2) 0

abbrev pub record_end : List ℕ → ℕ → ℕ
record_end s at = at + (3 + pos_count s at + neg_count s at)

-- 5: "record has under 3 bytes before the index, p or n over 16, or passes the index"
pub record RecordFits (s : List ℕ) (index at : ℕ) : Type 0 where
  pub room : at + 3 ≤ index
  pub few-pos : pos_count s at ≤ 16
  pub few-neg : neg_count s at ≤ 16
  pub ends : record_end s at ≤ index

-- byte i of the record is an atom: its head, or one of its body
pub data IsAtom (s : List ℕ) (at i : ℕ) : Type 0 where
  head : i ≡ at → IsAtom s at i
  body : at + 3 ≤ i → i < record_end s at → IsAtom s at i

-- byte i of the record is an atom of the body and the byte before it belongs to the same part
pub record Follows (s : List ℕ) (at i : ℕ) : Type 0 where
  pub after : at + 3 < i
  pub inside : i < record_end s at
  pub same-part : ¬ (i ≡ at + 3 + pos_count s at)

-- "byte by byte, 6 before 7"
pub data ByteWrong (s : List ℕ) (n at i : ℕ) : ℕ → Type 0 where
  -- 6: "atom not below A"
  atom : IsAtom s at i → n ≤ get_or s i 0 → ByteWrong s n at i 6
  -- 7: "body part not ascending"
  order : Follows s at i → get_or s i 0 < n → get_or s i 0 ≤ get_or s (i - 1) 0 → ByteWrong s n at i 7

-- neither 6 nor 7 at byte i
pub record ByteGood (s : List ℕ) (n at i : ℕ) : Type 0 where
  pub below : IsAtom s at i → get_or s i 0 < n
  pub rises : Follows s at i → get_or s (i - 1) 0 < get_or s i 0

-- neither 6 nor 7 at any byte before i
abbrev pub GoodBefore : List ℕ → ℕ → ℕ → ℕ → Type 0
GoodBefore s n at i = (j : ℕ) → j < i → ByteGood s n at j

pub record RecordGood (s : List ℕ) (n index at : ℕ) : Type 0 where
  pub fits : RecordFits s index at
  pub bytes : (i : ℕ) → ByteGood s n at i

-- "Records fill the bytes before the index without a gap, in rule order"
pub data RecordsGood (s : List ℕ) (n index : ℕ) : ℕ → ℕ → Type 0 where
  none : RecordsGood s n index 0 0
  more : {r at : ℕ} → RecordsGood s n index r at → u16_at s (index + 2 * r) ≡ at → RecordGood s n index at
      → RecordsGood s n index (suc r) (record_end s at)

-- record r is looked at: the records before it are good, and the last of them ended at `at`
pub record Next (s : List ℕ) (n k index r at : ℕ) : Type 0 where
  pub due : r < k
  pub before : RecordsGood s n index r at

-- 4: "index entry isn't where the record before ended (0 for the first); or last end isn't the index"
pub data EntryWrong (s : List ℕ) (n k index : ℕ) : ℕ → Type 0 where
  entry : {r at : ℕ} → Next s n k index r at → ¬ (u16_at s (index + 2 * r) ≡ at) → EntryWrong s n k index (index + 2 * r)
  last_end : {at : ℕ} → RecordsGood s n index k at → ¬ (at ≡ index) → EntryWrong s n k index index

-- 5, at a record whose entry is right
pub data RecordWrong (s : List ℕ) (n k index : ℕ) : ℕ → Type 0 where
  misfit : {r at : ℕ} → Next s n k index r at → u16_at s (index + 2 * r) ≡ at → ¬ RecordFits s index at → RecordWrong s n k index at

-- 6 or 7, at the first byte that is wrong in a record whose entry is right and that fits
pub data BytesWrong (s : List ℕ) (n k index : ℕ) : ℕ → ℕ → Type 0 where
  byte : {r at number place : ℕ} → Next s n k index r at → u16_at s (index + 2 * r) ≡ at → RecordFits s index at
      → GoodBefore s n at place → ByteWrong s n at place number → BytesWrong s n k index number place

pub record GoodAs (s : List ℕ) (n k index : ℕ) (l : List Rule) : Type 0 where
  pub framed : FramedBook s
  pub atoms : atom_count s ≡ n
  pub rules : rule_count s ≡ k
  pub start : index_start s ≡ index
  pub records : RecordsGood s n index k index
  pub each : rules_of k s index 0 ≡ l

pub record GoodBook (s : List ℕ) (b : Book) : Type 0 where
  pub rule-count : ℕ
  pub index : ℕ
  pub bytes : GoodAs s b.atoms rule-count index b.rules
