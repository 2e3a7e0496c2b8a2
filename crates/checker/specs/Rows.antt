-- Rows 20 to 26 of document 01's table, "Numbers given back", as conditions on a book and a paper: what proofs/Refusals says of each
-- number. Nothing is computed from these; the answer is that of Check.
--
--   LengthGood, MarkGood, TrailerGood, AtomGood   the opposites of 20, 21, 22 and 23; FramedPaper: all four
--   Malformed b s from at        the four causes of 24, of the step at byte `at` where the witness starts at `from`
--   Formed b k s from at c t x   the step is well-formed: t tests its condition with the pair c, and x comes after it if it holds
--   Unheld b k s from at c       25: the step is well-formed and its condition does not hold
--   Comes b k s from at c        the checker comes to a step at byte `at` with the pair c
use Rattle.std.specs.Prelude.{◌≡◌, Bool, true, false, ◌⊎◌, ℕ, ◌+◌, ◌-◌, ◌≤◌, ◌<◌, length, get_or, take, drop}
use mathlib.Core.List.{List, [], ◌∷◌, map, Memᴰ}
use Rattle.meaning.specs.declared.AtomNo.{AtomNo}
use Rattle.meaning.specs.declared.RuleNo.{RuleNo}
use Rattle.meaning.specs.Sets.{ascending}
use Rattle.meaning.specs.Books.{atom_no, rule_no, Book, count, InBook}
use Rattle.meaning.specs.Colours.{Pair, on_side, off_side, put, start, may_on, blocked, uncoloured}
use Rattle.meaning.specs.declared.kind.Kind.{Kind}
use Rattle.meaning.specs.declared.kind.Kind.TheVariants.{Naming, Clearing}
use Rattle.meaning.specs.declared.kind.Claim.{Claim}
use Rattle.meaning.specs.declared.kind.Claim.TheVariants.{About, NoReading}
use Rattle.meaning.specs.Claim.{claim, ended}
use Rattle.meaning.specs.Choice.{if_eq}
use Rattle.meaning.specs.Paper.{unfounded, code_on, code_off, code_unfounded, code_split, code_end, Branch, paper_bytes}
use Rattle.book.specs.Format.{u16_at, part_from}
use Rattle.checker.specs.Steps.{Stepped, goes, parts, ends}

-- ---- the trailer

-- "claimed atom, count w of witness rules, start of the witness (two bytes), then 50 46"; a paper that clears ends in 50 43, and one that
-- the book has no reading in 50 4e
abbrev pub atom_of : List ℕ → AtomNo
atom_of s = atom_no (get_or s (length s - 6) 0)

abbrev pub count_of : List ℕ → ℕ
count_of s = get_or s (length s - 5) 0

abbrev pub start_of : List ℕ → ℕ
start_of s = u16_at s (length s - 4)

abbrev pub kind_of : List ℕ → Kind
kind_of s = if_eq (get_or s (length s - 1) 0) 0x43 Clearing Naming

abbrev pub claim_of : List ℕ → Claim
claim_of s = if_eq (get_or s (length s - 1) 0) 0x4e NoReading (claim (kind_of s) (atom_of s))

abbrev pub witness_bytes : List ℕ → List ℕ
witness_bytes s = take (count_of s) (drop (start_of s) s)

-- 20: "paper under 6 or over 60,000 bytes"
pub record LengthGood (s : List ℕ) : Type 0 where
  pub at_least : 6 ≤ length s
  pub at_most : length s ≤ paper_bytes

-- 21: "21 now means neither mark" (document 02, request 2), nor the third
pub record MarkGood (s : List ℕ) : Type 0 where
  pub first : get_or s (length s - 2) 0 ≡ 0x50
  pub second : (get_or s (length s - 1) 0 ≡ 0x46) ⊎ ((get_or s (length s - 1) 0 ≡ 0x43) ⊎ (get_or s (length s - 1) 0 ≡ 0x4e))

-- 22: "witness start + w + 6 isn't the length"
abbrev pub TrailerGood : List ℕ → Type 0
TrailerGood s = start_of s + count_of s + 6 ≡ length s

-- 23: "claimed atom not below A"; where no atom is claimed, its byte isn't 0
unfoldable pub ByteGood : Book → Claim → ℕ → Type 0
ByteGood b (About q a) n = a.0 < b.atoms
ByteGood b NoReading n = n ≡ 0

abbrev pub AtomGood : Book → List ℕ → Type 0
AtomGood b s = ByteGood b (claim_of s) (get_or s (length s - 6) 0)

pub record FramedPaper (b : Book) (s : List ℕ) : Type 0 where
  pub size : LengthGood s
  pub mark : MarkGood s
  pub trailer : TrailerGood s
  pub atom : AtomGood b s

-- ---- one step

abbrev pub rule_at : List ℕ → ℕ → RuleNo
rule_at s at = rule_no (get_or s (at + 1) 0)

abbrev pub list_at : List ℕ → ℕ → List ℕ
list_at s at = take (get_or s (at + 1) 0) (drop (at + 2) s)

-- the codes that one rule follows
pub data OneRule (code : ℕ) : Type 0 where
  is-41 : code ≡ code_on → OneRule code
  is-42 : code ≡ code_off → OneRule code
  is-53 : code ≡ code_split → OneRule code

pub data BadRule (b : Book) (s : List ℕ) (from at : ℕ) : Type 0 where
  rule-passes : from < at + 2 → BadRule b s from at
  rule-not-below : count b ≤ get_or s (at + 1) 0 → BadRule b s from at

pub data BadList (b : Book) (s : List ℕ) (from at : ℕ) : Type 0 where
  list-passes : from < at + 2 + get_or s (at + 1) 0 → BadList b s from at
  list-empty : get_or s (at + 1) 0 ≡ 0 → BadList b s from at
  list-not-ascending : ascending (list_at s at) ≡ false → BadList b s from at
  list-not-below : (n : ℕ) → Memᴰ n (list_at s at) → count b ≤ n → BadList b s from at

-- 24: "step of unknown code, rule not below R, bad list, or a step due at the witness start or passing it"
pub data Malformed (b : Book) (s : List ℕ) (from at : ℕ) : Type 0 where
  at-witness : from ≤ at → Malformed b s from at
  unknown-code : ¬ OneRule (get_or s at 0) → ¬ (get_or s at 0 ≡ code_unfounded) → ¬ (get_or s at 0 ≡ code_end) → Malformed b s from at
  bad-rule : OneRule (get_or s at 0) → BadRule b s from at → Malformed b s from at
  bad-list : get_or s at 0 ≡ code_unfounded → BadList b s from at → Malformed b s from at

pub data Formed (b : Book) (k : Claim) (s : List ℕ) (from at : ℕ) (c : Pair) : Bool → Stepped → Type 0 where
  form-41 : get_or s at 0 ≡ code_on → at + 2 ≤ from → InBook b (rule_at s at)
      → Formed b k s from at c (may_on b c (rule_at s at)) (goes (at + 2) (put on_side (rule_at s at ∷ []) c))
  form-42 : get_or s at 0 ≡ code_off → at + 2 ≤ from → InBook b (rule_at s at)
      → Formed b k s from at c (blocked b c (rule_at s at)) (goes (at + 2) (put off_side (rule_at s at ∷ []) c))
  form-55 : get_or s at 0 ≡ code_unfounded → at + 2 + get_or s (at + 1) 0 ≤ from → 0 < get_or s (at + 1) 0 → ascending (list_at s at) ≡ true
      → ((n : ℕ) → Memᴰ n (list_at s at) → n < count b)
      → Formed b k s from at c (unfounded b c.off (map rule_no (list_at s at)))
      (goes (at + 2 + get_or s (at + 1) 0) (put off_side (map rule_no (list_at s at)) c))
  form-53 : get_or s at 0 ≡ code_split → at + 2 ≤ from → InBook b (rule_at s at)
      → Formed b k s from at c (uncoloured c (rule_at s at)) (parts (at + 2) (rule_at s at))
  form-45 : get_or s at 0 ≡ code_end → at < from → Formed b k s from at c (ended b k c) (ends (at + 1))

-- 25: "step's condition doesn't hold"
pub record Unheld (b : Book) (k : Claim) (s : List ℕ) (from at : ℕ) (c : Pair) : Type 0 where
  pub test : Bool
  pub next : Stepped
  pub formed : Formed b k s from at c test next
  pub fails : test ≡ false

-- ---- the steps in order

pub data Comes (b : Book) (k : Claim) (s : List ℕ) (from : ℕ) : ℕ → Pair → Type 0 where
  first_step : Comes b k s from 0 start
  -- over a good 41, 42 or 55
  goes_on : {at next : ℕ} {c d : Pair} {t : Bool} → Comes b k s from at c → Formed b k s from at c t (goes next d) → t ≡ true
      → Comes b k s from next d
  -- into the first branch of a good 53
  into-first : {at next : ℕ} {c : Pair} {t : Bool} {r : RuleNo} → Comes b k s from at c → Formed b k s from at c t (parts next r)
      → t ≡ true → Comes b k s from next (put on_side (r ∷ []) c)
  -- into its second branch, where the first is whole and ends before m
  into-second : {at next m : ℕ} {c : Pair} {t : Bool} {r : RuleNo} → Comes b k s from at c → Formed b k s from at c t (parts next r)
      → t ≡ true → m ≤ from → Branch b k (put on_side (r ∷ []) c) (part_from s m next) → Comes b k s from m (put off_side (r ∷ []) c)
