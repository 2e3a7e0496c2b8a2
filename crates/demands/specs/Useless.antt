-- The five useless versions of document 01, and two that mix the kinds of paper. What the fault of an engine here does not touch, it does as ours does; a parameter e or f may
-- be anything. A predicate is there for every engine with that fault, whatever else it does. Document 01, "What the promises say": "Five
-- useless versions are to be tried."
--
--   refuses_all w i at    "One refuses each call": with the excuse w, and the paper with number i at the place `at`
--   NeverFinds e         the same with excuses that may differ from call to call: e never tells a reading
--   NeverWrites q e      e never tells a paper of this kind
--   NeverAccepts q e     e never accepts a paper of this kind
--   same_set f            "One gives the same answer set": f finds it without a look at k
--   always_accepts        "or always accepts": every paper in which nothing of 1 to 23 is wrong
--   closes_once           "One closes once and calls the rest off"
--   first_branch          "or checks only the first branch": of each split; the second is passed over by its form
--   does_nothing e        "One does nothing and reports success": whatever e reports
--   clears_uncertain      clears whoever naming refuses with 12
--   mixes_kinds           checks every paper by naming's 45, and tells the kind of its mark
--   invents_tries n       "One invents tries": always n, in finding. Of every engine it is shown (proofs/Useless) that demand 2 or 3 does
--                        not hold of it if, at any call, it tells other tries than ours with a reading, with a paper or with 11
--   invents_rule n        document 02's "rule for the last contradictory try" is invented: always n, in finding's 11. And of every engine
--                        the same is shown of this rule as of the tries
use Rattle.std.specs.Prelude.{◌≡◌, List, [], ◌∷◌, ◌++◌, ℕ, zero, suc, ◌+◌, ◌-◌, length, get_or, take}
use Rattle.meaning.specs.declared.AtomNo.{AtomNo}
use Rattle.meaning.specs.declared.kind.Kind.{Kind}
use Rattle.meaning.specs.declared.kind.Kind.TheVariants.{Naming, Clearing}
use Rattle.meaning.specs.Written.{Tables}
use Rattle.meaning.specs.Books.{Book}
use Rattle.meaning.specs.Colours.{Pair, on_side, put, start, clashing}
use Rattle.meaning.specs.declared.kind.Claim.{Claim}
use Rattle.meaning.specs.declared.kind.Claim.TheVariants.{About, NoReading}
use Rattle.meaning.specs.Paper.{code_on, code_off, code_unfounded, code_split, code_end}
use Rattle.meaning.specs.Written.{nothing, pair}
use Rattle.meaning.specs.Computed.{close}
use Rattle.meaning.specs.Choice.{ifb, if_lt, if_eq}
use Rattle.meaning.specs.Told.{Told, success, refused_with, refused_at, refused, fewer, stopped, Answered}
use Rattle.book.specs.Format.{BookRead, good, bad, read_of, book_in}
use Rattle.walk.specs.Readings.{reading_of}
use Rattle.meaning.specs.Buffers.{write_at}
use Rattle.walk.specs.Run.{row_of}
use Rattle.walk.specs.Find.{set, find_of}
use Rattle.writer.specs.Write.{Handed, paper, name_of, clear_of}
use Rattle.checker.specs.Numbers.{accepted}
use Rattle.checker.specs.Steps.{Stepped, goes, parts, ends, fails, step_of}
use Rattle.checker.specs.Branches.{Walked, done, and_then}
use Rattle.checker.specs.Branches.{wrong_at}
use Rattle.checker.specs.Check.{branch_told, check_of}
use Rattle.checker.specs.Rows.{kind_of, count_of, start_of, claim_of}
use Rattle.demands.specs.Engine.{Engine, our_write}

-- ---- refuses each call

-- the limit (9), too few readings (11), another number, another number with a place
pub data Excuse : Type 0 where
  at-limit : Excuse
  too_few : ℕ → ℕ → ℕ → Excuse
  by_number : ℕ → Excuse
  by_place : ℕ → ℕ → Excuse

unfoldable pub excused : {S : Type 0} → Excuse → ℕ → Told S
excused at-limit limit = stopped limit
excused (too_few t n r) limit = fewer t n r
excused (by_number i) limit = refused i
excused (by_place i at) limit = refused_at i at

abbrev pub refuses_all : Excuse → ℕ → ℕ → Engine
refuses_all w i at = record {
  find = λ book k limit answer. record { told = excused w limit; buffer = answer };
  write = λ q book a limit buffer. record { told = excused w limit; buffer = buffer };
  check = λ book s. refused_at i at;
}

abbrev pub NeverFinds : Engine → Type 0
NeverFinds e = (book : List ℕ) (k limit : ℕ) (answer : List ℕ) (t : ℕ) → (e.find book k limit answer).told ≡ set t → ⊥

abbrev pub NeverWrites : Kind → Engine → Type 0
NeverWrites q e = (book : List ℕ) (a : AtomNo) (limit : ℕ) (buffer : List ℕ) (t n : ℕ)
    → (e.write q book a limit buffer).told ≡ paper t n → ⊥

abbrev pub NeverAccepts : Kind → Engine → Type 0
NeverAccepts q e = (book s : List ℕ) (a : AtomNo) → e.check book s ≡ accepted q a → ⊥

-- ---- gives the same answer set, or always accepts

abbrev pub same_set : (List ℕ → ℕ → List ℕ → Answered ℕ) → Engine
same_set f = record { find = λ book k limit answer. f book limit answer; write = our_write; check = check_of }

-- our own refusals by 1 to 23, otherwise the answer t
unfoldable pub form_first : Told Claim → Told Claim → Told Claim
form_first (success a) t = t
form_first (refused_with i l) t = t
form_first (refused_at i at) t = if_lt i 24 (refused_at i at) t
form_first (refused i) t = t

abbrev pub always_accepts : Engine
always_accepts = record { find = find_of; write = our_write; check = λ book s. form_first (check_of book s) (success (claim_of s)) }

-- ---- closes once and calls the rest off, or checks only the first branch

-- the pair d of the first closing, with all that has no colour off, is taken for the only reading
unfoldable pub once_in : Book → Tables → ℕ → List ℕ → Answered ℕ
once_in b d k answer =
    ifb (clashing b (pair d)) (record { told = fewer 1 0 255; buffer = answer })
    (if_eq k 1 (record { told = set 1; buffer = write_at 0 (row_of b (reading_of b d)) answer }) (record { told = fewer 1 1 255; buffer = answer }))

unfoldable pub once_of : BookRead → ℕ → ℕ → List ℕ → Answered ℕ
once_of (good n r index l) k limit answer =
    let b : Book = record { atoms = n; rules = l } in
    if_eq k 0 (record { told = refused 15; buffer = answer })
    (if_lt (length answer) b.atoms (record { told = refused 8; buffer = answer })
    (if_eq limit 0 (record { told = stopped 0; buffer = answer }) (once_in b (close b nothing) k answer)))
once_of (bad i at) k limit answer = record { told = refused_at i at; buffer = answer }

abbrev pub closes_once : Engine
closes_once = record { find = λ book k limit answer. once_of (read_of book) k limit answer; write = our_write; check = check_of }

-- the end of the branch at byte `at`, by the codes of its steps alone
unfoldable pub skip_of : ℕ → List ℕ → ℕ → Walked
skip_of zero s at = wrong_at 24 at
skip_of (suc f) s at =
    if_eq (get_or s at 0) code_end (done (at + 1))
    (if_eq (get_or s at 0) code_split (and_then (skip_of f s (at + 2)) (λ m. skip_of f s m))
    (if_eq (get_or s at 0) code_unfounded (skip_of f s (at + 2 + get_or s (at + 1) 0))
    (if_eq (get_or s at 0) code_on (skip_of f s (at + 2)) (if_eq (get_or s at 0) code_off (skip_of f s (at + 2)) (wrong_at 24 at)))))

-- as after_step of the checker, but for the second branch of a split
unfoldable pub after_first : ℕ → Pair → Stepped → (ℕ → Pair → Walked) → (ℕ → Walked) → Walked
after_first at c (goes next d) further skip = further next d
after_first at c (parts next r) further skip = and_then (further next (put on_side (r ∷ []) c)) skip
after_first at c (ends next) further skip = done next
after_first at c (fails i) further skip = wrong_at i at

unfoldable pub first_of : ℕ → Book → Claim → List ℕ → ℕ → ℕ → Pair → Walked
first_of zero b k s from at c = wrong_at 24 at
first_of (suc f) b k s from at c =
    after_first at c (step_of b k s from at c) (λ next d. first_of f b k s from next d) (λ m. skip_of f s m)

abbrev pub first_branch : Engine
first_branch = record {
  find = find_of;
  write = our_write;
  check = λ book s. form_first (check_of book s) (branch_told (book_in book) (claim_of s) s (count_of s) (start_of s)
      (first_of (suc (start_of s)) (book_in book) (claim_of s) s (start_of s) 0 start));
}

-- ---- does nothing and reports success

abbrev pub does_nothing : Engine → Engine
does_nothing e = record {
  find = λ book k limit answer. record { told = (e.find book k limit answer).told; buffer = answer };
  write = λ q book a limit buffer. record { told = (e.write q book a limit buffer).told; buffer = buffer };
  check = e.check;
}

-- ---- invents tries

-- of the values of 11, all tries, the sets and the rule, the tries are invented; the value of 9 is the limit
unfoldable pub invented : ℕ → List ℕ → List ℕ
invented n [] = []
invented n (limit ∷ []) = limit ∷ []
invented n (t ∷ (m ∷ l)) = n ∷ (m ∷ l)

unfoldable pub with_tries : ℕ → Told ℕ → Told ℕ
with_tries n (success t) = set n
with_tries n (refused_with i l) = refused_with i (invented n l)
with_tries n (refused_at i at) = refused_at i at
with_tries n (refused i) = refused i

abbrev pub invents_tries : ℕ → Engine
invents_tries n = record {
  find = λ book k limit answer.
      record { told = with_tries n (find_of book k limit answer).told; buffer = (find_of book k limit answer).buffer };
  write = our_write;
  check = check_of;
}

-- ---- mixes the two kinds of paper (document 02, request 2)

-- a paper is told where naming told 12; else what clearing tells
unfoldable pub or_cleared : Told Handed → List ℕ → Answered Handed → Answered Handed
or_cleared (success h) buffer r = r
or_cleared (refused_with i l) buffer r = r
or_cleared (refused_at i at) buffer r = r
or_cleared (refused i) buffer r = if_eq i 12 (record { told = paper 1 0; buffer = buffer }) r

unfoldable pub clears_by : Kind → List ℕ → AtomNo → ℕ → List ℕ → Answered Handed
clears_by Naming book a limit buffer = name_of book a limit buffer
clears_by Clearing book a limit buffer = or_cleared (name_of book a limit buffer).told buffer (clear_of book a limit buffer)

abbrev pub clears_uncertain : Engine
clears_uncertain = record { find = find_of; write = clears_by; check = check_of }

-- what is accepted, told as of another kind
unfoldable pub told_as : Kind → Told Claim → Told Claim
told_as q (success (About p a)) = accepted q a
told_as q (success NoReading) = success NoReading
told_as q (refused_with i l) = refused_with i l
told_as q (refused_at i at) = refused_at i at
told_as q (refused i) = refused i

-- the paper with naming's mark
abbrev pub as_naming : List ℕ → List ℕ
as_naming s = take (length s - 1) s ++ (0x46 ∷ [])

abbrev pub mixes_kinds : Engine
mixes_kinds = record { find = find_of; write = our_write; check = λ book s. told_as (kind_of s) (check_of book (as_naming s)) }

-- ---- invents the rule of 11 (document 02, request 5)

unfoldable pub with_rule : ℕ → Told ℕ → Told ℕ
with_rule n (success t) = set t
with_rule n (refused_with i []) = refused_with i []
with_rule n (refused_with i (limit ∷ [])) = refused_with i (limit ∷ [])
with_rule n (refused_with i (t ∷ (m ∷ l))) = fewer t m n
with_rule n (refused_at i at) = refused_at i at
with_rule n (refused i) = refused i

abbrev pub invents_rule : ℕ → Engine
invents_rule n = record {
  find = λ book k limit answer.
      record { told = with_rule n (find_of book k limit answer).told; buffer = (find_of book k limit answer).buffer };
  write = our_write;
  check = check_of;
}
