-- What the functions of the checker hand one another, in the terms of a step, a branch and a witness.
--
--   stepped s at c x      the step x at byte `at` of the paper s, with the pair c
--   StepWithin b s from at x   the step's rules are in the book, and it ends before the witness
--   Leads b k s from at c i d   steps lead from byte `at` with the pair c to byte i with the pair d
--   Ready paper from   what every part asks: a witness start within the paper
--   Finds b k s from at c x    what checking a step promises
--   Runs b k s from at c ran   what running the steps of a branch promises
--   walked w, verdict v   what a branch and a witness come to
--   Ends at from w        a branch that is done ends past its start, and not past the witness
--   end_told b s e         what is told of a paper whose last bytes come to e: what its steps come to, or 20 to 23
--   OfTheEnd f            a refusal of the last bytes, and of nothing before them
--   EndsAs b s x e        what reading a trailer promises: this is x, the witness of a good one ends at it, and a bad one is refused by its last bytes
use Rattle.std.specs.Prelude.{Result, Ok, Err, ⊤, ◌≡◌, List, [], ◌∷◌, map, ℕ, ◌+◌, ◌<◌, ◌≤◌, length, take, drop}
use Rattle.meaning.specs.declared.RuleNo.{RuleNo}
use Rattle.meaning.specs.Books.{rule_no, Book, count, InBook}
use Rattle.meaning.specs.Colours.{Pair, on_side, off_side, put}
use Rattle.meaning.specs.declared.kind.Claim.{Claim}
use Rattle.meaning.specs.Written.{written, pair}
use Rattle.meaning.specs.Told.{Told, refused_at}
use Rattle.meaning.specs.Paper.{paper_bytes}
use Rattle.book.specs.Tables.{Below}
use Rattle.checker.specs.declared.step.Step.{Step}
use Rattle.checker.specs.declared.step.Step.TheVariants.{On, Off, Unfounded, Stops}
use Rattle.checker.specs.declared.step.Stop.{Stop}
use Rattle.checker.specs.declared.step.Stop.TheVariants.{End, Split, Form, Fails}
use Rattle.checker.specs.declared.run.Ran.{Ran}
use Rattle.checker.specs.declared.answer.Rejected.{Rejected}
use Rattle.checker.specs.declared.answer.Rejected.TheVariants.{Length, Mark, Atom, Gap}
use Rattle.checker.specs.declared.answer.Rejected.TheVariants.{Book as BadBook, Trailer as Count, Form as BadForm, Fails as BadFails, Witness as Wrong}
use Rattle.checker.specs.declared.trailer.Trailer.{Trailer}
use Rattle.checker.specs.Numbers.{number_of, place_of}
use Rattle.checker.specs.Steps.{Stepped, goes, parts, ends, fails, step_of}
use Rattle.checker.specs.Branches.{Walked, done, wrong_at}
use Rattle.checker.specs.Witness.{Check, fine, wrong}
use Rattle.checker.specs.Check.{steps_told}

-- the rules that a list of m bytes names
abbrev pub listed : List ℕ → ℕ → ℕ → List RuleNo
listed s at m = map rule_no (take m (drop at s))

abbrev pub stopped_by : ℕ → Stop → Stepped
stopped_by at End = ends (at + 1)
stopped_by at (Split r) = parts (at + 2) r
stopped_by at Form = fails 24
stopped_by at Fails = fails 25

abbrev pub stepped : List ℕ → ℕ → Pair → Step → Stepped
stepped s at c (On r) = goes (at + 2) (put on_side (r ∷ []) c)
stepped s at c (Off r) = goes (at + 2) (put off_side (r ∷ []) c)
stepped s at c (Unfounded m) = goes (at + 2 + m) (put off_side (listed s (at + 2) m) c)
stepped s at c (Stops x) = stopped_by at x

-- a step of one rule: the rule is in the book, and the step ends before the witness
abbrev pub RuleWithin : Book → ℕ → ℕ → RuleNo → Type 0
RuleWithin b from at r = InBook b r × (at + 2 ≤ from)

abbrev pub StopWithin : Book → ℕ → ℕ → Stop → Type 0
StopWithin b from at End = at + 1 ≤ from
StopWithin b from at (Split r) = RuleWithin b from at r
StopWithin b from at Form = Unit {0}
StopWithin b from at Fails = Unit {0}

abbrev pub StepWithin : Book → List ℕ → ℕ → ℕ → Step → Type 0
StepWithin b s from at (On r) = RuleWithin b from at r
StepWithin b s from at (Off r) = RuleWithin b from at r
StepWithin b s from at (Unfounded m) = (at + 2 + m ≤ from) × Below (count b) (take m (drop (at + 2) s))
StepWithin b s from at (Stops x) = StopWithin b from at x

pub record Ready (paper : List ℕ) (from : ℕ) : Type 0 where
  pub within : from ≤ length paper
  pub small : from < 65536

pub record Finds (b : Book) (k : Claim) (s : List ℕ) (from at : ℕ) (c : Pair) (x : Step) : Type 0 where
  pub found : stepped s at c x ≡ step_of b k s from at c
  pub within : StepWithin b s from at x

pub data Leads (b : Book) (k : Claim) (s : List ℕ) (from at : ℕ) (c : Pair) : ℕ → Pair → Type 0 where
  here : Leads b k s from at c at c
  further : {i j : ℕ} {d e : Pair} → Leads b k s from at c i d → i < j → j ≤ from → step_of b k s from i d ≡ goes j e
      → Leads b k s from at c j e

pub record Runs (b : Book) (k : Claim) (s : List ℕ) (from at : ℕ) (c : Pair) (ran : Ran) : Type 0 where
  pub leads : Leads b k s from at c ran.at (pair (written ran.colours))
  pub stops : step_of b k s from ran.at (pair (written ran.colours)) ≡ stopped_by ran.at ran.stop
  pub within : StopWithin b from ran.at ran.stop

abbrev pub walked : Result ℕ Rejected → Walked
walked (Ok at) = done at
walked (Err f) = wrong_at (number_of f) (place_of f)

pub data Ends (at from : ℕ) : Walked → Type 0 where
  past : {m : ℕ} → at < m → m ≤ from → Ends at from (done m)
  refused : {i place : ℕ} → Ends at from (wrong_at i place)

abbrev pub verdict : Result ⊤ ℕ → Check
verdict (Ok u) = fine
verdict (Err at) = wrong at

abbrev pub end_told : Book → List ℕ → Result Trailer Rejected → Told Claim
end_told b s (Ok t) = steps_told b t.claim s t.count t.from
end_told b s (Err f) = refused_at (number_of f) (place_of f)

-- the refusals of a paper's last bytes: 20 to 23, and none of the book, the steps or the witness
abbrev pub OfTheEnd : Rejected → Type 0
OfTheEnd Length = Unit {0}
OfTheEnd (Mark at) = Unit {0}
OfTheEnd (Count at) = Unit {0}
OfTheEnd (Atom at) = Unit {0}
OfTheEnd (BadBook f) = ⊥
OfTheEnd (BadForm at) = ⊥
OfTheEnd (BadFails at) = ⊥
OfTheEnd (Gap at) = ⊥
OfTheEnd (Wrong at) = ⊥

abbrev pub EndFits : List ℕ → Result Trailer Rejected → Type 0
EndFits s (Ok t) = (t.from + t.count + 6 ≡ length s) × (length s ≤ paper_bytes)
EndFits s (Err f) = OfTheEnd f

pub record EndsAs (b : Book) (s : List ℕ) (x : Told Claim) (e : Result Trailer Rejected) : Type 0 where
  pub told : end_told b s e ≡ x
  pub fits : EndFits s e
