-- The five useless versions do not meet the demands (specs/Useless): each is refuted by the sentence of a demand that document 01 names for
-- it, at one or two of the worked books. The sentence makes the version answer as ours does there, and it does not. Whoever refuses every
-- call, by whatever excuses, is refuted so too, and so is whoever tells other tries, or another rule that clashed, than ours at any call.
use mathlib.Core.Path.{◌≡◌, refl, sym, ◌∙◌, ap}
use mathlib.Core.Logic.{⊎_elim, ◌↔◌}
use mathlib.Core.List.{List, ◌∷◌, ◌++◌}
use Prim.Native.Nat.{ℕ, ◌<◌}
use native.Mathlib.Omega.{arith}
use lib.ListN.{get_or}
use Rattle.meaning.specs.declared.AtomNo.{AtomNo}
use Rattle.meaning.specs.declared.kind.Kind.{Kind}
use Rattle.meaning.specs.declared.kind.Kind.TheVariants.{Naming}
use Rattle.meaning.specs.Claim.{claim}
use Rattle.meaning.specs.Sets.{every}
use Rattle.meaning.specs.Books.{atom_no, Book}
use Rattle.meaning.specs.Told.{Told, fewer, stopped, Answered}
use Rattle.meaning.proofs.Tests.{lt-or-le, apart}
use Rattle.meaning.proofs.Told.{success-one}
use Rattle.book.specs.Rows.{Bytes}
use Rattle.meaning.specs.Written.{nothing}
use Rattle.walk.specs.Events.{events}
use Rattle.walk.specs.Find.{set, find_of}
use Rattle.walk.specs.Tries.{Needs}
use Rattle.walk.proofs.Needs.{needs-one}
use Rattle.writer.specs.Write.{Handed, paper, write_of, name_of}
use Rattle.checker.specs.Numbers.{certain}
use Rattle.checker.specs.Check.{check_of}
use Rattle.demands.specs.Engine.{Engine}
use Rattle.demands.specs.Demand2.{Call, GivesReadings, Stops, TellsFewer, AskingFewer}
use Rattle.demands.specs.Demand3.{Complete, Writes}
use Rattle.demands.specs.Printed.{empty, fact, fact_paper, choice, contrary, late_clash}
use Rattle.demands.specs.Worked.{Holds, sevens}
use Rattle.demands.specs.Useless.{Excuse, at-limit, too_few, by_number, by_place, excused, refuses_all, same_set}
use Rattle.demands.specs.Useless.{NeverFinds, NeverWrites, NeverAccepts, does_nothing, with_tries, invents_tries, with_rule, invents_rule}
use Rattle.demands.proofs.Worked.{At, row}
use Rattle.demands.proofs.Sentences.{bytes-of, good-set, good-stop, given-as-ours, stops-as-ours, fewer-as-ours, accepts-as-ours}
use Rattle.demands.proofs.Sentences.{unwritten-as-ours, written-as-ours}

abbrev told : Answered ℕ → Told ℕ
told a = a.told

abbrev first_byte : Answered ℕ → ℕ
first_byte a = get_or a.buffer 0 0

-- ---- our answers, from the table

fact-bytes : Bytes fact
unfolding every
fact-bytes = bytes-of fact refl

pub choice-bytes : Bytes choice
unfolding every
choice-bytes = bytes-of choice refl

fact-found : find_of fact 1 1000 (sevens 2) ≡ record { told = set 1; buffer = 1 ∷ sevens 1 }
unfolding At Holds
fact-found = row 2

fact-named : name_of fact (atom_no 0) 1000 (sevens 12) ≡ record { told = paper 1 10; buffer = fact_paper ++ sevens 2 }
unfolding At Holds
fact-named = row 3

fact-checked : check_of fact fact_paper ≡ certain (atom_no 0)
unfolding At Holds
fact-checked = row 4

fact-stopped : find_of fact 1 0 (sevens 2) ≡ record { told = stopped 0; buffer = sevens 2 }
unfolding At Holds
fact-stopped = row 5

choice-first : find_of choice 1 1000 (sevens 3) ≡ record { told = set 2; buffer = 1 ∷ 0 ∷ sevens 1 }
unfolding At Holds
choice-first = row 8

choice-second : find_of choice 2 1000 (sevens 3) ≡ record { told = set 3; buffer = 0 ∷ 1 ∷ sevens 1 }
unfolding At Holds
choice-second = row 9

-- what the sentences say of any engine at these calls
module _ (e : Engine) where
  gives_fact : GivesReadings e → e.find fact 1 1000 (sevens 2) ≡ record { told = set 1; buffer = 1 ∷ sevens 1 }
  gives_fact s = given-as-ours fact fact-bytes 1 1000 (sevens 2) e s (ap told fact-found) ∙ fact-found

  pub gives-first : GivesReadings e → e.find choice 1 1000 (sevens 3) ≡ record { told = set 2; buffer = 1 ∷ 0 ∷ sevens 1 }
  gives-first s = given-as-ours choice choice-bytes 1 1000 (sevens 3) e s (ap told choice-first) ∙ choice-first

  gives-second : GivesReadings e → e.find choice 2 1000 (sevens 3) ≡ record { told = set 3; buffer = 0 ∷ 1 ∷ sevens 1 }
  gives-second s = given-as-ours choice choice-bytes 2 1000 (sevens 3) e s (ap told choice-second) ∙ choice-second

  stops-fact : Stops e → (e.find fact 1 0 (sevens 2)).told ≡ stopped 0
  stops-fact s =
      let t = ap told fact-stopped in (stops-as-ours fact fact-bytes 1 0 (sevens 2) e s good-stop t).1 t

  goes-on-fact : Stops e → (e.find fact 1 1000 (sevens 2)).told ≡ stopped 1000 → ⊥
  goes-on-fact s p =
      let t = ap told fact-found in
      let q = (stops-as-ours fact fact-bytes 1 1000 (sevens 2) e s good-set t).0 p in apart (cc)

  accepts-fact : Complete Naming e → e.check fact fact_paper ≡ certain (atom_no 0)
  unfolding every
  accepts-fact s = accepts-as-ours fact fact_paper (bytes-of fact_paper refl) Naming e s (atom_no 0) fact-checked

  writes-fact : Writes Naming e → e.write Naming fact (atom_no 0) 1000 (sevens 12) ≡ record { told = paper 1 10; buffer = fact_paper ++ sevens 2 }
  writes-fact s =
      written-as-ours Naming fact fact-bytes (atom_no 0) 1000 (sevens 12) e s (ap (λ (r : Answered Handed). r.told) fact-named) ∙ fact-named

-- ---- "One refuses each call: demand 2's "exactly" and demand 3's last two sentences stop it."

module _ (e : Engine) where
  pub never-finds-fails : NeverFinds e → GivesReadings e → ⊥
  never-finds-fails never s = never fact 1 1000 (sevens 2) 1 (ap told (gives_fact e s))

  pub never-writes-fails : NeverWrites Naming e → Writes Naming e → ⊥
  never-writes-fails never s = never fact (atom_no 0) 1000 (sevens 12) 1 10 (ap (λ (r : Answered Handed). r.told) (writes-fact e s))

  pub never-accepts-fails : NeverAccepts Naming e → Complete Naming e → ⊥
  never-accepts-fails never s = never fact fact_paper (atom_no 0) (accepts-fact e s)

-- with one and the same excuse, it does not stop as demand 2 says either
module _ (i at : ℕ) where
  refuses-all-stops : (w : Excuse) → Stops (refuses_all w i at) → ⊥
  unfolding excused
  refuses-all-stops at-limit s = goes-on-fact (refuses_all at-limit i at) s refl
  refuses-all-stops (too_few t n r) s = let e = stops-fact (refuses_all (too_few t n r) i at) s in apart (cc)
  refuses-all-stops (by_number j) s = let e = stops-fact (refuses_all (by_number j) i at) s in apart (cc)
  refuses-all-stops (by_place j p) s = let e = stops-fact (refuses_all (by_place j p) i at) s in apart (cc)

  refuses-all-writes : (q : Kind) (w : Excuse) → NeverWrites q (refuses_all w i at)
  unfolding excused
  refuses-all-writes q at-limit book a limit buffer t n e = apart (cc)
  refuses-all-writes q (too_few u m r) book a limit buffer t n e = apart (cc)
  refuses-all-writes q (by_number j) book a limit buffer t n e = apart (cc)
  refuses-all-writes q (by_place j p) book a limit buffer t n e = apart (cc)

  pub refuses-all-fails : (w : Excuse)
      → (Stops (refuses_all w i at) → ⊥) × (Complete Naming (refuses_all w i at) → ⊥) × (Writes Naming (refuses_all w i at) → ⊥)
  refuses-all-fails w = (
    refuses-all-stops w,
    never-accepts-fails (refuses_all w i at) (λ book s a e. apart (cc)),
    never-writes-fails (refuses_all w i at) (refuses-all-writes Naming w),
  )

-- ---- "One gives the same answer set": demand 2

pub same-set-fails : (f : List ℕ → ℕ → List ℕ → Answered ℕ) → GivesReadings (same_set f) → ⊥
same-set-fails f s =
    let p = ap first_byte (gives-first (same_set f) s) in let q = ap first_byte (gives-second (same_set f) s) in absurd (omega arith)

-- ---- "One does nothing and reports success: the sets of demand 2 and the paper of demand 3 must stand in the buffer."

pub does-nothing-fails : (e : Engine) → (GivesReadings (does_nothing e) → ⊥) × (Writes Naming (does_nothing e) → ⊥)
does-nothing-fails e = (
  λ s. let p = ap first_byte (gives_fact (does_nothing e) s) in absurd (omega arith),
  λ s. let p = ap (λ (r : Answered Handed). get_or r.buffer 0 0) (writes-fact (does_nothing e) s) in absurd (omega arith),
)

-- ---- "One invents tries: the count is that of the fixed walk, on which demand 2's limit rests."

pub invents-tries-fails : (n : ℕ) → GivesReadings (invents_tries n) → ⊥
unfolding with_tries
invents-tries-fails n s =
    let p : set n ≡ set 1 = sym (ap (with_tries n) (ap told fact-found)) ∙ ap told (gives_fact (invents_tries n) s) in
    let q : set n ≡ set 2 = sym (ap (with_tries n) (ap told choice-first)) ∙ ap told (gives-first (invents_tries n) s) in
    let u : n ≡ 1 = cc in let v : n ≡ 2 = cc in absurd (omega arith)

-- of any engine of which the sentence holds, at every call: the tries that it tells with a reading, with fewer readings than asked, with a
-- paper and with no reading to name from are ours
module _ (e : Engine) (book : List ℕ) (bytes : Bytes book) (limit : ℕ) where
  module _ (k : ℕ) (answer : List ℕ) where
    pub set-tries-ours : GivesReadings e → {t u : ℕ} → (find_of book k limit answer).told ≡ set t
        → (e.find book k limit answer).told ≡ set u → u ≡ t
    set-tries-ours s p q = let same = ap told (given-as-ours book bytes k limit answer e s p) in cc

    pub fewer-tries-ours : TellsFewer e → {t n r u m q : ℕ} → (find_of book k limit answer).told ≡ fewer t n r
        → (e.find book k limit answer).told ≡ fewer u m q → u ≡ t
    fewer-tries-ours s p q = let same = fewer-as-ours book bytes k limit answer e s p in cc

    pub fewer-rule-ours : TellsFewer e → {t n r u m q : ℕ} → (find_of book k limit answer).told ≡ fewer t n r
        → (e.find book k limit answer).told ≡ fewer u m q → q ≡ r
    fewer-rule-ours s p q = let same = fewer-as-ours book bytes k limit answer e s p in cc

  module _ (q : Kind) (a : AtomNo) (buffer : List ℕ) where
    pub paper-tries-ours : Writes q e → {t n u m : ℕ} → (write_of book (claim q a) limit buffer).told ≡ paper t n
        → (e.write q book a limit buffer).told ≡ paper u m → u ≡ t
    paper-tries-ours s p r =
        let same = ap (λ (r : Answered Handed). r.told) (written-as-ours q book bytes a limit buffer e s p) in
        ap (λ (h : Handed). h.tries) (success-one (sym r ∙ same ∙ p))

    pub unwritten-tries-ours : AskingFewer e → {t n r u m c : ℕ} → (write_of book (claim q a) limit buffer).told ≡ fewer t n r
        → (e.write q book a limit buffer).told ≡ fewer u m c → u ≡ t
    unwritten-tries-ours s p r = let same = unwritten-as-ours q book bytes a limit buffer e s p in cc

    pub unwritten-rule-ours : AskingFewer e → {t n r u m c : ℕ} → (write_of book (claim q a) limit buffer).told ≡ fewer t n r
        → (e.write q book a limit buffer).told ≡ fewer u m c → c ≡ r
    unwritten-rule-ours s p r = let same = unwritten-as-ours q book bytes a limit buffer e s p in cc

-- ---- the rule of 11

contrary-fewer : find_of contrary 1 1000 (sevens 2) ≡ record { told = fewer 3 0 0; buffer = sevens 2 }
unfolding At Holds
contrary-fewer = row 12

empty-fewer : find_of empty 2 1000 (sevens 2) ≡ record { told = fewer 1 1 255; buffer = sevens 2 }
unfolding At Holds
empty-fewer = row 1

late-fewer : find_of late_clash 1 1000 (sevens 2) ≡ record { told = fewer 5 0 0; buffer = sevens 2 }
unfolding At Holds
late-fewer = row 43

-- one rule for every book is not the one that clashed
pub invents-rule-fails : (n : ℕ) → TellsFewer (invents_rule n) → ⊥
unfolding every with_rule
invents-rule-fails n s =
    let u = fewer-rule-ours (invents_rule n) contrary (bytes-of contrary refl) 1000 1 (sevens 2) s (ap told contrary-fewer)
    (ap (with_rule n) (ap told contrary-fewer)) in
    let v = fewer-rule-ours (invents_rule n) empty (bytes-of empty refl) 1000 2 (sevens 2) s (ap told empty-fewer)
    (ap (with_rule n) (ap told empty-fewer)) in
    absurd (omega arith)

-- whoever tells the rule that is seen in both sets first, and not the lowest at the end of the closing, tells rule 1 here
pub first-seen-fails : (e : Engine) {t n : ℕ} → (e.find late_clash 1 1000 (sevens 2)).told ≡ fewer t n 1 → TellsFewer e → ⊥
unfolding every
first-seen-fails e p s =
    let u = fewer-rule-ours e late_clash (bytes-of late_clash refl) 1000 1 (sevens 2) s (ap told late-fewer) p in absurd (omega arith)

-- whatever an engine counts for the limit: if it stops exactly when its count passes the limit, its count is the tries of the fixed walk
pub counts-tries : (e : Engine) → Stops e → (book : List ℕ) (b : Book) (k : ℕ) (answer : List ℕ) → Call book b k answer
    → (counted : ℕ) → ((limit : ℕ) → ((e.find book k limit answer).told ≡ stopped limit) ↔ (limit < counted))
    → (n : ℕ) → Needs b (events b nothing) k n → counted ≡ n
counts-tries e stops book b k answer c counted own n needs = ⊎_elim
    (λ h. absurd (omega (arith, (own counted).0 ((stops book b k counted answer c).1 (n, needs, h)))))
    (λ h. ⊎_elim
    (λ l. let (m, more, g) = (stops book b k n answer c).0 ((own n).1 l) in absurd (omega (arith, needs-one b more needs)))
    (λ l. omega arith) (lt-or-le n counted)) (lt-or-le counted n)
