-- A paper that keeps the printed rules is right, whoever wrote it (document 00, demand 3; blueprint, K4 and N3): its claim holds of each
-- answer set, since every answer set stands above the empty pair, and its witness is one. A claim that holds of no set says that there is
-- none.
use mathlib.Core.Path.{refl}
use mathlib.Core.Bool.{false≢true}
use mathlib.Core.List.{List}
use Prim.Native.Nat.{ℕ}
use Rattle.meaning.specs.declared.AtomNo.{AtomNo}
use Rattle.meaning.specs.Sets.{◌∈◌, ◌∉◌}
use Rattle.meaning.specs.Books.{Atoms, among, Book}
use Rattle.meaning.specs.AnswerSet.{AnswerSet, Throughout, Certain, Clear}
use Rattle.meaning.specs.Colours.{Pair, start, heads, Within}
use Rattle.meaning.specs.declared.kind.Kind.{Kind}
use Rattle.meaning.specs.declared.kind.Kind.TheVariants.{Naming, Clearing}
use Rattle.meaning.specs.declared.kind.Claim.{Claim}
use Rattle.meaning.specs.declared.kind.Claim.TheVariants.{About, NoReading}
use Rattle.meaning.specs.Claim.{claim, named, cleared, meant, Holding, Contrary, Holds}
use Rattle.meaning.specs.Paper.{Branch, Grounds, Keeps}
use Rattle.meaning.proofs.Tests.{true-and-false}
use Rattle.meaning.proofs.Rules.{within_both}
use Rattle.meaning.proofs.Claims.{claim-holds, not-both}
use Rattle.meaning.proofs.Branches.{branch-sound}
use Rattle.meaning.proofs.Witness.{witness-answer}

module _ (b : Book) where
  pub start-within : (c : Pair) → Within b start c
  start-within c = within_both b (λ r h m. absurd (false≢true m)) (λ r h m. absurd (false≢true m))

  module _ (k : Claim) where
    -- the claim of a branch from the empty pair holds of every answer set
    pub branch-each : {l : List ℕ} → Branch b k start l → (x : Atoms) → AnswerSet b x → x ∈ meant k
    branch-each p x answer = branch-sound b k x answer p (start-within _)

    -- where it fails of one, no bytes are such a branch
    pub no-branch : ((x : Atoms) × AnswerSet b x × (x ∉ meant k)) → {l : List ℕ} → Branch b k start l → ⊥
    no-branch (x, answer, n) p = true-and-false (branch-each p x answer) n

  pub keeps-throughout : (q : Kind) (a : AtomNo) {paper : List ℕ} → Keeps b (claim q a) paper → Throughout b (meant (claim q a))
  unfolding Grounds
  keeps-throughout q a p = record {
    one = (heads b (among p.witness), witness-answer b p.witness p.grounds);
    each = branch-each (claim q a) p.branch;
  }

  -- a branch from the empty pair shows that there is no answer set where it claims so
  pub branch-contrary : {l : List ℕ} → Branch b NoReading start l → Contrary b
  unfolding meant
  branch-contrary p x answer = no-branch NoReading (x, answer, refl) p

  -- a paper that keeps the printed rules is right
  pub keeps-right : (k : Claim) {paper : List ℕ} → Keeps b k paper → Holds b k
  unfolding Holds
  keeps-right (About q a) p = (claim-holds b q a).0 (keeps-throughout q a p)
  keeps-right NoReading p = branch-contrary p.branch

  pub keeps-holds : (q : Kind) (a : AtomNo) {paper : List ℕ} → Keeps b (claim q a) paper → Holding q b a
  unfolding Holds
  keeps-holds q a p = keeps-right (claim q a) p

  pub keeps-contrary : {paper : List ℕ} → Keeps b NoReading paper → Contrary b
  unfolding Holds
  keeps-contrary p = keeps-right NoReading p

  pub keeps-certain : (a : AtomNo) {paper : List ℕ} → Keeps b (named a) paper → Certain b a
  unfolding Holding
  keeps-certain a p = keeps-holds Naming a p

  pub keeps-clear : (a : AtomNo) {paper : List ℕ} → Keeps b (cleared a) paper → Clear b a
  unfolding Holding
  keeps-clear a p = keeps-holds Clearing a p

  -- no book has papers of both kinds for one atom
  pub keeps-one-kind : (a : AtomNo) {s t : List ℕ} → Keeps b (named a) s → Keeps b (cleared a) t → ⊥
  keeps-one-kind a p q = not-both b a (keeps-certain a p) (keeps-clear a q)

  -- and none has a paper that there is no answer set and one about an atom
  pub never-two : {s t : List ℕ} → Keeps b NoReading s → (q : Kind) (a : AtomNo) → Keeps b (claim q a) t → ⊥
  never-two p q a r = let (x, answer) = (keeps-throughout q a r).one in keeps-contrary p x answer
