-- Papers that keep the printed rules. Document 01, "The paper". Its limit, paper_bytes, is no part of Keeps: what is said of a paper that
-- is to be accepted, or that was written, names the limit beside it.
--
--   unfounded b off l    "each listed rule has a positive atom all of whose rules are off or listed"
--   Branch b k c l       the bytes l are a branch that starts with the pair c: steps up to its 45, or up to its split and two branches
--   grounded b before w  "each rule's positive atoms are heads of rules listed before it (the grounded order of document 002)"
--   once before w        "No rule twice"
--   fails x r            the rule "has a positive atom outside X or a negative atom in X"
--   Witness b w          the list w meets all that is printed of the witness, with X the set of its heads
--   trailer k w start    "claimed atom, count w of witness rules, start of the witness (two bytes), then 50 46"
--   paper_with k steps w  the paper of these steps and this witness
--   Stated b k           the claim can be made of the book: its atom is below A
--   Grounds b k w        what the claim asks of the list w: to be a witness, or to be empty where the claim is that there is no answer set
--   Keeps b k paper      the bytes are steps, witness and trailer, and keep the printed rules
use Rattle.std.specs.Prelude.{◌≡◌, Bool, true, false, not, ◌&&◌, ◌||◌, List, [], ◌∷◌, ◌++◌, map, ℕ, ◌<◌, ◌%◌, ◌/◌, length}
use Rattle.meaning.specs.declared.RuleNo.{RuleNo}
use Rattle.meaning.specs.Sets.{◌∈◌, ◌∉◌, every, some, ascending}
use Rattle.meaning.specs.Books.{Atoms, Rules, among, Rule, Book, rule, InBook}
use Rattle.meaning.specs.Colours.{Pair, on_side, off_side, put, plus, start, heads, all_in, may_on, blocked, uncoloured}
use Rattle.meaning.specs.declared.kind.Claim.{Claim}
use Rattle.meaning.specs.declared.kind.Claim.TheVariants.{About, NoReading}
use Rattle.meaning.specs.Claim.{claimed, mark, ended}

abbrev pub numbers : List RuleNo → List ℕ
numbers l = map (λ r. r.0) l

unfoldable pub unfounded : Book → Rules → List RuleNo → Bool
unfounded b off l = every (λ r. some (all_in b (plus off l)) (rule b r).pos) l

-- "At most 60,000 bytes."
abbrev pub paper_bytes : ℕ
paper_bytes = 60000

-- the five codes
abbrev pub code_on : ℕ
code_on = 0x41

abbrev pub code_off : ℕ
code_off = 0x42

abbrev pub code_unfounded : ℕ
code_unfounded = 0x55

abbrev pub code_split : ℕ
code_split = 0x53

abbrev pub code_end : ℕ
code_end = 0x45

pub data Branch (b : Book) (k : Claim) : Pair → List ℕ → Type 0 where
  -- "41 r: the conditions for going on hold for r now; r is put in on."
  step-41 : {c : Pair} {l : List ℕ} (r : RuleNo) → InBook b r → r ∈ may_on b c
      → Branch b k (put on_side (r ∷ []) c) l → Branch b k c (code_on ∷ (r.0 ∷ l))
  -- "42 r: some negative atom of r is the head of an on rule; r is put in off."
  step-42 : {c : Pair} {l : List ℕ} (r : RuleNo) → InBook b r → r ∈ blocked b c
      → Branch b k (put off_side (r ∷ []) c) l → Branch b k c (code_off ∷ (r.0 ∷ l))
  -- "55 m r1..rm, m at least 1, strictly ascending: each listed rule has a positive atom all of whose rules are off or listed; all are
  -- put in off."
  step-55 : {c : Pair} {l : List ℕ} (w : List RuleNo) → 0 < length w → ascending (numbers w) ≡ true
      → ((r : RuleNo) → r ∈ among w → InBook b r) → unfounded b c.off w ≡ true
      → Branch b k (put off_side w c) l → Branch b k c (code_unfounded ∷ (length w ∷ (numbers w ++ l)))
  -- "53 r: r has no colour. A branch with r on follows, then a branch with r off, which starts from the colouring before the split."
  step-53 : {c : Pair} {l m : List ℕ} (r : RuleNo) → InBook b r → r ∈ uncoloured c
      → Branch b k (put on_side (r ∷ []) c) l → Branch b k (put off_side (r ∷ []) c) m → Branch b k c (code_split ∷ (r.0 ∷ (l ++ m)))
  -- "45: ends the branch; some rule is in both sets, or an on rule has the claimed atom as head."
  step-45 : {c : Pair} → ended b k c ≡ true → Branch b k c (code_end ∷ [])

unfoldable pub grounded : Book → List RuleNo → List RuleNo → Bool
grounded b before [] = true
grounded b before (r ∷ w) = every (heads b (among before)) (rule b r).pos && grounded b (r ∷ before) w

unfoldable pub once : List RuleNo → List RuleNo → Bool
once before [] = true
once before (r ∷ w) = not (among before r) && once (r ∷ before) w

unfoldable pub fails : Atoms → Rule → Bool
fails x r = some (λ a. not (x a)) r.pos || some x r.neg

pub record Witness (b : Book) (w : List RuleNo) : Type 0 where
  pub in-book : (r : RuleNo) → r ∈ among w → InBook b r
  pub in_order : grounded b [] w ≡ true
  pub no-rule-twice : once [] w ≡ true
  pub listed : (r : RuleNo) → r ∈ among w → some (heads b (among w)) (rule b r).neg ≡ false
  pub unlisted : (r : RuleNo) → InBook b r → r ∉ among w → fails (heads b (among w)) (rule b r) ≡ true

unfoldable pub trailer : Claim → ℕ → ℕ → List ℕ
trailer k w from = claimed k ∷ (w ∷ (from % 256 ∷ (from / 256 ∷ mark k)))

-- "Steps from byte 0, then the witness, then a trailer"
abbrev pub paper_with : Claim → List ℕ → List RuleNo → List ℕ
paper_with k steps w = steps ++ (numbers w ++ trailer k (length w) (length steps))

unfoldable pub Stated : Book → Claim → Type 0
Stated b (About q a) = a.0 < b.atoms
Stated b NoReading = Unit {0}

unfoldable pub Grounds : Book → Claim → List RuleNo → Type 0
Grounds b (About q a) w = Witness b w
Grounds b NoReading w = w ≡ []

pub record Keeps (b : Book) (k : Claim) (paper : List ℕ) : Type 0 where
  pub steps : List ℕ
  pub witness : List RuleNo
  pub bytes : paper ≡ paper_with k steps witness
  pub stated : Stated b k
  pub branch : Branch b k start steps
  pub grounds : Grounds b k witness
