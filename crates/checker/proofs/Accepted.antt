-- A paper is accepted exactly if it keeps the printed rules and has at most 60,000 bytes; and what is accepted is right, whoever wrote it:
-- the atom is certain, or clear, or there is no answer set. The accepted paper is cut at the trailer's places into steps, witness and
-- trailer; a paper that keeps the rules is read back piece by piece. Document 00, demand 3; blueprint, K4 and K5.
use mathlib.Core.Path.{◌≡◌, refl, sym, ◌∙◌, ap}
use mathlib.Core.Logic.{◌↔◌}
use mathlib.Core.List.{List, [], ◌∷◌, ◌++◌, map}
use Prim.Native.Nat.{ℕ, suc, ◌+◌, ◌-◌, ◌≤◌, ◌%◌, ◌/◌}
use native.Mathlib.Nat.{sub-zero, zero-add}
use native.Mathlib.Omega.{arith}
use lib.ListN.{length, get_or, take, drop, length-append, length-map, length-take, length-drop}
use lib.Seq.{take-length, take_at}
use Rattle.meaning.specs.declared.AtomNo.{AtomNo}
use Rattle.meaning.specs.Books.{rule_no, Book}
use Rattle.meaning.specs.Colours.{start}
use Rattle.meaning.specs.declared.kind.Kind.{Kind}
use Rattle.meaning.specs.declared.kind.Claim.{Claim}
use Rattle.meaning.specs.Claim.{claimed, Holding, Contrary, Holds}
use Rattle.meaning.specs.Told.{success}
use Rattle.meaning.specs.Paper.{numbers, Branch, trailer, Grounds, Keeps, paper_bytes}
use Rattle.meaning.proofs.Marks.{mark-bytes}
use Rattle.meaning.proofs.Papers.{keeps-right}
use Rattle.book.specs.Format.{u16_at, part_from, book_in}
use Rattle.book.specs.Rows.{Bytes, GoodBook}
use Rattle.book.proofs.Slices.{part_length}
use Rattle.checker.specs.Numbers.{accepted, no_reading}
use Rattle.checker.specs.Branches.{done, branch_of}
use Rattle.checker.specs.Witness.{fine, grounds_verdict}
use Rattle.checker.specs.Check.{paper_of, check_of}
use Rattle.checker.specs.Rows.{count_of, start_of, claim_of, witness_bytes, MarkGood, ByteGood, FramedPaper}
use Rattle.checker.proofs.Bytes.{rules-back, numbers-back, part_none, part-two, part-split, read-two, read_past}
use Rattle.checker.proofs.Marked.{claim-either, mark-is, mark-read}
use Rattle.checker.proofs.Branches.{done-branch, branch-done}
use Rattle.checker.proofs.Grounds.{good-claim, claim-good, fine-grounds, grounds-fine}
use Rattle.checker.proofs.Rows.{PaperRow, nowhere, row_of, row_told, CheckRow, at-paper, row-checked, checked-row}

-- ---- the pieces of an accepted paper

record Accepted (b : Book) (s : List ℕ) : Type 0 where
  framed : FramedPaper b s
  branch : Branch b (claim_of s) start (part_from s (start_of s) 0)
  grounds : Grounds b (claim_of s) (map rule_no (witness_bytes s))

module _ (b : Book) (s : List ℕ) where
  accepted-pieces : {k : Claim} → paper_of b s ≡ success k → (claim_of s ≡ k) × Accepted b s
  accepted-pieces e = pieces (row_of b s e)
    where
      pieces : {k : Claim} → PaperRow b s (success k) → (claim_of s ≡ k) × Accepted b s
      pieces (nowhere f p w) = (
        refl,
        record {
          framed = f;
          branch = let t = f.trailer in done-branch b (claim_of s) s (start_of s) (omega arith) _ 0 start _ p;
          grounds = fine-grounds b s (start_of s) (count_of s) (claim_of s) w;
        },
      )

  -- the last six bytes
  six : (i : ℕ) → i + 6 ≡ length s → part_from s (length s) i
      ≡ get_or s i 0 ∷ (get_or s (i + 1) 0 ∷ (get_or s (i + 2) 0 ∷ (get_or s (i + 2 + 1) 0 ∷ (get_or s (i + 4) 0 ∷ (get_or s (i + 4 + 1) 0 ∷ [])))))
  six i e =
      let n = length s in
      let p : i + 2 + 2 ≡ i + 4 = omega arith in
      let q : i + 4 + 2 ≡ n = omega arith in
      part-two s n i (omega arith) (omega arith)
      ∙ rw (part-two s n (i + 2) (omega arith) (omega arith), p, part-two s n (i + 4) (omega arith) (omega arith), q, part_none s n)

  start-low : Bytes s → start_of s % 256 ≡ get_or s (length s - 4) 0
  unfolding u16_at
  start-low bytes = omega (arith, bytes (length s - 4))

  start-high : Bytes s → start_of s / 256 ≡ get_or s (length s - 4 + 1) 0
  unfolding u16_at
  start-high bytes = omega (arith, bytes (length s - 4))

  claimed-is : FramedPaper b s → claimed (claim_of s) ≡ get_or s (length s - 6) 0
  unfolding claimed ByteGood
  claimed-is f = claim-either s (λ k. ByteGood b k (get_or s (length s - 6) 0) → claimed k ≡ get_or s (length s - 6) 0) (λ _. refl) sym f.atom

  trailer-is : Bytes s → FramedPaper b s → (i : ℕ) → i + 6 ≡ length s
      → trailer (claim_of s) (count_of s) (start_of s) ≡ part_from s (length s) i
  unfolding trailer
  trailer-is bytes f i e =
      let p₀ : length s - 6 ≡ i = omega arith in
      let p₁ : length s - 5 ≡ i + 1 = omega arith in
      let p₂ : length s - 4 ≡ i + 2 = omega arith in
      let p₄ : length s - 2 ≡ i + 4 = omega arith in
      let p₅ : length s - 1 ≡ i + 4 + 1 = omega arith in
      rw (← mark-is s f.mark, claimed-is f, six i e, start-low bytes, start-high bytes, p₀, p₁, p₂, p₄, p₅)

  -- a paper whose trailer is right is its three pieces
  pieces-joined : Bytes s → FramedPaper b s
      → s ≡ part_from s (start_of s) 0 ++ (witness_bytes s ++ trailer (claim_of s) (count_of s) (start_of s))
  pieces-joined bytes f =
      let from = start_of s in
      let w = count_of s in
      let n = length s in
      let e : from + w + 6 ≡ n = f.trailer in
      let q : from + w - from ≡ w = omega arith in
      let whole : part_from s n 0 ≡ s = rw (sub-zero, take-length) in
      let rest : part_from s n from ≡ witness_bytes s ++ part_from s n (from + w) =
      rw q at (part-split s n from (from + w) (omega arith) (omega arith)) in
      sym whole ∙ part-split s n 0 from (omega arith) (omega arith) ∙ rw (rest, trailer-is bytes f (from + w) e)

  keeps-pieces : Bytes s → Accepted b s → Keeps b (claim_of s) s
  keeps-pieces bytes q =
      let from = start_of s in
      let f = q.framed in
      let t : from + count_of s + 6 ≡ length s = f.trailer in
      let n : length (part_from s from 0) ≡ from = part_length s from 0 (omega arith) (omega arith) ∙ sub-zero from in
      let w : length (map rule_no (witness_bytes s)) ≡ count_of s = simp (length-map, length-take, length-drop) (omega arith) in
      record {
        steps = part_from s from 0;
        witness = map rule_no (witness_bytes s);
        bytes = rw (n, w, numbers-back (witness_bytes s)) (pieces-joined bytes f);
        stated = good-claim b _ (claim_of s) f.atom;
        branch = q.branch;
        grounds = q.grounds;
      }

  pub accepted-keeps : Bytes s → {k : Claim} → paper_of b s ≡ success k → Keeps b k s × (length s ≤ paper_bytes)
  accepted-keeps bytes e = let (p, q) = accepted-pieces e in (rw p at (keeps-pieces bytes q), q.framed.size.at_most)

  -- ---- a paper that keeps the printed rules

  module _ (k : Claim) (g : Keeps b k s) where
    abbrev from : ℕ
    from = length g.steps

    abbrev w : ℕ
    w = length g.witness

    -- what the trailer says, where it stands
    record Reads : Type 0 where
      size : from + w + 6 ≡ length s
      after-steps : drop from s ≡ numbers g.witness ++ trailer k w from
      marked : MarkGood s
      byte : get_or s (length s - 6) 0 ≡ claimed k
      claims : claim_of s ≡ k
      count : count_of s ≡ w
      begins : start_of s ≡ from

    reads : Reads
    unfolding trailer u16_at
    reads =
        let m = numbers g.witness in
        let n : length m ≡ w = length-map g.witness (λ r. r.0) in
        let e = ap length g.bytes ∙ length-append g.steps _ in
        let z = length-append m (trailer k w from) in
        let two = ap length (mark-bytes k) in
        let size : from + w + 6 ≡ length s = omega arith in
        let d₀ = rw zero-add at (read_past s 0 g.steps g.bytes) in
        let d₁ = rw n at (read_past s from m d₀) in
        let (x₀, x₁, d₂) = read-two s (from + w) d₁ in
        let (x₂, x₃, d₄) = read-two s (from + w + 2) d₂ in
        let (x₄, x₅, d₆) = read-two s (from + w + 2 + 2) (d₄ ∙ sym (mark-bytes k)) in
        let p₀ : length s - 6 ≡ from + w = omega arith in
        let p₁ : length s - 5 ≡ from + w + 1 = omega arith in
        let p₂ : length s - 4 ≡ from + w + 2 = omega arith in
        let p₄ : length s - 2 ≡ from + w + 2 + 2 = omega arith in
        let p₅ : length s - 1 ≡ from + w + 2 + 2 + 1 = omega arith in
        let byte : get_or s (length s - 6) 0 ≡ claimed k = rw p₀ x₀ in
        let (marked, claims) = mark-read s k (rw p₄ x₄) (rw p₅ x₅) byte in
        record {
          size = size;
          after-steps = d₀;
          marked = marked;
          byte = byte;
          claims = claims;
          count = rw p₁ x₁;
          begins = rw (p₂, x₂, x₃) (omega arith);
        }

    pub keeps-accepted : length s ≤ paper_bytes → paper_of b s ≡ success k
    keeps-accepted h =
        let r = reads in
        let z : 0 + from ≡ from = omega arith in
        let n : length (numbers g.witness) ≡ w = length-map g.witness (λ r. r.0) in
        let l : take w (drop from s) ≡ numbers g.witness = rw r.after-steps (take_at (numbers g.witness) _ w n) in
        let f : FramedPaper b s = record {
          size = record { at_least = omega (arith, r.size); at_most = h };
          mark = r.marked;
          trailer = rw (r.begins, r.count) r.size;
          atom = rw r.claims (claim-good b _ k g.stated r.byte);
        } in
        let walked : branch_of (suc from) b k s from 0 start ≡ done from =
        branch-done b k s from g.branch 0 _ g.bytes (omega arith) (suc from) (omega arith) ∙ ap done z in
        let grounds : grounds_verdict k b s from w ≡ fine =
        grounds-fine b s from w (omega (arith, r.size)) k (rw (l, rules-back g.witness) g.grounds) in
        row_told b s (nowhere f (rw (r.begins, r.claims) walked) (rw (r.begins, r.count, r.claims) grounds)) ∙ ap success r.claims

  pub check-keeps : Bytes s → (k : Claim) → (paper_of b s ≡ success k) ↔ (Keeps b k s × (length s ≤ paper_bytes))
  check-keeps bytes k = (accepted-keeps bytes, λ (g, h). keeps-accepted k g h)

  -- ---- what is accepted is right

  -- the pieces keep the printed rules, written with the bytes that the trailer should have
  pub accepted-right : {k : Claim} → paper_of b s ≡ success k → Holds b k
  accepted-right {k} e =
      let (p, pieces) = accepted-pieces e in
      let kept : Keeps b (claim_of s) _ = record {
        steps = part_from s (start_of s) 0;
        witness = map rule_no (witness_bytes s);
        bytes = refl;
        stated = good-claim b _ (claim_of s) pieces.framed.atom;
        branch = pieces.branch;
        grounds = pieces.grounds;
      } in
      keeps-right b k (rw p at kept)

-- ---- over the bytes of the book

module _ (book paper : List ℕ) where
  -- accepted means that the claim is right, whoever wrote the paper
  pub check-right : {k : Claim} → check_of book paper ≡ success k → Holds (book_in book) k
  check-right e = by_row (checked-row book paper e)
    where
      by_row : {k : Claim} → CheckRow book paper (success k) → Holds (book_in book) k
      by_row (at-paper g r) = accepted-right (book_in book) paper (row_told (book_in book) paper r)

  -- the book has an answer set and the atom is in all of them, or in none
  pub check_sound : {q : Kind} {a : AtomNo} → check_of book paper ≡ accepted q a → Holding q (book_in book) a
  unfolding Holds
  check_sound e = check-right e

  -- or it has none
  pub check-contrary : check_of book paper ≡ no_reading → Contrary (book_in book)
  unfolding Holds
  check-contrary e = check-right e

  -- a paper that keeps the printed rules of a good book is accepted, and tells its claim
  pub check-complete : GoodBook book (book_in book) → (k : Claim) → Keeps (book_in book) k paper → length paper ≤ paper_bytes
      → check_of book paper ≡ success k
  check-complete read k g h = row-checked book paper (at-paper read (row_of (book_in book) paper (keeps-accepted (book_in book) paper k g h)))

  pub check-exact : Bytes paper → (k : Claim)
      → (check_of book paper ≡ success k) ↔ (GoodBook book (book_in book) × Keeps (book_in book) k paper × (length paper ≤ paper_bytes))
  check-exact bytes k = (λ e. there (checked-row book paper e), λ (read, g, h). check-complete read k g h)
    where
      there : {k : Claim} → CheckRow book paper (success k)
          → GoodBook book (book_in book) × Keeps (book_in book) k paper × (length paper ≤ paper_bytes)
      there (at-paper read r) =
          let (g, h) = accepted-keeps (book_in book) paper bytes (row_told (book_in book) paper r) in (read, g, h)
