-- What a good book has: its length, its records one after another up to the index, as many rules as it says, and rules that keep the
-- format's limits. Each record's check is turned round: where it finds nothing wrong, the rule fits. Document 01, "The rule book".
use mathlib.Core.Path.{◌≡◌, refl, sym, ap}
use mathlib.Core.List.Memᴰ
use mathlib.Core.List.{List, [], ◌∷◌, map, Memᴰ}
use mathlib.Core.Logic.{⊎_elim}
use Prim.Native.Nat.{ℕ, zero, suc, ◌+◌, ◌*◌, ◌-◌, ◌≤◌, ◌<◌}
use native.Mathlib.Nat.{add-zero, eq-or-lt_of_le, le_of_suc-le-suc}
use native.Mathlib.Omega.{arith}
use lib.ListN.{length, get_or, length-map, length-take}
use Rattle.meaning.specs.Books.{atom_no, Rule, count}
use Rattle.meaning.proofs.Choice.{eq-either}
use Rattle.meaning.proofs.Told.{success-one}
use Rattle.book.specs.Format.{u16_at, fine, record_of, length_of, rule_of, part_from, records_of, rules_of}
use Rattle.book.specs.Format.{BookRead, good, bad, read_of, told_of, book_of, book_in}
use Rattle.book.specs.Numbers.{shape}
use Rattle.book.specs.Rows.{Bytes, RecordGood, RecordsGood, none, more, GoodAs}
use Rattle.book.specs.Writing.{atom_bytes, BodyFits, RuleFits, Fits}
use Rattle.book.proofs.Slices.{part_length}
use Rattle.book.proofs.Parts.{not-fine, then-first, then-second, PartFine, RecordFine, record-fine}
use Rattle.book.proofs.Records.{records-checked}
use Rattle.book.proofs.Refusals.{accepted}

-- ---- one record after another

-- the record at `at`, the first of k + 1: its entry is where it starts, it is fine, and the next one starts where it ends
pub record FirstFine (s : List ℕ) (n index r at k : ℕ) : Type 0 where
  pub entry : u16_at s (index + 2 * r) ≡ at
  pub here : RecordFine n (part_from s index at)
  pub rest : records_of k s n index (r + 1) (at + length_of (part_from s index at)) ≡ fine

module _ (s : List ℕ) (n index r at : ℕ) where
  pub records-last : records_of 0 s n index r at ≡ fine → at ≡ index
  unfolding records_of
  records-last = eq-either (λ x. x ≡ fine → at ≡ index) _ _ _ _ (λ h e. h) (λ h e. not-fine e)

  pub records-first : (k : ℕ) → records_of (suc k) s n index r at ≡ fine → FirstFine s n index r at k
  unfolding records_of
  records-first k =
      eq-either (λ x. x ≡ fine → FirstFine s n index r at k) _ _ _ _
      (λ h e. record {
        entry = h;
        here = record-fine n at _ (then-first _ _ e);
        rest = then-second (record_of n at (part_from s index at)) _ e;
      })
      (λ h e. not-fine e)

-- a record that is fine ends before the index or at it
pub record-ends : (s : List ℕ) (n index at : ℕ) → at ≤ index → index ≤ length s → RecordFine n (part_from s index at)
    → at + length_of (part_from s index at) ≤ index
record-ends s n index at h g f = omega (arith, f.ends, part_length s index at h g)

-- ---- the rules keep the limits

pub bytes-atoms : (l : List ℕ) → atom_bytes (map atom_no l) ≡ l
bytes-atoms [] = refl
bytes-atoms (x ∷ l) = ap (λ m. x ∷ m) (bytes-atoms l)

body-fits : (n : ℕ) (l : List ℕ) → length l ≤ 16 → PartFine n l → BodyFits n (map atom_no l)
body-fits n l h f = record {
  short = rw (length-map l atom_no) h;
  ascends = rw (bytes-atoms l) f.ascends;
  below = λ a m. let (x, q, e) = Memᴰ.of_map atom_no l m in rw (← e) (f.below x q);
}

rule_fits : (n : ℕ) (s : List ℕ) → RecordFine n s → RuleFits n (rule_of s)
unfolding rule_of
rule_fits n s f = record {
  head = f.head;
  pos = body-fits n _ (simp length-take (omega (arith, f.few-pos))) f.pos;
  neg = body-fits n _ (simp length-take (omega (arith, f.few-neg))) f.neg;
}

module _ (s : List ℕ) (n index : ℕ) where
  rules-fit : (k r at : ℕ) → records_of k s n index r at ≡ fine → (q : Rule) → Memᴰ q (rules_of k s index r) → RuleFits n q
  unfolding rules_of
  rules-fit zero r at e q m = elim m [ ]
  rules-fit (suc k) r at e q (Memᴰ.head p) =
      let f = records-first s n index r at k e in rw (p, f.entry) (rule_fits n _ f.here)
  rules-fit (suc k) r at e q (Memᴰ.tail m) = rules-fit k (r + 1) _ (records-first s n index r at k e).rest q m

rules-count : (k : ℕ) (s : List ℕ) (index r : ℕ) → length (rules_of k s index r) ≡ k
unfolding rules_of
rules-count zero s index r = refl
rules-count (suc k) s index r = ap suc (rules-count k s index (r + 1))

rule-at : (k : ℕ) (s : List ℕ) (index r i : ℕ) (d : Rule) → i < k
    → get_or (rules_of k s index r) i d ≡ rule_of (part_from s index (u16_at s (index + 2 * (r + i))))
unfolding rules_of
rule-at zero s index r i d h = absurd (omega arith)
rule-at (suc k) s index r zero d h = rw add-zero
rule-at (suc k) s index r (suc i) d h =
    let e : r + suc i ≡ r + 1 + i = omega arith in rw e (rule-at k s index (r + 1) i d (omega arith))

-- each record is good, and starts where its entry says
record-at : {s : List ℕ} {n index k end : ℕ} → RecordsGood s n index k end → (r : ℕ) → r < k
    → RecordGood s n index (u16_at s (index + 2 * r))
record-at none r h = absurd (omega arith)
record-at (more {r = k} g e f) r h =
    ⊎_elim (λ (p : r ≡ k). rw (p, e) f) (λ p. record-at g r p) (eq-or-lt_of_le (le_of_suc-le-suc h))

-- ---- the whole book

-- what is told of a good book leaves out the rules only
pub told-good : (x : BookRead) (n k index : ℕ) → told_of x ≡ shape n k index → x ≡ good n k index (book_of x).rules
unfolding told_of book_of
told-good (good m r i l) n k index e =
    let h = success-one e in λ j. good (h j).atoms (h j).rules (h j).index l
told-good (bad i at) n k index e = let z : ◌≡◌ {A = ℕ} 0 1 = cc in absurd (omega arith)

pub good_book : (s : List ℕ) (n k index : ℕ) → told_of (read_of s) ≡ shape n k index → GoodAs s n k index (book_in s).rules
unfolding book_in
good_book s n k index e = (accepted s n k index _).0 (told-good (read_of s) n k index e)

module _ {s : List ℕ} {n k index : ℕ} {l : List Rule} (g : GoodAs s n k index l) where
  -- records, index and trailer are the whole book
  pub good_length : length s ≡ index + 2 * k + 6
  good_length = sym (rw (g.rules, g.start) at g.framed.trailer)

  pub good-inside : index ≤ length s
  good-inside = omega (arith, good_length)

  pub good-checked : records_of k s n index 0 0 ≡ fine
  good-checked = records-checked s n index good-inside g.records

  pub good-count : length l ≡ k
  good-count = rw (← g.each) (rules-count k s index 0)

  pub good-record : (r : ℕ) → r < k → RecordGood s n index (u16_at s (index + 2 * r))
  good-record = record-at g.records

  pub good-rule : (r : ℕ) (d : Rule) → r < k → get_or l r d ≡ rule_of (part_from s index (u16_at s (index + 2 * r)))
  good-rule r d h = let e : 0 + r ≡ r = omega arith in rw (← g.each) (rw e at (rule-at k s index 0 r d h))

  pub good-rules-fit : (q : Rule) → Memᴰ q l → RuleFits n q
  good-rules-fit = rw (← g.each) (rules-fit s n index k 0 0 good-checked)

pub good-fits : (s : List ℕ) (n k index : ℕ) (l : List Rule) → Bytes s → read_of s ≡ good n k index l → Fits (book_of (read_of s))
unfolding book_of count
good-fits s n k index l b e =
    let g = (accepted s n k index l).0 e in
    rw e
    (record {
      atoms = omega (arith, b (length s - 6), g.atoms);
      rules = omega (arith, b (length s - 5), g.rules, good-count g);
      each = good-rules-fit g;
    })
