-- Every book that fits the limits, written out, is read as good and gives the same rules. By recursion on the rules that are left: their
-- records are the part of the book up to the index, and their entries stand next in it. Document 01, "The rule book".
use mathlib.Core.Path.{◌≡◌, refl, sym, ◌∙◌, ap}
use mathlib.Core.List.Memᴰ
use mathlib.Core.List.{List, [], ◌∷◌, ◌++◌, map, append_assoc, Memᴰ}
use Prim.Native.Nat.{ℕ, ◌+◌, ◌*◌, ◌-◌, ◌≤◌, ◌%◌, ◌/◌}
use native.Mathlib.Nat.{add-zero, add_assoc, sub-zero}
use native.Mathlib.Omega.{arith}
use lib.ListN.{length, get_or, drop, length-append, length-map}
use lib.Seq.{drop-drop, take_at, drop_at, get_or-drop, get_or-append-add}
use Rattle.meaning.specs.declared.AtomNo.{AtomNo}
use Rattle.meaning.specs.Books.{atom_no, Rule, Book, count}
use Rattle.meaning.proofs.Choice.{eq_yes}
use Rattle.book.specs.Format.{u16_at, fine, positive_bytes, negative_bytes, length_of, rule_of, part_from, records_of, rules_of, good, read_of}
use Rattle.book.specs.Rows.{MarkGood, rule_count, index_start, GoodAs}
use Rattle.book.specs.Writing.{atom_bytes, BodyFits, RuleFits, Fits, record_bytes, records_bytes, index_bytes, trailer_bytes, bytes_of_book}
use Rattle.book.proofs.Slices.{part-after, positive-is, negative-is}
use Rattle.book.proofs.Parts.{PartFine, RecordFine, record-checked, then-fine}
use Rattle.book.proofs.Records.{records-good}
use Rattle.book.proofs.Refusals.{accepted}

atoms-bytes : (l : List AtomNo) → map atom_no (atom_bytes l) ≡ l
atoms-bytes [] = refl
atoms-bytes (a ∷ l) = ap (λ m. a ∷ m) (atoms-bytes l)

part-fits : (n : ℕ) (l : List AtomNo) → BodyFits n l → PartFine n (atom_bytes l)
part-fits n l f = record {
  ascends = f.ascends;
  below = λ x m. let (a, q, e) = Memᴰ.of_map (λ (a : AtomNo). a.0) l m in rw (← e) (f.below a q);
}

-- a record with bytes behind it
module _ (q : Rule) (t : List ℕ) where
  written-pos : positive_bytes (record_bytes q ++ t) (length q.pos) ≡ atom_bytes q.pos
  unfolding record_bytes
  written-pos = positive-is (record_bytes q ++ t) (length q.pos)
      ∙ rw append_assoc (take_at (atom_bytes q.pos) (atom_bytes q.neg ++ t) _ (length-map q.pos (λ a. a.0)))

  written-neg : negative_bytes (record_bytes q ++ t) (length q.pos) (length q.neg) ≡ atom_bytes q.neg
  unfolding record_bytes
  written-neg = negative-is (record_bytes q ++ t) (length q.pos) (length q.neg)
      ∙ rw (append_assoc, drop_at (atom_bytes q.pos) (atom_bytes q.neg ++ t) _ (length-map q.pos (λ a. a.0)))
      (take_at (atom_bytes q.neg) t _ (length-map q.neg (λ a. a.0)))

  written-length : length_of (record_bytes q ++ t) ≡ length (record_bytes q)
  unfolding length_of record_bytes
  written-length = simp (length-append, length-map) (omega arith)

  written-rule : rule_of (record_bytes q ++ t) ≡ q
  unfolding rule_of record_bytes
  written-rule =
      let p = ap (map atom_no) written-pos ∙ atoms-bytes q.pos in
      let n = ap (map atom_no) written-neg ∙ atoms-bytes q.neg in
      λ i. record { head = q.head; pos = p i; neg = n i }

  written-fine : (n : ℕ) → RuleFits n q → RecordFine n (record_bytes q ++ t)
  unfolding record_bytes
  written-fine n f = record {
    room = omega arith;
    few-pos = f.pos.short;
    few-neg = f.neg.short;
    ends = rw written-length (simp length-append (omega arith));
    head = f.head;
    pos = rw written-pos (part-fits n q.pos f.pos);
    neg = rw written-neg (part-fits n q.neg f.neg);
  }

entry_read : (s : List ℕ) (i m : ℕ) (t : List ℕ) → drop i s ≡ m % 256 ∷ (m / 256 ∷ t) → u16_at s i ≡ m
unfolding u16_at
entry_read s i m t e =
    let a : get_or s i 0 ≡ m % 256 = sym (rw add-zero at (get_or-drop i s 0 0)) ∙ ap (λ l. get_or l 0 0) e in
    let b : get_or s (i + 1) 0 ≡ m / 256 = sym (get_or-drop i s 1 0) ∙ ap (λ l. get_or l 1 0) e in
    omega arith

-- the rules l are left, from rule r on: their records are the part from `at` to the index, and their entries stand next in it
record Left (s : List ℕ) (n index : ℕ) (trailer : List ℕ) (l : List Rule) (r at : ℕ) : Type 0 where
  fit : (q : Rule) → Memᴰ q l → RuleFits n q
  part : part_from s index at ≡ records_bytes l
  entries : drop (index + 2 * r) s ≡ index_bytes at l ++ trailer
  ends : at + length (records_bytes l) ≡ index

module _ (s : List ℕ) (n index : ℕ) (trailer : List ℕ) where
  left-next : (q : Rule) (l : List Rule) (r at : ℕ) → Left s n index trailer (q ∷ l) r at
      → Left s n index trailer l (r + 1) (at + length (record_bytes q))
  unfolding records_bytes index_bytes
  left-next q l r at f = record {
    fit = λ p m. f.fit p (Memᴰ.tail m);
    part = sym (part-after s index at _) ∙ rw f.part (drop_at (record_bytes q) (records_bytes l) _ refl);
    entries = let e : index + 2 * (r + 1) ≡ index + 2 * r + 2 = omega arith in
        rw e (sym (drop-drop 2 (index + 2 * r) s) ∙ ap (drop 2) f.entries);
    ends = omega (arith, f.ends, length-append (record_bytes q) (records_bytes l));
  }

  entry_here : (q : Rule) (l : List Rule) (r at : ℕ) → Left s n index trailer (q ∷ l) r at → u16_at s (index + 2 * r) ≡ at
  unfolding index_bytes
  entry_here q l r at f = entry_read s (index + 2 * r) at _ f.entries

  records-read : (l : List Rule) (r at : ℕ) → Left s n index trailer l r at → records_of (length l) s n index r at ≡ fine
  unfolding records_of records_bytes
  records-read [] r at f = eq_yes _ _ _ _ (omega (arith, f.ends))
  records-read (q ∷ l) r at f =
      let g = record-checked n at _ (written-fine q (records_bytes l) n (f.fit q (Memᴰ.head refl))) in
      eq_yes _ _ _ _ (entry_here q l r at f)
      ∙ rw (f.part, written-length q (records_bytes l)) (then-fine g (records-read l (r + 1) _ (left-next q l r at f)))

  rules-read : (l : List Rule) (r at : ℕ) → Left s n index trailer l r at → rules_of (length l) s index r ≡ l
  unfolding rules_of records_bytes
  rules-read [] r at f = refl
  rules-read (q ∷ l) r at f =
      rw (entry_here q l r at f, f.part, written-rule q (records_bytes l), rules-read l (r + 1) _ (left-next q l r at f))

-- a rule of at most 16 atoms in a part
abbrev pub Short : Rule → Type 0
Short q = (length q.pos ≤ 16) × (length q.neg ≤ 16)

record-short : (q : Rule) → Short q → length (record_bytes q) ≤ 35
unfolding record_bytes
record-short q (p, n) = simp (length-append, length-map) (omega arith)

pub records-short : (l : List Rule) → ((q : Rule) → Memᴰ q l → Short q) → length (records_bytes l) ≤ 35 * length l
unfolding records_bytes
records-short [] f = omega arith
records-short (q ∷ l) f =
    omega (
      arith,
      length-append (record_bytes q) (records_bytes l),
      record-short q (f q (Memᴰ.head refl)),
      records-short l (λ p m. f p (Memᴰ.tail m)),
    )

pub index-length : (at : ℕ) (l : List Rule) → length (index_bytes at l) ≡ 2 * length l
unfolding index_bytes
index-length at [] = refl
index-length at (q ∷ l) = omega (arith, index-length (at + length (record_bytes q)) l)

-- where the third of three lists stands
third_at : (l m t : List ℕ) (i j : ℕ) → length l + length m + i ≡ j → get_or (l ++ (m ++ t)) j 0 ≡ get_or t i 0
third_at l m t i j e =
    rw (← e, add_assoc (length l) (length m) i) (get_or-append-add l (m ++ t) (length m + i) 0 ∙ get_or-append-add m t i 0)

module _ (b : Book) (f : Fits b) where
  abbrev index : ℕ
  index = length (records_bytes b.rules)

  abbrev trailer : List ℕ
  trailer = trailer_bytes b.atoms (count b) index

  pub book-length : length (bytes_of_book b) ≡ index + 2 * count b + 6
  unfolding bytes_of_book trailer_bytes count
  book-length = simp (length-append, index-length) (omega arith)

  all_left : Left (bytes_of_book b) b.atoms index trailer b.rules 0 0
  unfolding bytes_of_book
  all_left = record {
    fit = f.each;
    part = rw sub-zero (take_at (records_bytes b.rules) _ index refl);
    entries = let z : index + 2 * 0 ≡ index = omega arith in rw z (drop_at (records_bytes b.rules) _ index refl);
    ends = omega arith;
  }

  trailer-at : (i j : ℕ) → index + 2 * count b + i ≡ j → get_or (bytes_of_book b) j 0 ≡ get_or trailer i 0
  unfolding bytes_of_book count
  trailer-at i j e = third_at (records_bytes b.rules) (index_bytes 0 b.rules) trailer i j (rw (index-length 0 b.rules) e)

  mark-read : MarkGood (bytes_of_book b)
  unfolding trailer_bytes
  mark-read = record { first = trailer-at 4 _ (omega (arith, book-length)); second = trailer-at 5 _ (omega (arith, book-length)) }

  start-read : index_start (bytes_of_book b) ≡ index
  unfolding u16_at trailer_bytes
  start-read =
      let n = length (bytes_of_book b) in
      let low : get_or (bytes_of_book b) (n - 4) 0 ≡ index % 256 = trailer-at 2 _ (omega (arith, book-length)) in
      let high : get_or (bytes_of_book b) (n - 4 + 1) 0 ≡ index / 256 = trailer-at 3 _ (omega (arith, book-length)) in
      omega arith

  book-read : GoodAs (bytes_of_book b) b.atoms (count b) index b.rules
  unfolding trailer_bytes count
  book-read =
      let s = bytes_of_book b in
      let n = b.atoms in
      let rules : rule_count s ≡ count b = trailer-at 1 _ (omega (arith, book-length)) in
      let short = records-short b.rules (λ q m. ((f.each q m).pos.short, (f.each q m).neg.short)) in
      record {
        framed = record {
          size = record {
            at_least = omega (arith, book-length);
            at_most = omega (arith, book-length, short, f.rules);
          };
          mark = mark-read;
          trailer = omega (arith, book-length, start-read);
        };
        atoms = trailer-at 0 _ (omega (arith, book-length));
        rules = rules;
        start = start-read;
        records = records-good s n index (omega (arith, book-length)) (count b) (records-read s n index trailer b.rules 0 0 all_left);
        each = rules-read s n index trailer b.rules 0 0 all_left;
      }

  -- every book that fits the limits, written out, is read as good and gives the same rules
  pub read-write : read_of (bytes_of_book b) ≡ good b.atoms (count b) (length (records_bytes b.rules)) b.rules
  read-write = (accepted (bytes_of_book b) _ _ _ _).1 book-read
