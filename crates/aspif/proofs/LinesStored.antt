-- The lines of a text as the code stores them: what each loop has left to store, one line less after each turn, and how long a line is, piece
-- by piece.
use mathlib.Core.Path.{◌≡◌, refl, ap}
use mathlib.Core.List.{List, [], ◌∷◌, ◌++◌, map, append_assoc}
use Prim.Native.Nat.{ℕ, suc, ◌+◌, ◌-◌, ◌<◌, ◌≤◌}
use native.Mathlib.Numerals.{add-one}
use native.Mathlib.Omega.{arith}
use lib.ListN.{length, get_or, drop, length-append, length-map, drop_of_length-le}
use lib.Seq.{drop-cons}
use Rattle.meaning.specs.declared.AtomNo.{AtomNo}
use Rattle.meaning.specs.Books.{atom_no, rule_no, Rule, Book, rule, count}
use Rattle.book.specs.Format.{book_in, ReadAs}
use Rattle.book.specs.declared.reader.Shape.{Shape}
use Rattle.book.specs.Writing.{atom_bytes}
use Rattle.book.proofs.Places.{shape-count}
use Rattle.decimal.specs.Fewest.{decimal, Stored}
use Rattle.decimal.proofs.Fewest.{stored-then}
use Rattle.aspif.specs.Text.{opening, normal, plus, minus, line_end, output, name, condition}
use Rattle.aspif.specs.Text.{part_bytes, body_bytes, rule_line, rule_lines, output_line, output_lines}
use Rattle.aspif.proofs.Onward.{Onward, onward-room, onward-more, onward-end}

-- ---- the literals of a part

module _ (sign part whole : List ℕ) (start : ℕ) (before : List ℕ) (i : ℕ) {at : ℕ} {d : List ℕ}
    (o : Onward whole start before (part_bytes sign (map atom_no (drop i part))) at d) where
  part-next : i < length part → part_bytes sign (map atom_no (drop i part))
      ≡ (sign ++ decimal (get_or part i 0 + 1)) ++ part_bytes sign (map atom_no (drop (i + 1) part))
  unfolding part_bytes
  part-next h = rw (add-one i, drop-cons part i 0 h, append_assoc)

  module _ (h : i < length part) {x : ℕ} (e : x ≡ get_or part i 0) where
    pub part_room : at + length (sign ++ decimal (x + 1)) ≤ length d
    part_room = rw e (onward-room o (sign ++ decimal (get_or part i 0 + 1)) (part_bytes sign (map atom_no (drop (i + 1) part))) (part-next h))

    pub part-more : {n : ℕ} {f : List ℕ} → Stored (sign ++ decimal (x + 1)) at d n f
        → Onward whole start before (part_bytes sign (map atom_no (drop (i + 1) part))) n f
    part-more s = onward-more o _ _ (part-next h) (rw e at s)

  pub part-done : length part ≤ i → Stored whole start before at d
  unfolding part_bytes
  part-done h = onward-end o (rw (drop_of_length-le part h))

-- ---- a rule line

pub atoms-back : (l : List AtomNo) → map atom_no (atom_bytes l) ≡ l
atoms-back [] = refl
atoms-back (a ∷ l) = ap (λ k. a ∷ k) (atoms-back l)

-- h, p and q are the head and the two parts as the book's bytes have them
module _ (r : Rule) (h : ℕ) (p q : List ℕ) (eh : h ≡ r.head.0) (ep : p ≡ atom_bytes r.pos) (eq : q ≡ atom_bytes r.neg) where
  pub line-long : length (rule_line r)
      ≡ length (opening ++ decimal (h + 1)) + (length (normal ++ decimal (length p + length q))
      + (length (part_bytes plus (map atom_no p)) + (length (part_bytes minus (map atom_no q)) + 1)))
  unfolding rule_line body_bytes
  line-long = rw (eh, ep, eq, atoms-back, atoms-back, length-map, length-map) (simp length-append (omega arith))

  pub line-stored : {at n k i j m : ℕ} {d e f g l o : List ℕ} → Stored (opening ++ decimal (h + 1)) at d n e
      → Stored (normal ++ decimal (length p + length q)) n e k f → Stored (part_bytes plus (map atom_no p)) k f i g
      → Stored (part_bytes minus (map atom_no q)) i g j l → Stored line_end j l m o → Stored (rule_line r) at d m o
  unfolding rule_line body_bytes
  line-stored s t u v w =
      rw (append_assoc, append_assoc, eh, ep, eq, atoms-back, atoms-back, length-map, length-map) at
      (stored-then s (stored-then t (stored-then u (stored-then v w))))

-- ---- all rule lines

module _ (b : Book) (whole : List ℕ) (start : ℕ) (before : List ℕ) (i : ℕ) {at : ℕ} {d : List ℕ}
    (o : Onward whole start before (rule_lines (drop i b.rules)) at d) where
  lines_next : i < length b.rules → rule_lines (drop i b.rules) ≡ rule_line (rule b (rule_no i)) ++ rule_lines (drop (i + 1) b.rules)
  unfolding rule_lines rule
  lines_next h = rw (add-one i, drop-cons b.rules i (record { head = atom_no 0; pos = []; neg = [] }) h)

  pub lines-room : i < length b.rules → at + length (rule_line (rule b (rule_no i))) ≤ length d
  lines-room h = onward-room o (rule_line (rule b (rule_no i))) (rule_lines (drop (i + 1) b.rules)) (lines_next h)

  pub lines_more : i < length b.rules → {n : ℕ} {f : List ℕ} → Stored (rule_line (rule b (rule_no i))) at d n f
      → Onward whole start before (rule_lines (drop (i + 1) b.rules)) n f
  lines_more h s = onward-more o _ _ (lines_next h) s

  pub lines-done : length b.rules ≤ i → Stored whole start before at d
  unfolding rule_lines
  lines-done h = onward-end o (rw (drop_of_length-le b.rules h))

-- a rule of the shape is one of the book
module _ (s : List ℕ) (h : Shape) (e : ReadAs s h) {r : ℕ} where
  pub in-book : r < h.rules → r < length (book_in s).rules
  unfolding count
  in-book k = omega (arith, shape-count s h e)

  pub past-book : h.rules ≤ r → length (book_in s).rules ≤ r
  unfolding count
  past-book k = omega (arith, shape-count s h e)

-- ---- the output lines

-- w is how many digits the name has
module _ (n w : ℕ) (e : w ≡ length (decimal n)) where
  pub output-long : length (output_line n)
      ≡ length (output ++ decimal (1 + w)) + (length (name ++ decimal n) + (length (condition ++ decimal (n + 1)) + 1))
  unfolding output_line
  output-long = rw e (simp length-append (omega arith))

  pub output-stored : {at k i j m : ℕ} {d f g h l : List ℕ} → Stored (output ++ decimal (1 + w)) at d k f → Stored (name ++ decimal n) k f i g
      → Stored (condition ++ decimal (n + 1)) i g j h → Stored line_end j h m l → Stored (output_line n) at d m l
  unfolding output_line
  output-stored s t u v =
      rw (append_assoc, append_assoc) at (stored-then (rw e at s) (stored-then t (stored-then u v)))

module _ (whole : List ℕ) (start : ℕ) (before : List ℕ) (atoms n : ℕ) {at : ℕ} {d : List ℕ}
    (o : Onward whole start before (output_lines n (atoms - n)) at d) where
  outputs-next : n < atoms → output_lines n (atoms - n) ≡ output_line n ++ output_lines (n + 1) (atoms - (n + 1))
  unfolding output_lines
  outputs-next h = let e : atoms - n ≡ suc (atoms - (n + 1)) = omega arith in rw (e, add-one n)

  module _ (h : n < atoms) {x : ℕ} (e : x ≡ n) where
    pub outputs-room : at + length (output_line x) ≤ length d
    outputs-room = rw e (onward-room o (output_line n) (output_lines (n + 1) (atoms - (n + 1))) (outputs-next h))

    pub outputs-more : {k : ℕ} {f : List ℕ} → Stored (output_line x) at d k f
        → Onward whole start before (output_lines (n + 1) (atoms - (n + 1))) k f
    outputs-more s = onward-more o _ _ (outputs-next h) (rw e at s)

  pub outputs-done : atoms ≤ n → Stored whole start before at d
  unfolding output_lines
  outputs-done h = let e : atoms - n ≡ 0 = omega arith in onward-end o (rw e)
