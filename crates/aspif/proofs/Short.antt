-- How long the text of a book is that fits: at most 44,382 bytes. A rule line has at most 6 + 3 + 3 + 2 bytes, 16 positive literals of 4, 16
-- negative ones of 5 and the line end; an output line is at most `4 4 x254 1 255` and the line end.
use mathlib.Core.Path.{◌≡◌, refl}
use mathlib.Core.List.{List, [], ◌∷◌, Memᴰ}
use Prim.Native.Nat.{ℕ, zero, suc, ◌+◌, ◌*◌, ◌<◌, ◌≤◌}
use native.Mathlib.Omega.{arith}
use lib.ListN.{length, length-append}
use Rattle.meaning.specs.declared.AtomNo.{AtomNo}
use Rattle.meaning.specs.Books.{Rule, Book, count}
use Rattle.book.specs.Writing.{RuleFits, Fits}
use Rattle.decimal.specs.Fewest.{decimal}
use Rattle.decimal.proofs.Fewest.{decimal-short}
use Rattle.aspif.specs.Text.{plus, minus, part_bytes, body_bytes, rule_line, rule_lines, output_line, output_lines, text_of}

three : (n : ℕ) → n < 1000 → length (decimal n) ≤ 3
three n h = decimal-short 2 n h

part-short : (w : ℕ) (sign : List ℕ) (l : List AtomNo) → length sign + 3 ≤ w → ((a : AtomNo) → Memᴰ a l → a.0 < 255)
    → length (part_bytes sign l) ≤ w * length l
unfolding part_bytes
part-short w sign [] h f = omega arith
part-short w sign (a ∷ l) h f =
    let g : w * suc (length l) ≡ w * length l + w = omega arith in
    rw g (simp length-append (omega (
      arith,
      three (a.0 + 1) (omega (arith, f a (Memᴰ.head refl))),
      part-short w sign l h (λ c m. f c (Memᴰ.tail m)),
    )))

rule-short : (r : Rule) (n : ℕ) → n ≤ 255 → RuleFits n r → length (rule_line r) ≤ 159
unfolding rule_line body_bytes
rule-short r n h f =
    simp length-append (omega (
      arith,
      f.head,
      f.pos.short,
      f.neg.short,
      three (r.head.0 + 1) (omega (arith, f.head)),
      decimal-short 1 (length r.pos + length r.neg) (omega (arith, f.pos.short, f.neg.short)),
      part-short 4 plus r.pos (omega arith) (λ a m. omega (arith, f.pos.below a m)),
      part-short 5 minus r.neg (omega arith) (λ a m. omega (arith, f.neg.below a m)),
    ))

rules-short : (l : List Rule) (n : ℕ) → n ≤ 255 → ((r : Rule) → Memᴰ r l → RuleFits n r) → length (rule_lines l) ≤ 159 * length l
unfolding rule_lines
rules-short [] n h f = omega arith
rules-short (r ∷ l) n h f =
    simp length-append (omega (arith, rule-short r n h (f r (Memᴰ.head refl)), rules-short l n h (λ q m. f q (Memᴰ.tail m))))

outputs-short : (k n : ℕ) → k + n ≤ 255 → length (output_lines k n) ≤ 15 * n
unfolding output_lines output_line
outputs-short k zero h = omega arith
outputs-short k (suc n) h =
    simp length-append (omega (
      arith,
      three k (omega arith),
      three (k + 1) (omega arith),
      decimal-short 0 (1 + length (decimal k)) (omega (arith, three k (omega arith))),
      outputs-short (suc k) n (omega arith),
    ))

short : (b : Book) → b.atoms ≤ 255 → count b ≤ 255 → ((r : Rule) → Memᴰ r b.rules → RuleFits b.atoms r)
    → length (text_of b) ≤ 44382
unfolding text_of count
short b h g f = simp length-append (omega (arith, rules-short b.rules b.atoms h f, outputs-short 0 b.atoms (omega arith)))

pub text-short : (b : Book) → Fits b → length (text_of b) ≤ 44382
text-short b f = short b f.atoms f.rules f.each
