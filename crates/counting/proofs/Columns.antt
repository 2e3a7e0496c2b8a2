-- The rows of a page counted atom by atom (src/column.rt): what one turn of each loop does.
use Rattle.std.proofs.Common.{◌≡◌, ℕ, zero, suc, ◌+◌, ◌*◌, ◌<◌, ◌≤◌, Bool, true, false, eqb, List, ◌∷◌, ◌++◌, length, get_or, take, drop, set, sym, refl, ap, ◌∙◌, ⊎_elim, suc-mul, zero-add, arith, length-append}
use mir.Val.{bool_byte}
use lib.Seq.{take_at, drop-append_seam}
use Rattle.meaning.specs.declared.AtomNo.{AtomNo}
use Rattle.meaning.specs.Books.{Atoms, atom_no}
use Rattle.meaning.specs.Choice.{ifb}
use Rattle.meaning.proofs.Tests.{decided}
use Rattle.meaning.proofs.Choice.{b-either}
use Rattle.walk.specs.Page.{set_in}
use Rattle.walk.specs.Listing.{rows_in}
use Rattle.counting.specs.Counts.{standing, numbers_from}
use Rattle.counting.specs.SoFar.{sets_in, summed}
use Rattle.counting.proofs.Standing.{standing-at-most}
use Rattle.counting.proofs.Numbers.{numbers-length, numbers-at, over, over-next, over-more, over-whole}

-- 1 where the test holds
pub one-byte : (t : Bool) → bool_byte t ≡ ifb t 1 0
unfolding ifb
one-byte true = refl
one-byte false = refl

pub one-most : (t : Bool) {v : ℕ} → v ≡ ifb t 1 0 → v ≤ 1
one-most t e = rw e (b-either (λ (n : ℕ). n ≤ 1) t 1 0 (λ h. omega arith) (λ h. omega arith))

standing-first : (a : AtomNo) (x : Atoms) (l : List Atoms) → standing a (x ∷ l) ≡ ifb (x a) 1 0 + standing a l
unfolding standing ifb
standing-first a x l = ⊎_elim (λ e. rw e (omega arith)) (λ e. rw e (omega arith)) (decided (x a))

sets-length : (n m : ℕ) (page : List ℕ) → length (sets_in n m page) ≡ m
unfolding sets_in rows_in
sets-length n zero page = refl
sets-length n (suc m) page = ap suc (sets-length n m (drop n page))

-- ---- one atom

-- of so many rows `left` are left, which the bytes `rest` hold, and the others were counted
pub record RowsLeft (page : List ℕ) (n atom rows found left : ℕ) (rest : List ℕ) (size : ℕ) : Type 0 where
  pub sized : size ≡ n
  pub room : left * n ≤ length rest
  pub few : found + left ≤ rows
  pub all : found + standing (atom_no atom) (sets_in n left rest) ≡ standing (atom_no atom) (sets_in n rows page)

module _ (page : List ℕ) (n atom rows : ℕ) where
  pub rows-start : rows * n ≤ length page → {left size : ℕ} {rest : List ℕ} → left ≡ rows → rest ≡ page → size ≡ n
      → RowsLeft page n atom rows 0 left rest size
  rows-start h e f g = rw (e, f, g) (record { sized = refl; room = h; few = omega arith; all = zero-add _ })

  -- the first row and those behind it
  rows-first : (m : ℕ) (row rest : List ℕ) → length row ≡ n → standing (atom_no atom) (sets_in n (suc m) (row ++ rest))
      ≡ ifb (eqb (get_or row atom 0) 1) 1 0 + standing (atom_no atom) (sets_in n m rest)
  unfolding sets_in rows_in set_in
  rows-first m row rest e =
      let first : take n (row ++ rest) ≡ row = take_at row rest n e in
      let behind : drop n (row ++ rest) ≡ rest = rw (← e) (drop-append_seam row rest) in
      rw (first, behind) (standing-first (atom_no atom) (set_in row) (sets_in n m rest))

  module _ {found left size : ℕ} {rest : List ℕ} (k : RowsLeft page n atom rows found left rest size) where
    pub rows-turn : (row behind : List ℕ) {fewer v next : ℕ} → next ≡ size → rest ≡ row ++ behind → length row ≡ size → fewer + 1 ≡ left
        → v ≡ ifb (eqb (get_or row atom 0) 1) 1 0 → (found + v ≤ rows) × RowsLeft page n atom rows (found + v) fewer behind next
    rows-turn row behind {fewer} same e wide less f =
        let g : left ≡ suc fewer = omega arith in
        let room : suc fewer * n ≤ length (row ++ behind) = rw (g, e) at k.room in
        let all = rw (g, e) at k.all in
        let one = one-most _ f in
        let first = rows-first fewer row behind (wide ∙ k.sized) in
        let long = length-append row behind in
        let many = suc-mul fewer n in (
          omega (arith, k.few),
          record {
            sized = same ∙ k.sized;
            room = omega (arith, k.sized);
            few = omega (arith, k.few);
            all = omega arith;
          },
        )

    pub rows-end : (0 < left → length rest < size) → found ≡ standing (atom_no atom) (sets_in n rows page)
    unfolding sets_in rows_in standing
    rows-end short = ended left k short
      where
        ended : (m : ℕ) → RowsLeft page n atom rows found m rest size → (0 < m → length rest < size)
            → found ≡ standing (atom_no atom) (sets_in n rows page)
        ended zero l none = omega (arith, l.all)
        ended (suc m) l none = absurd (omega (arith, l.room, l.sized, none (omega arith), suc-mul m n))

-- ---- all atoms

abbrev pub sums : List ℕ → ℕ → ℕ → List ℕ → List ℕ
sums page n m counts = numbers_from 0 n (λ i. get_or counts i 0 + standing (atom_no i) (sets_in n m page))

module _ (page : List ℕ) (n m : ℕ) (counts : List ℕ) (few : n ≤ 255) (long : length counts ≡ 255) where
  abbrev row : List ℕ
  row = sums page n m counts

  module _ {a : ℕ} {w : List ℕ} (below : a < n) (e : w ≡ over row counts a) {v : ℕ} (f : v ≡ standing (atom_no a) (sets_in n m page)) where
    sums_next : get_or w a 0 ≡ get_or counts a 0
    sums_next = over-next row counts a e (omega (arith, below, numbers-length 0 n (λ i. get_or counts i 0 + standing (atom_no i) (sets_in n m page))))

    pub sums-fit : ((i : ℕ) → i < n → get_or counts i 0 + m ≤ 4294967295) → get_or w a 0 + v ≤ 4294967295
    sums-fit fits = omega (arith, sums_next, f, fits a below, standing-at-most (atom_no a) (sets_in n m page), sets-length n m page)

    pub sums-turn : set w a (get_or w a 0 + v) ≡ over row counts (a + 1)
    sums-turn =
        let k = numbers-length 0 n (λ i. get_or counts i 0 + standing (atom_no i) (sets_in n m page)) in
        over-more row counts a e (omega (arith, below, k)) (omega arith)
        ((λ i. sums_next i + f i) ∙ ap (λ (j : ℕ). get_or counts j 0 + standing (atom_no j) (sets_in n m page)) (sym (zero-add a))
        ∙ sym (numbers-at 0 n _ a below))

  pub sums-end : {a : ℕ} {w : List ℕ} → a ≤ n → n ≤ a → w ≡ over row counts a → w ≡ summed n counts (sets_in n m page)
  sums-end {a} h k e = over-whole row counts a e (numbers-length 0 n _) (omega arith)
