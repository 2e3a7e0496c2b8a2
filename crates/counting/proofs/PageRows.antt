-- What the rows of a page add to the counts: its sets are the readings of the walk's events, no more of them than tries.
use Rattle.std.proofs.Common.{◌≡◌, ℕ, ◌+◌, ◌<◌, ◌≤◌, List, [], ◌∷◌, ◌++◌, map, length, get_or, take, drop, sym, refl, ap, ◌∙◌, arith, length-append, length-drop, take-append-drop, take_at}
use Rattle.meaning.specs.Books.{Atoms, atom_no, Book}
use Rattle.walk.specs.Events.{Event, clash, fork, reading, quiet}
use Rattle.walk.specs.Readings.{readings_in}
use Rattle.walk.specs.Run.{row_of}
use Rattle.walk.specs.Page.{set_in}
use Rattle.walk.proofs.Rows.{row_at, one-is}
use Rattle.walk.proofs.Needs.{amount}
use Rattle.walk.proofs.Paging.{filled}
use Rattle.walk.proofs.Shown.{page-rows}
use Rattle.counting.specs.Counts.{standing, standings, numbers_from}
use Rattle.counting.specs.SoFar.{sets_in, summed}
use Rattle.counting.proofs.Standing.{standing-append}
use Rattle.counting.proofs.Numbers.{numbers-length, numbers-place, numbers-same}

-- ---- no more sets than tries

pub sets-at-most-tries : (b : Book) (es : List Event) → amount b es ≤ length es
unfolding readings_in
sets-at-most-tries b [] = omega arith
sets-at-most-tries b (clash r ∷ es) = omega (arith, sets-at-most-tries b es)
sets-at-most-tries b (fork r ∷ es) = omega (arith, sets-at-most-tries b es)
sets-at-most-tries b (reading d ∷ es) = omega (arith, sets-at-most-tries b es)
sets-at-most-tries b (quiet ∷ es) = omega (arith, sets-at-most-tries b es)

-- ---- the sets of a page's rows are the readings

rows-standing : (b : Book) (i : ℕ) → i < b.atoms → (l : List Atoms)
    → standing (atom_no i) (map set_in (map (row_of b) l)) ≡ standing (atom_no i) l
unfolding standing set_in
rows-standing b i h [] = refl
rows-standing b i h (x ∷ l) = rw (row_at b x i h, one-is (x (atom_no i)), rows-standing b i h l)

pub page-standing : (b : Book) (i : ℕ) → i < b.atoms → (out : List ℕ) (es : List Event) {m : ℕ} {page : List ℕ} → m ≡ amount b es
    → page ≡ filled b out (readings_in b es) → standing (atom_no i) (sets_in b.atoms m page) ≡ standing (atom_no i) (readings_in b es)
unfolding sets_in
page-standing b i h out es e w =
    ap (λ (rows : List (List ℕ)). standing (atom_no i) (map set_in rows)) (page-rows b out es e w) ∙ rows-standing b i h (readings_in b es)

module _ (n : ℕ) (counts : List ℕ) (l : List Atoms) (e : take n counts ≡ standings n l) where
  pub counts-at : (i : ℕ) → i < n → get_or counts i 0 ≡ standing (atom_no i) l
  counts-at i h =
      ap (λ (k : List ℕ). get_or k i 0) (sym (take-append-drop n counts) ∙ ap (λ (k : List ℕ). k ++ drop n counts) e)
      ∙ numbers-place n _ i (drop n counts) h

  pub counts-more : (m more : List Atoms) → ((i : ℕ) → i < n → standing (atom_no i) m ≡ standing (atom_no i) more)
      → take n (summed n counts m) ≡ standings n (l ++ more)
  counts-more m more same =
      take_at _ _ n (numbers-length 0 n _)
      ∙ numbers-same 0 n _ _ (λ j h k.
      (λ i. counts-at j (omega arith) i + same j (omega arith) i) ∙ sym (standing-append (atom_no j) l more))

pub summed-length : (n : ℕ) (counts : List ℕ) (m : List Atoms) → n ≤ 255 → length counts ≡ 255 → length (summed n counts m) ≡ 255
summed-length n counts m h e =
    let f : ℕ → ℕ = λ i. get_or counts i 0 + standing (atom_no i) m in
    omega (arith, h, e, length-append (numbers_from 0 n f) (drop n counts), numbers-length 0 n f, length-drop n counts)
