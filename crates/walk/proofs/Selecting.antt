-- find_shown by its ways (src/selected.rt): what each return answers is what is asked of it; and the walk on which only fresh readings count
-- goes along the events of the shown atoms.
use mathlib.Core.Path.{◌≡◌, refl, sym, ◌∙◌, ap, ap₂, fun_ext}
use mathlib.Core.Logic.{⊎_elim}
use mathlib.Core.Bool.{Bool, true, false}
use mathlib.Core.List.{List, [], ◌∷◌, map, Memᴰ}
use Prim.Native.Nat.{ℕ, suc, ◌-◌, ◌≤◌, ◌<◌}
use native.Mathlib.Omega.{arith}
use lib.Dec.{eqb}
use lib.ListN.{length}
use borrow.Author.Tests.{eqb-true}
use Rattle.meaning.specs.declared.AtomNo.{AtomNo}
use Rattle.meaning.specs.Sets.{Set}
use Rattle.meaning.specs.Books.{Atoms, Rule, Book, atom_no, rule, count}
use Rattle.meaning.specs.Bits.{members}
use Rattle.meaning.specs.Choice.{ifb}
use Rattle.meaning.specs.Told.{Told, refused_at, refused}
use Rattle.meaning.specs.Written.{nothing}
use Rattle.meaning.proofs.Tests.{decided, same}
use Rattle.meaning.proofs.Choice.{b-yes, b-no, eq_yes, eq_no, lt_yes, lt_no}
use Rattle.meaning.proofs.LeastModel.{Proper}
use Rattle.std.specs.Prelude.{Result, Err}
use Rattle.book.specs.declared.reader.Shape.{Shape}
use Rattle.book.specs.declared.refusal.Refusal.{Refusal}
use Rattle.book.specs.Numbers.{number_of, place_of, told as book_told}
use Rattle.book.specs.Format.{good, bad, read_of, told_of, book_of, book_in, ReadAs}
use Rattle.book.proofs.Shapes.{told-good}
use Rattle.book.proofs.Verdict.{read-bad}
use Rattle.book.proofs.Places.{shape-atoms, in-shape, head-below}
use Rattle.walk.specs.Events.{events}
use Rattle.walk.specs.Run.{Wanted, State, run}
use Rattle.walk.specs.Find.{told_by, start_of, answered_by, find_along}
use Rattle.walk.specs.Shown.{alike, shown_events}
use Rattle.walk.specs.FirstAlike.{same_reading, first_among, is_this, fresh, counts, counted_by}
use Rattle.walk.specs.FindShown.{good_list, find_shown_in, find_shown_read, find_shown_of}
use Rattle.walk.specs.Search.{shown_in, in_list}
use Rattle.walk.specs.declared.tally.Tally.{Tally}
use Rattle.walk.specs.declared.verdict.Verdict.{Verdict}
use Rattle.walk.specs.declared.verdict.Verdict.TheVariants.{This, Another}
use Rattle.walk.proofs.Alike.{alike_at, alike_all}
use Rattle.walk.proofs.Fresh.{counts-fresh, all-counted, shown-counted}
use Rattle.walk.proofs.FullList.{full-list-all}
use Rattle.walk.proofs.ShownSets.{shown-at, shown_of}
use Rattle.walk.proofs.GoodLists.{list-good, list_at, list_of}
use Rattle.walk.proofs.Answering.{any-buffer}
use Rattle.walk.proofs.Walking.{few}

-- ---- two lists with the same atoms

module _ (b : Book) (s t : List AtomNo) (forth : (a : AtomNo) → Memᴰ a s → Memᴰ a t) (back : (a : AtomNo) → Memᴰ a t → Memᴰ a s) where
  alike_both : (x y : Atoms) → alike s x y ≡ alike t x y
  alike_both x y = same _ _
      (λ e. alike_all t x y (λ a m. alike_at s x y e a (back a m))) (λ e. alike_all s x y (λ a m. alike_at t x y e a (forth a m)))

  first-both : (x : Atoms) (l : List Atoms) → first_among b s x l ≡ first_among b t x l
  unfolding first_among
  first-both x [] = refl
  first-both x (y ∷ l) = ap₂ (λ (p : Bool) (v : Verdict). ifb p (ifb (same_reading b x y) This Another) v) (alike_both x y) (first-both x l)

  pub fresh-both : (x : Atoms) → fresh b s x ≡ fresh b t x
  unfolding fresh
  fresh-both x = ap is_this (first-both x _)

-- ---- the walk

module _ (b : Book) (fits : count b ≤ 255) (proper : Proper b) (shown mask : List ℕ) (em : members mask ≡ in_list shown)
    (ascends : good_list b.atoms shown ≡ true) where
  abbrev chosen-atoms : List AtomNo
  chosen-atoms = map atom_no shown

  fresh-list : (x : Atoms) → fresh b (shown_in mask) x ≡ fresh b chosen-atoms x
  fresh-list = fresh-both b (shown_in mask) chosen-atoms
      (λ a m. list_of shown a (sym (ap (λ (u : Set ℕ). u a.0) em) ∙ shown-at mask a m))
      (λ a m. shown_of mask a (ap (λ (u : Set ℕ). u a.0) em ∙ list_at shown a m))

  numbers-long : (l : List ℕ) → length (map atom_no l) ≡ length l
  numbers-long [] = refl
  numbers-long (x ∷ l) = ap suc (numbers-long l)

  pub selected-events : (every : Bool) → every ≡ eqb (length shown) b.atoms
      → counted_by b (counts every b (shown_in mask)) (events b nothing) ≡ shown_events b chosen-atoms
  selected-events every e = ⊎_elim
      (λ t. (λ i. counted_by b (counts (t i) b (shown_in mask)) (events b nothing)) ∙ all-counted b (shown_in mask) (events b nothing)
      ∙ sym (full-list-all b fits proper chosen-atoms (list-good b shown ascends) (numbers-long shown ∙ eqb-true (length shown) b.atoms (sym e ∙ t))))
      (λ f. ap (λ (p : Set Atoms). counted_by b p (events b nothing)) (fun_ext (λ x. counts-fresh b (shown_in mask) every f x ∙ fresh-list x))
      ∙ sym (shown-counted b fits chosen-atoms))
      (decided every)

-- every head of a book that was read is one of its atoms
read-proper : (s : List ℕ) (h : Shape) (e : ReadAs s h) → Proper (book_in s)
read-proper s h e r k = omega (arith, shape-atoms s h e, head-below s h e r (in-shape s h e r k) (rule (book_in s) r).head refl)

-- as the code lends it
pub selected-all : (s : List ℕ) (h : Shape) → ReadAs s h → h.rules < 256 → (shown mask : List ℕ) → members mask ≡ in_list shown
    → good_list h.atoms shown ≡ true → (w : Wanted) (t : State) {u : State}
    → u ≡ run (book_in s) w t (counted_by (book_in s) (counts (eqb (length shown) h.atoms) (book_in s) (shown_in mask)) (events (book_in s) nothing))
    → u ≡ run (book_in s) w t (shown_events (book_in s) (map atom_no shown))
selected-all s h e small shown mask em g w t eu = eu ∙ ap (run (book_in s) w t)
    (selected-events (book_in s) (few s h e small) (read-proper s h e) shown mask em (ap (λ (n : ℕ). good_list n shown) (shape-atoms s h e) ∙ g)
    (eqb (length shown) h.atoms) (ap (eqb (length shown)) (sym (shape-atoms s h e))))

-- ---- the answers

module _ (s : List ℕ) (k limit : ℕ) (shown answer : List ℕ) where
  pub shown-bad-book : (number at : ℕ) → read_of s ≡ bad number at
      → find_shown_of s k limit shown answer ≡ record { told = refused_at number at; buffer = answer }
  unfolding find_shown_of find_shown_read
  shown-bad-book number at e = rw e

  pub shown-good-book : (n r index : ℕ) (l : List Rule) → read_of s ≡ good n r index l
      → find_shown_of s k limit shown answer ≡ find_shown_in (book_in s) k limit shown answer
  unfolding find_shown_of find_shown_read book_in book_of
  shown-good-book n r index l e = rw e

pub selected-refused : (s : List ℕ) {x : Result Shape Refusal} → book_told x ≡ told_of (read_of s) → (k limit : ℕ) (shown answer : List ℕ) {f : Refusal}
    → x ≡ Err f → record { told = refused_at (number_of f) (place_of f); buffer = answer } ≡ find_shown_of s k limit shown answer
selected-refused s e k limit shown answer f = sym (shown-bad-book s k limit shown answer _ _ (read-bad s e f))

module _ (s : List ℕ) (h : Shape) (e : ReadAs s h) (k limit : ℕ) (shown answer : List ℕ) where
  selected-read : find_shown_of s k limit shown answer ≡ find_shown_in (book_in s) k limit shown answer
  selected-read = shown-good-book s k limit shown answer _ _ _ _ (told-good (read_of s) _ _ _ e)

  pub selected-no-number : k ≡ 0 → record { told = refused 15; buffer = answer } ≡ find_shown_of s k limit shown answer
  unfolding find_shown_in
  selected-no-number z = sym (selected-read ∙ eq_yes _ _ _ _ z)

  module _ (n : k ≡ 0 → ⊥) {x : Bool} (asked : x ≡ good_list h.atoms shown) where
    list-asked : good_list (book_in s).atoms shown ≡ x
    list-asked = ap (λ (m : ℕ). good_list m shown) (shape-atoms s h e) ∙ sym asked

    pub selected-no-list : x ≡ false → record { told = refused 16; buffer = answer } ≡ find_shown_of s k limit shown answer
    unfolding find_shown_in
    selected-no-list f = sym (selected-read ∙ eq_no _ _ _ _ n ∙ b-no _ _ _ (list-asked ∙ f))

    module _ (t : x ≡ true) where
      along : find_shown_of s k limit shown answer ≡ find_along (book_in s) (shown_events (book_in s) (map atom_no shown)) k limit answer
      unfolding find_shown_in
      along = selected-read ∙ eq_no _ _ _ _ n ∙ b-yes _ _ _ (list-asked ∙ t)

      pub selected-no-room : length answer < h.atoms → record { told = refused 8; buffer = answer } ≡ find_shown_of s k limit shown answer
      unfolding find_along
      selected-no-room l = sym (along ∙ eq_no _ _ _ _ n ∙ lt_yes _ _ _ _ (rw (shape-atoms s h e) l))

      pub selected-walked : h.atoms ≤ length answer → {u : Tally} {out : List ℕ} {r : Told ℕ}
          → record { tally = u; out = out } ≡ run (book_in s) (record { pass = k - 1; room = 1; limit = limit }) (start_of answer)
          (shown_events (book_in s) (map atom_no shown))
          → r ≡ told_by u.halt (record { tally = u; out = [] }) limit → record { told = r; buffer = out } ≡ find_shown_of s k limit shown answer
      unfolding find_along
      selected-walked l {u} {out} f g =
          rw (g ∙ any-buffer u.halt u limit [] out)
          (sym (along ∙ eq_no _ _ _ _ n ∙ lt_no _ _ _ _ (rw (shape-atoms s h e) l) ∙ ap (λ (v : State). answered_by v limit) (sym f)))
