-- The `atoms:` line, read: each name is new, and gets the next number.
use mathlib.Core.Path.{◌≡◌, sym, subst}
use mathlib.Core.List.{List, [], ◌∷◌, ◌++◌, map, map-append, append-nil}
use Prim.Native.Nat.{ℕ, ◌+◌, ◌≤◌}
use native.Mathlib.Omega.{arith}
use lib.ListN.{length, get_or, length-append}
use lib.Seq.{get_or-append_seam, append_snoc}
use Rattle.meaning.specs.Books.{Rule}
use Rattle.words.specs.declared.term.Term.TheVariants.{Name}
use Rattle.words.specs.declared.due.Due.TheVariants.{Listing}
use Rattle.words.specs.declared.opened.Open.{Open}
use Rattle.words.specs.Words.{Word, Piece, word}
use Rattle.words.specs.Terms.{term_of}
use Rattle.words.specs.Moves.{on_name}
use Rattle.words.specs.Reading.{Says, names_of}
use Rattle.words.specs.Text.{GoodNames}
use Rattle.words.proofs.Numbers.{number-new}
use Rattle.words.proofs.Printed.{words_from}
use Rattle.words.proofs.Steps.{fixed_at, Ends, name-leads, step-listed}

-- the name behind the others is a name
next-name : (k : List (List ℕ)) (w : List ℕ) (more : List (List ℕ)) → GoodNames (k ++ (w ∷ more)) → term_of w ≡ Name
next-name k w more g =
    let m = length-append k (w ∷ more) in
    let e : get_or (k ++ (w ∷ more)) (length k) [] ≡ w = get_or-append_seam k w more [] in
    rw e at (g.each (length k) (omega arith))

module _ (y : Says) (ps : List Piece) (rules : List Rule) (o : Open) where
  pub names-listed : (ws : List (List ℕ)) (at : ℕ) (names : List Word) → GoodNames (names_of names ++ ws) → length names + length ws ≤ 255
      → Ends y ps (fixed_at Listing (names ++ words_from at ws) rules o)
      → Ends y (map word (words_from at ws) ++ ps) (fixed_at Listing names rules o)
  unfolding words_from on_name
  names-listed [] at names g l h = rw append-nil at h
  names-listed (w ∷ ws) at names g l h =
      let v : Word = record { place = at + 1; bytes = w } in
      let more = words_from (at + 1 + length w) ws in
      let e : names_of (names ++ (v ∷ [])) ++ ws ≡ names_of names ++ (w ∷ ws) =
      rw (map-append (λ (x : Word). x.bytes) names (v ∷ [])) (append_snoc (names_of names) w ws) in
      step-listed y (map word more ++ ps) names rules o Listing Listing v (name-leads Listing w (next-name (names_of names) w ws g))
      (number-new names w ws g) (omega arith)
      (names-listed ws (at + 1 + length w) (names ++ (v ∷ [])) (subst GoodNames (sym e) g) (omega (arith, length-append names (v ∷ [])))
      (subst (λ (x : List Word). Ends y ps (fixed_at Listing x rules o)) (sym (append_snoc names v more)) h))
