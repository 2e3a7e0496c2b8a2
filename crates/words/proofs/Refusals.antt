-- A text is refused at a word or a line's end exactly if what stands before it can go on, and with it it cannot: the first such place decides.
use mathlib.Core.Path.{◌≡◌, refl, ap, ◌∙◌}
use mathlib.Core.List.{List, [], ◌∷◌, ◌++◌}
use Prim.Native.Nat.{ℕ}
use native.Mathlib.Omega.{arith}
use Rattle.words.specs.Words.{Piece, pieces}
use Rattle.words.specs.Reading.{State, Outcome, goes, wrong, on_piece, and_then, follow, follow_at, heard, start}

pub record Refused (ps : List Piece) (s : State) (i place : ℕ) : Type 0 where
  pub before : List Piece
  pub here : Piece
  pub behind : List Piece
  pub state : State
  pub split : ps ≡ before ++ (here ∷ behind)
  pub goes_on : follow before s ≡ goes state
  pub refused : on_piece here state ≡ wrong i place

-- going on and being refused are apart
unfoldable is_wrong : Outcome → ℕ
is_wrong (goes s) = 0
is_wrong (wrong i place) = 1

follow-refused : (i place : ℕ) (ps : List Piece) (s : State) → follow ps s ≡ wrong i place → Refused ps s i place
unfolding follow and_then is_wrong
follow-refused i place [] s e = let n : ◌≡◌ {A = ℕ} 0 1 = ap is_wrong e in absurd (omega arith)
follow-refused i place (p ∷ ps) s e = first (on_piece p s) refl e (λ t. follow-refused i place ps t)
  where
    first : (o : Outcome) → on_piece p s ≡ o → and_then o (follow ps) ≡ wrong i place
        → ((t : State) → follow ps t ≡ wrong i place → Refused ps t i place) → Refused (p ∷ ps) s i place
    first (goes t) f g k = let r = k t g in record {
      before = p ∷ r.before;
      here = r.here;
      behind = r.behind;
      state = r.state;
      split = ap (λ (l : List Piece). p ∷ l) r.split;
      goes_on = rw f r.goes_on;
      refused = r.refused;
    }
    first (wrong j q) f g k = record { before = []; here = p; behind = ps; state = s; split = refl; goes_on = refl; refused = f ∙ g }

-- what a piece does behind an outcome
unfoldable after : Piece → List Piece → Outcome → Outcome
after here behind (goes s) = and_then (on_piece here s) (follow behind)
after here behind (wrong i place) = wrong i place

refused-follow : (i place : ℕ) (before : List Piece) (s : State) (here : Piece) (behind : List Piece) (t : State) → follow before s ≡ goes t
    → on_piece here t ≡ wrong i place → follow (before ++ (here ∷ behind)) s ≡ wrong i place
unfolding follow and_then is_wrong after
refused-follow i place [] s here behind t e f =
    let g : and_then (on_piece here s) (follow behind) ≡ and_then (on_piece here t) (follow behind) = ap (after here behind) e in
    g ∙ rw f refl
refused-follow i place (p ∷ ps) s here behind t e f =
    first (on_piece p s) e (λ u g. refused-follow i place ps u here behind t g f)
  where
    first : (o : Outcome) → and_then o (follow ps) ≡ goes t
        → ((u : State) → follow ps u ≡ goes t → follow (ps ++ (here ∷ behind)) u ≡ wrong i place)
        → and_then o (follow (ps ++ (here ∷ behind))) ≡ wrong i place
    first (goes u) g k = k u g
    first (wrong j q) g k = let n : ◌≡◌ {A = ℕ} 1 0 = ap is_wrong g in absurd (omega arith)

-- 40, 41 and 42
pub refused-first : (text : List ℕ) (i place : ℕ) → heard text ≡ wrong i place → Refused (pieces text) start i place
unfolding follow_at
refused-first text i place e = follow-refused i place (pieces text) start e

pub first-refused : (text : List ℕ) (i place : ℕ) → Refused (pieces text) start i place → heard text ≡ wrong i place
unfolding follow_at
first-refused text i place r =
    ap (λ (l : List Piece). follow l start) r.split
    ∙ refused-follow i place r.before start r.here r.behind r.state r.goes_on r.refused
