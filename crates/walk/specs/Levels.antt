-- Levels along the walk, and what a call of levels answers. Document 02, request 8: "for each coloured rule, the level at which it got its
-- colour: 0 for the first closing, then one more for each choice above it; a chosen rule has the level of its choice."
--
--   Node b n d       d is a closed colouring of the walk, with n choices above it
--   Down b d e       the walk goes down from the closed colouring d to the closed colouring e
--   dropped m e      the pair without the rules above level m
--   down b c x       the closed colouring to which the walk from c goes down if it follows the set x: at each choice to the side of x
--   levels_of book k limit out   the answer and the buffer, of the bytes of the book and of the buffer before
use Rattle.std.specs.Prelude.{◌≡◌, Bool, true, false, not, ◌&&◌, List, ℕ, zero, suc, ◌-◌, ltb, length, take, replicate}
use Rattle.meaning.specs.declared.RuleNo.{RuleNo}
use Rattle.meaning.specs.Written.{Tables}
use Rattle.meaning.specs.Books.{Atoms, Book, count}
use Rattle.meaning.specs.AnswerSet.{generating}
use Rattle.meaning.specs.Colours.{Pair, Side, on_side, off_side, uncoloured}
use Rattle.meaning.specs.Choice.{if_lt, if_eq}
use Rattle.meaning.specs.Told.{refused_at, refused, Answered}
use Rattle.meaning.specs.Buffers.{write_at}
use Rattle.meaning.specs.Written.{of, level_of, nothing, chosen, pair}
use Rattle.meaning.specs.Computed.{close}
use Rattle.meaning.specs.Lowest.{Pick, none, one, lowest, clashed}
use Rattle.book.specs.Format.{BookRead, good, bad, read_of}
use Rattle.closing.specs.declared.choice.Choice.{Choice}
use Rattle.closing.specs.declared.choice.Choice.TheVariants.{On, Off}
use Rattle.walk.specs.Events.{events}
use Rattle.walk.specs.Run.{State, run}
use Rattle.walk.specs.Find.{start_of, told_by}
use Rattle.walk.specs.Page.{set_in}
use Rattle.walk.specs.declared.tally.Halt.{Halt}
use Rattle.walk.specs.declared.tally.Halt.TheVariants.{Going, Full, Limit}

-- ---- the closed colourings of the walk

pub data Node (b : Book) : ℕ → Tables → Type 0 where
  at_first : Node b 0 (close b nothing)
  below : {n : ℕ} {d : Tables} {r : RuleNo} → Node b n d → clashed b (pair d) ≡ none → lowest b (uncoloured (pair d)) ≡ one r
      → (x : Side) → Node b (suc n) (close b (chosen x r d))

pub data Down (b : Book) (d : Tables) : Tables → Type 0 where
  here : Down b d d
  deeper : {e : Tables} {r : RuleNo} → Down b d e → clashed b (pair e) ≡ none → lowest b (uncoloured (pair e)) ≡ one r
      → (x : Side) → Down b d (close b (chosen x r e))

-- the rules of one set of a colouring, those above level m dropped
unfoldable pub kept : ℕ → Tables → List Bool → RuleNo → Bool
kept m e l r = of l r && not (ltb m (level_of e r))

abbrev pub dropped : ℕ → Tables → Pair
dropped m e = record { on = kept m e e.on; off = kept m e e.off }

-- ---- the way down to a set

unfoldable pub side_of : Bool → Side
side_of true = on_side
side_of false = off_side

-- the choice of the rule on that side
unfoldable pub choice_of : Bool → RuleNo → Choice
choice_of true r = On r
choice_of false r = Off r

-- after a closing that gave d: it ends at a contradiction and where every rule has a colour
unfoldable pub after_down : Book → Tables → Atoms → Pick → Pick → (Tables → Tables) → Tables
after_down b d x (one r) p further = d
after_down b d x none none further = d
after_down b d x none (one r) further = further (chosen (side_of (generating b x r)) r d)

-- through at most n levels
unfoldable pub down_in : ℕ → Book → Tables → Atoms → Tables
down_in zero b c x = c
down_in (suc n) b c x =
    let d = close b c in after_down b d x (clashed b (pair d)) (lowest b (uncoloured (pair d))) (λ e. down_in n b e x)

unfoldable pub down : Book → Tables → Atoms → Tables
down b c x = down_in (suc (count b)) b c x

-- ---- the answer

-- the row is what the walk wrote: where it is the k-th reading's, the levels of the colouring that it leads to are written
unfoldable pub levels_by : Book → Halt → List ℕ → List ℕ → List ℕ
levels_by b Going row out = out
levels_by b Full row out = write_at 0 (take (count b) (down b nothing (set_in row)).levels) out
levels_by b Limit row out = out

abbrev pub leveled_by : Book → State → ℕ → List ℕ → Answered ℕ
leveled_by b s limit out = record { told = told_by s.tally.halt s limit; buffer = levels_by b s.tally.halt s.out out }

-- as finding, but with a byte for each rule; the walk's own row has 255
unfoldable pub levels_in : Book → ℕ → ℕ → List ℕ → Answered ℕ
levels_in b k limit out =
    if_eq k 0 (record { told = refused 15; buffer = out })
    (if_lt (length out) (count b) (record { told = refused 8; buffer = out })
    (leveled_by b (run b (record { pass = k - 1; room = 1; limit = limit }) (start_of (replicate 255 0)) (events b nothing)) limit out))

unfoldable pub levels_read : BookRead → ℕ → ℕ → List ℕ → Answered ℕ
levels_read (good n r index l) k limit out = levels_in (record { atoms = n; rules = l }) k limit out
levels_read (bad i at) k limit out = record { told = refused_at i at; buffer = out }

unfoldable pub levels_of : List ℕ → ℕ → ℕ → List ℕ → Answered ℕ
levels_of book k limit out = levels_read (read_of book) k limit out
