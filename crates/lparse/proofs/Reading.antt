-- What a word does, as the code takes it, is what the words of the text say.
use mathlib.Core.Path.{◌≡◌, refl, ap, sym, ◌∙◌}
use mathlib.Core.List.{List}
use Prim.Native.Nat.{ℕ, ◌-◌, ◌<◌, ◌≤◌}
use native.Mathlib.Omega.{arith}
use lib.ListN.{length, take, drop}
use Rattle.std.specs.Prelude.{None, Ok, Err, Some}
use Rattle.meaning.specs.Choice.{ifb}
use Rattle.meaning.proofs.Choice.{b-either, lt_yes, lt_no, lt-either}
use Rattle.lparse.specs.declared.due.Due.{Due}
use Rattle.lparse.specs.declared.due.Due.TheVariants.{Number, Name, PlusWord, MinusWord, End}
use Rattle.lparse.specs.declared.due.Said.{Said}
use Rattle.lparse.specs.declared.due.Misplaced.TheVariants.{Format, Kind as OtherKind}
use Rattle.lparse.specs.declared.step.Taken.{Taken}
use Rattle.lparse.specs.declared.step.Unread.{Unread}
use Rattle.lparse.specs.declared.step.Unread.TheVariants.{Format as WrongFormat, Kind as WrongKind}
use Rattle.lparse.specs.Words.{start_of, end_of, Word, word_at}
use Rattle.lparse.specs.Reading.{Step, Move, move_of, whole, at_end, step_of, step_at, Part, nothing_more, with, Heard, says, wrong, adding, on_move, heard, heard_at}
use Rattle.lparse.proofs.Words.{start-late, word-grows, end-within, words-none, words_more}

module _ (s : List ℕ) (at : ℕ) (due : Due) where
  pub step-none : {r : Step} (start : ℕ) → start ≡ start_of s at → start ≡ length s → r ≡ at_end due start → r ≡ step_at s at due
  unfolding step_at
  step-none start e h g = g ∙ ap (at_end due) h ∙ sym (lt_no _ _ _ _ (omega arith))

  pub step-word : {r : Step} {m : Move} (start end : ℕ) → start ≡ start_of s at → start < length s → end ≡ end_of s start
      → m ≡ move_of due (take (end - start) (drop start s)) → r ≡ step_of m start end → r ≡ step_at s at due
  unfolding step_at word_at
  step-word start end e h f g k =
      k ∙ rw (g, f, e) (sym (lt_yes _ _ _ _ (omega arith)))

-- ---- what the text says from a place on, by the step that the code takes there

module _ (s : List ℕ) (at : ℕ) (due : Due) where
  heard-none : length s ≤ start_of s at → heard_at s at due ≡ ifb (whole due) (says nothing_more) (wrong 30 (length s))
  unfolding heard_at heard
  heard-none h = rw (words-none s at h)

  heard-word : start_of s at < length s →
      heard_at s at due ≡ on_move (move_of due (word_at s (start_of s at)).bytes) (word_at s (start_of s at))
      (λ next. heard_at s (end_of s (start_of s at)) next)
  unfolding heard_at heard
  heard-word h = rw (words_more s at h)

-- what is heard, from the step taken
unfoldable pub by_step : List ℕ → Step → Heard
by_step s (Ok (Some t)) = adding (word_at s t.from) t.said (heard_at s t.end t.next)
by_step s (Err (WrongFormat at)) = wrong 30 at
by_step s (Err (WrongKind at)) = wrong 31 at
by_step s (Ok None) = says nothing_more

ended : (s : List ℕ) (due : Due) → ifb (whole due) (says nothing_more) (wrong 30 (length s)) ≡ by_step s (at_end due (length s))
unfolding by_step at_end ifb whole
ended s (Number role) = refl
ended s (Name a) = refl
ended s PlusWord = refl
ended s MinusWord = refl
ended s End = refl

moved : (s : List ℕ) (m : Move) (from end : ℕ) →
    on_move m (word_at s from) (λ next. heard_at s end next) ≡ by_step s (step_of m from end)
unfolding by_step step_of on_move word_at
moved s (Ok (due, said)) from end = refl
moved s (Err Format) from end = refl
moved s (Err OtherKind) from end = refl

heard-step : (s : List ℕ) (at : ℕ) (due : Due) → heard_at s at due ≡ by_step s (step_at s at due)
unfolding step_at
heard-step s at due =
    lt-either (λ r. heard_at s at due ≡ by_step s r) (start_of s at) (length s) _ _
    (λ h. heard-word s at due h ∙ moved s _ _ _) (λ h. heard-none s at due h ∙ ended s due)

pub heard-by : (s : List ℕ) (at : ℕ) (due : Due) {r t : Step} → r ≡ step_at s at due → r ≡ t → heard_at s at due ≡ by_step s t
heard-by s at due e g = heard-step s at due ∙ ap (by_step s) (sym e ∙ g)

-- a word that is taken ends behind `at` and within the text
data Ahead (at len : ℕ) : Step → Type 0 where
  takes : {t : Taken} → at ≤ t.from → t.from < t.end → t.end ≤ len → Ahead at len (Ok (Some t))
  format : {place : ℕ} → Ahead at len (Err (WrongFormat place))
  kind : {place : ℕ} → Ahead at len (Err (WrongKind place))
  done : Ahead at len (Ok None)

ahead-end : (at len : ℕ) (due : Due) → Ahead at len (at_end due len)
unfolding at_end
ahead-end at len due = b-either (Ahead at len) (whole due) _ _ (λ e. done) (λ e. format)

ahead-move : (at len : ℕ) (m : Move) (from end : ℕ) → at ≤ from → from < end → end ≤ len → Ahead at len (step_of m from end)
unfolding step_of
ahead-move at len (Ok (due, said)) from end f g h = takes f g h
ahead-move at len (Err Format) from end f g h = format
ahead-move at len (Err OtherKind) from end f g h = kind

step-ahead : (s : List ℕ) (at : ℕ) (due : Due) → Ahead at (length s) (step_at s at due)
unfolding step_at
step-ahead s at due =
    lt-either (Ahead at (length s)) (start_of s at) (length s) _ _
    (λ h. ahead-move at (length s) _ _ _ (start-late s at) (word-grows s at h) (end-within s _ (omega arith)))
    (λ h. ahead-end at (length s) due)

ahead-parts : {at len : ℕ} {r : Step} (t : Taken) → Ahead at len r → r ≡ Ok (Some t) → (at ≤ t.from) × (t.from < t.end) × (t.end ≤ len)
ahead-parts t (takes {t = u} p q h) e = let a : u ≡ t = cc in rw (← a) (p, q, h)
ahead-parts t format e = let z : ◌≡◌ {A = ℕ} 0 1 = cc in absurd (omega arith)
ahead-parts t kind e = let z : ◌≡◌ {A = ℕ} 0 1 = cc in absurd (omega arith)
ahead-parts t done e = let z : ◌≡◌ {A = ℕ} 0 1 = cc in absurd (omega arith)

-- the move of a word that was taken, and its end
unfoldable MovedTo : List ℕ → Due → Step → Type 0
MovedTo s due (Ok (Some t)) = (move_of due (word_at s t.from).bytes ≡ Ok (t.next, t.said)) × (t.end ≡ end_of s t.from)
MovedTo s due (Err (WrongFormat at)) = Unit {0}
MovedTo s due (Err (WrongKind at)) = Unit {0}
MovedTo s due (Ok None) = Unit {0}

moved_by : (s : List ℕ) (due : Due) (m : Move) (from : ℕ) → move_of due (word_at s from).bytes ≡ m → MovedTo s due (step_of m from (end_of s from))
unfolding MovedTo step_of
moved_by s due (Ok (next, said)) from e = (e, refl)
moved_by s due (Err Format) from e = tt
moved_by s due (Err OtherKind) from e = tt

moved-end : (s : List ℕ) (due : Due) (len : ℕ) → MovedTo s due (at_end due len)
unfolding MovedTo at_end
moved-end s due len = b-either (MovedTo s due) (whole due) _ _ (λ e. tt) (λ e. tt)

moved-step : (s : List ℕ) (at : ℕ) (due : Due) → MovedTo s due (step_at s at due)
unfolding step_at
moved-step s at due =
    lt-either (MovedTo s due) (start_of s at) (length s) _ _ (λ h. moved_by s due _ _ refl) (λ h. moved-end s due (length s))

-- what the code knows of a word that it took
module _ (s : List ℕ) (at : ℕ) (due : Due) {r : Step} (e : r ≡ step_at s at due) (t : Taken) (g : r ≡ Ok (Some t)) where
  pub took-ahead : (at ≤ t.from) × (t.from < t.end) × (t.end ≤ length s)
  took-ahead = ahead-parts t (step-ahead s at due) (sym e ∙ g)

  pub took-behind : (at < t.end) × (t.end ≤ length s)
  took-behind = let (f, h, k) = took-ahead in (omega arith, k)

  took : (move_of due (word_at s t.from).bytes ≡ Ok (t.next, t.said)) × (t.end ≡ end_of s t.from)
  unfolding MovedTo
  took = rw (sym e ∙ g) at (moved-step s at due)

  pub took-move : move_of due (word_at s t.from).bytes ≡ Ok (t.next, t.said)
  took-move = took.0

  pub took-end : t.end ≡ end_of s t.from
  took-end = took.1

-- what a text says from a place on: what the word taken says, and what is said behind it
adding-part : (w : Word) (said : Said) (h : Heard) (p : Part) → adding w said h ≡ says p → (q : Part) × (h ≡ says q) × (with w said q ≡ p)
unfolding adding
adding-part w said (says q) p e = let g : with w said q ≡ p = cc in (q, refl, g)
adding-part w said (wrong i at) p e = let z : ◌≡◌ {A = ℕ} 0 1 = cc in absurd (omega arith)

module _ (s : List ℕ) (at : ℕ) (due : Due) {r : Step} (p : Part) (h : heard_at s at due ≡ says p) (e : r ≡ step_at s at due) where
  pub took-part : (t : Taken) → r ≡ Ok (Some t)
      → (q : Part) × (heard_at s t.end t.next ≡ says q) × (with (word_at s t.from) t.said q ≡ p)
  unfolding by_step
  took-part t g =
      adding-part (word_at s t.from) t.said (heard_at s t.end t.next) p (sym (heard-by s at due e g) ∙ h)

  pub never-unread : (u : Unread) → r ≡ Err u → ⊥
  unfolding by_step
  never-unread (WrongFormat place) g = let k = sym (heard-by s at due e g) ∙ h in let z : ◌≡◌ {A = ℕ} 0 1 = cc in omega arith
  never-unread (WrongKind place) g = let k = sym (heard-by s at due e g) ∙ h in let z : ◌≡◌ {A = ℕ} 0 1 = cc in omega arith

  pub done-part : r ≡ Ok None → nothing_more ≡ p
  unfolding by_step
  done-part g = let k = sym (heard-by s at due e g) ∙ h in cc

-- a text ends only where nothing is due any more
unfoldable EndsAt : Due → Step → Type 0
EndsAt due (Ok (Some t)) = Unit {0}
EndsAt due (Err (WrongFormat at)) = Unit {0}
EndsAt due (Err (WrongKind at)) = Unit {0}
EndsAt due (Ok None) = due ≡ End

ends-move : (due : Due) (m : Move) (from end : ℕ) → EndsAt due (step_of m from end)
unfolding EndsAt step_of
ends-move due (Ok (next, said)) from end = tt
ends-move due (Err Format) from end = tt
ends-move due (Err OtherKind) from end = tt

ends-whole : (due : Due) (len : ℕ) → EndsAt due (at_end due len)
unfolding EndsAt at_end whole ifb
ends-whole (Number role) len = tt
ends-whole (Name a) len = tt
ends-whole PlusWord len = tt
ends-whole MinusWord len = tt
ends-whole End len = refl

ends-step : (s : List ℕ) (at : ℕ) (due : Due) → EndsAt due (step_at s at due)
unfolding step_at
ends-step s at due =
    lt-either (EndsAt due) (start_of s at) (length s) _ _ (λ h. ends-move due _ _ _) (λ h. ends-whole due (length s))

pub done_end : (s : List ℕ) (at : ℕ) (due : Due) {r : Step} → r ≡ step_at s at due → r ≡ Ok None → due ≡ End
unfolding EndsAt
done_end s at due e g = rw (sym e ∙ g) at (ends-step s at due)
