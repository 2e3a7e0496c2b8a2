-- The heads of a text's choices (specs/FreeHeads): the turns of the search, and that it gives the head whose helper has that number.
use mathlib.Core.Path.{◌≡◌, refl, ap, sym, ◌∙◌}
use mathlib.Core.List.{List, [], ◌∷◌, ◌++◌}
use Prim.Native.Nat.{ℕ, zero, suc, ◌-◌, ◌<◌}
use native.Mathlib.Omega.{arith}
use lib.ListN.{length, get_or}
use Rattle.std.specs.Prelude.{Option, Some, None, Ok, Err}
use Rattle.meaning.specs.Choice.{ifb, if_eq}
use Rattle.meaning.proofs.Choice.{b-either, lt-either, eq_yes, eq_no, eq-either}
use Rattle.imported.specs.declared.TextAtom.{TextAtom}
use Rattle.imported.specs.Making.{free_heads, free_count, free_head}
use Rattle.lparse.specs.declared.due.Role.{Role}
use Rattle.lparse.specs.declared.due.Role.TheVariants.{Kind, Head, HeadCount, Heads, Literals, Negatives, Negative, Positive, Table, Plus, Minus, Models}
use Rattle.lparse.specs.declared.due.Due.{Due}
use Rattle.lparse.specs.declared.due.Due.TheVariants.{Number, Name, PlusWord, MinusWord, End}
use Rattle.lparse.specs.declared.due.Said.{Said}
use Rattle.lparse.specs.declared.due.Misplaced.TheVariants.{Format, Kind as OtherKind}
use Rattle.lparse.specs.declared.step.Taken.{Taken}
use Rattle.lparse.specs.declared.step.Unread.{Unread}
use Rattle.lparse.specs.declared.step.Unread.TheVariants.{Format as WrongFormat, Kind as WrongKind}
use Rattle.lparse.specs.Words.{Word, word_at}
use Rattle.lparse.specs.Reading.{Step, Move, on_kind, on_atom, on_listed, on_head_count, on_negatives, on_number, number_in, on_value, signed, on_sign, move_of, step_at, Part, with, with_atom, with_choice, Heard, says, wrong, adding, heard_at}
use Rattle.lparse.specs.Collect.{text_in}
use Rattle.lparse.specs.FreeHeads.{nth_head, head_heard, free_head_of, is_free, head_said}
use Rattle.lparse.specs.Nth.{kth_found, kth_left}
use Rattle.lparse.specs.Says.{Written, text_said, Says}
use Rattle.lparse.proofs.Reading.{by_step, heard-by, took-move}
use Rattle.lparse.proofs.Phases.{Fits, FitsRole}
use Rattle.lparse.proofs.SaidText.{says-read}
use Rattle.lparse.proofs.Collecting.{heard-at-fits}

-- ---- one word more in front

-- the heads that the rest of a text says, in its order
unfoldable pub frees_of : Part → List TextAtom
frees_of p = p.heads ++ free_heads p.rules

unfoldable pub ahead : Option TextAtom → List TextAtom → List TextAtom
ahead (Some a) l = a ∷ l
ahead None l = l

unfoldable pub FirstFree : Word → Move → Type 0
FirstFree w (Ok (next, said)) = (p : Part) → Fits next p → frees_of (with w said p) ≡ ahead (head_said said) (frees_of p)
FirstFree w (Err Format) = Unit {0}
FirstFree w (Err OtherKind) = Unit {0}

module _ (w : Word) where
  free-number : (role : Role) (n : ℕ) → FirstFree w (on_number role n)
  unfolding FirstFree Fits FitsRole on_number on_kind on_atom on_listed on_head_count on_negatives with with_atom with_choice frees_of free_heads ahead head_said is_free ifb
  free-number Kind n =
      eq-either (FirstFree w) n 0 _ _ (λ e p f. refl)
      (λ e. eq-either (FirstFree w) n 1 _ _ (λ g p f. refl) (λ g. eq-either (FirstFree w) n 3 _ _ (λ i p f. refl) (λ i. tt)))
  free-number Head n =
      eq-either (FirstFree w) n 0 _ _ (λ e. tt) (λ e p f. ap (λ l. l ++ free_heads p.rules) (sym f))
  free-number HeadCount n = eq-either (FirstFree w) n 0 _ _ (λ e. tt) (λ e p f. refl)
  free-number (Heads m) n = eq-either (FirstFree w) n 0 _ _ (λ e. tt) (λ e p f. refl)
  free-number Literals n = λ p f. refl
  free-number (Negatives l) n = lt-either (FirstFree w) l n _ _ (λ h. tt) (λ h p f. refl)
  free-number (Negative i j) n = eq-either (FirstFree w) n 0 _ _ (λ e. tt) (λ e p f. refl)
  free-number (Positive j) n = eq-either (FirstFree w) n 0 _ _ (λ e. tt) (λ e p f. refl)
  free-number Table n = eq-either (FirstFree w) n 0 _ _ (λ e p f. refl) (λ e p f. refl)
  free-number Plus n = eq-either (FirstFree w) n 0 _ _ (λ e p f. refl) (λ e p f. refl)
  free-number Minus n = eq-either (FirstFree w) n 0 _ _ (λ e p f. refl) (λ e p f. refl)
  free-number Models n = λ p f. refl

  free-value : (role : Role) (d : Option ℕ) → FirstFree w (on_value role d)
  unfolding FirstFree on_value
  free-value role (Some n) = free-number role n
  free-value role None = tt

  free-first : (due : Due) (l : List ℕ) → FirstFree w (move_of due l)
  unfolding FirstFree move_of on_sign with with_atom frees_of ahead head_said is_free ifb
  free-first (Number role) l = free-value role (number_in l)
  free-first (Name a) l = λ p f. refl
  free-first PlusWord l = b-either (FirstFree w) (signed l 43) _ _ (λ e p f. refl) (λ e. tt)
  free-first MinusWord l = b-either (FirstFree w) (signed l 45) _ _ (λ e p f. refl) (λ e. tt)
  free-first End l = tt

-- ---- the search

-- a head found, or else the one that the rest has
unfoldable pub found_or : Option TextAtom → Option TextAtom → Option TextAtom
found_or (Some a) y = Some a
found_or None y = y

stays : (x : Option TextAtom) → x ≡ found_or x None
unfolding found_or
stays (Some a) = refl
stays None = refl

-- what the whole search gives, from the head found so far and what is heard of the rest
unfoldable pub found_from : Option TextAtom → ℕ → Heard → Option TextAtom
found_from found left (says p) = found_or found (nth_head (frees_of p) left)
found_from found left (wrong i at) = None

head-turn : (found here : Option TextAtom) (left : ℕ) (l : List TextAtom)
    → found_or found (nth_head (ahead here l) left) ≡ found_or (kth_found found here left) (nth_head l (kth_left left here))
unfolding found_or kth_found kth_left nth_head ahead
head-turn (Some a) (Some c) left l = refl
head-turn (Some a) None left l = refl
head-turn None (Some c) left l =
    eq-either (λ x. if_eq left 0 (Some c) (nth_head l (left - 1)) ≡ found_or x (nth_head l (left - 1))) left 0 _ _
    (λ e. eq_yes _ _ _ _ e) (λ e. eq_no _ _ _ _ e)
head-turn None None left l =
    eq-either (λ x. nth_head l left ≡ found_or x (nth_head l left)) left 0 _ _ (λ e. refl) (λ e. refl)

said-turn : (w : Word) (next : Due) (said : Said) (h : Heard) (found : Option TextAtom) (left : ℕ) → FirstFree w (Ok (next, said))
    → ((p : Part) → h ≡ says p → Fits next p)
    → found_from found left (adding w said h) ≡ found_from (kth_found found (head_said said) left) (kth_left left (head_said said)) h
unfolding FirstFree found_from adding
said-turn w next said (says p) found left f fits =
    ap (λ l. found_or found (nth_head l left)) (f p (fits p refl)) ∙ head-turn found (head_said said) left (frees_of p)
said-turn w next said (wrong i at) found left f fits = refl

module _ (s : List ℕ) (at : ℕ) (due : Due) (found : Option TextAtom) (left : ℕ) {r : Step} (e : r ≡ step_at s at due) where
  pub free-turn : (t : Taken) → r ≡ Ok (Some t)
      → {here : Option TextAtom} → here ≡ head_said t.said → {f : Option TextAtom} → f ≡ kth_found found here left → {l : ℕ} → l ≡ kth_left left here
      → found_from found left (heard_at s at due) ≡ found_from f l (heard_at s t.end t.next)
  unfolding by_step
  free-turn t g h i j =
      ap (found_from found left) (heard-by s at due e g)
      ∙ said-turn (word_at s t.from) t.next t.said (heard_at s t.end t.next) found left
      (rw (took-move s at due e t g) at (free-first (word_at s t.from) due (word_at s t.from).bytes)) (heard-at-fits s t.end t.next)
      ∙ sym (rw (i, j, h))

  pub free-unread : (u : Unread) → r ≡ Err u → None ≡ found_from found left (heard_at s at due)
  unfolding by_step found_from
  free-unread (WrongFormat place) g = sym (ap (found_from found left) (heard-by s at due e g))
  free-unread (WrongKind place) g = sym (ap (found_from found left) (heard-by s at due e g))

  pub free-done : r ≡ Ok None → found ≡ found_from found left (heard_at s at due)
  unfolding by_step found_from nth_head frees_of free_heads
  free-done g = stays found ∙ sym (ap (found_from found left) (heard-by s at due e g))

-- at a rule's start no head is open
pub free-start : (s : List ℕ) (j : ℕ) → free_head_of s j ≡ found_from None j (text_in s)
unfolding head_heard found_from found_or Fits FitsRole frees_of
free-start s j = go (text_in s) (heard-at-fits s 0 (Number Kind))
  where
    shut : (p : Part) → Fits (Number Kind) p → nth_head (free_heads p.rules) j ≡ nth_head (frees_of p) j
    shut p f = ap (λ l. nth_head (l ++ free_heads p.rules) j) (sym f.no-head)

    go : (h : Heard) → ((p : Part) → h ≡ says p → Fits (Number Kind) p) → head_heard h j ≡ found_from None j h
    go (says p) f = shut p (f p refl)
    go (wrong i at) f = refl

-- ---- what the search gives, of a text in the format

nth-below : (l : List TextAtom) (j : ℕ) → j < length l → nth_head l j ≡ Some (get_or l j (record { 0 = 0 }))
unfolding nth_head
nth-below [] j h = absurd (omega arith)
nth-below (a ∷ l) zero h = eq_yes _ _ _ _ refl
nth-below (a ∷ l) (suc j) h =
    let e : suc j - 1 ≡ j = omega arith in
    eq_no _ _ _ _ (λ z. omega arith) ∙ ap (nth_head l) e ∙ nth-below l j (omega arith)

-- the head told is the one that the helper's number stands for
pub free-head-right : (s : List ℕ) (w : Written) → Says s w → (j : ℕ) → j < free_count (text_said w) → free_head_of s j ≡ Some (free_head (text_said w) j)
unfolding head_heard free_count free_head
free-head-right s w h j k = rw (says-read s w h) (nth-below (free_heads w.rules) j k)
