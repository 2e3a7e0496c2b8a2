-- One turn of reading: the code's state behind a word or a line's end is that of the state behind it, and what is left of the text says
-- the rest.
use mathlib.Core.Path.{◌≡◌, refl, ap, sym, subst, ◌∙◌}
use mathlib.Core.Bool.{true, false}
use mathlib.Core.List.{List, [], ◌∷◌, ◌++◌, append-nil}
use Prim.Native.Nat.{ℕ, ◌+◌, ◌<◌, ◌≤◌}
use native.Mathlib.Omega.{arith}
use lib.ListN.{length, get_or}
use Rattle.std.specs.Prelude.{Ok, Err}
use Rattle.meaning.specs.Books.{Rule}
use Rattle.meaning.proofs.Choice.{lt_yes, lt_no, lt-either}
use Rattle.meaning.proofs.Tests.{true-and-false}
use Rattle.book.specs.declared.making.Making.{Making}
use Rattle.book.specs.Making.{rule_by, Made, Adds}
use Rattle.book.proofs.Made.{fits-small, made-fits, made-whole}
use Rattle.words.specs.declared.due.Due.{Due}
use Rattle.words.specs.declared.due.Ended.{Ended}
use Rattle.words.specs.declared.due.Ended.TheVariants.{Nothing as Blank, Rule as Closes, Missing}
use Rattle.words.specs.declared.decision.Act.{Act}
use Rattle.words.specs.declared.decision.Act.TheVariants.{Nothing, Fix, Note, Stand}
use Rattle.words.specs.declared.decision.Misplaced.{Misplaced}
use Rattle.words.specs.declared.decision.Misplaced.TheVariants.{Form}
use Rattle.words.specs.declared.step.Fate.{Fate}
use Rattle.words.specs.declared.step.Fate.TheVariants.{Goes, Done, Refused}
use Rattle.words.specs.declared.step.Reading.{Reading}
use Rattle.words.specs.Words.{start_of, end_of, Word, between, word_at}
use Rattle.words.specs.Names.{no_word}
use Rattle.words.specs.Moves.{ended_of}
use Rattle.words.specs.Reading.{Decision, number, State, known, done, goes, wrong, on_decision, decision_of, next_line, open_rule, on_ended, on_piece, and_then, follow_at, heard, book_of, start}
use Rattle.words.specs.Progress.{known_of, reading_of, Able, known_by, weighed, acted, halted, on_weighed, worded, closed_by, next_at, lined_by, Lined, goes_on, Good, InText, Holds, Along, going, whole, barred}
use Rattle.words.proofs.Words.{start-late}
use Rattle.words.proofs.Able.{weighed-able}
use Rattle.words.proofs.Places.{known_more, place-number, spelled-more}
use Rattle.words.proofs.Good.{good_start, good-blank, good-closed, good-word}
use Rattle.words.proofs.Follow.{follow-end, follow-line, follow-word, word-ahead, word_bytes, word-place, word_end, word_in}

-- reading goes on: the state, and what the rest of the text says
pub record OnWay (text : List ℕ) (r : Reading) (draft : List ℕ) : Type 0 where
  pub state : State
  pub same : r ≡ reading_of Goes r.at r.making state
  pub holds : Holds text state r.at r.making draft
  pub rest : follow_at text r.at state ≡ heard text

not_going : {A : Type 0} (f : Fate) → f ≡ Goes → goes_on f ≡ false → A
unfolding goes_on
not_going f e g = true-and-false (ap goes_on e) g

pub on-way : (text : List ℕ) (r : Reading) (draft : List ℕ) → Along text r draft → r.fate ≡ Goes → OnWay text r draft
unfolding goes_on
on-way text r draft (going s e h f) g = record { state = s; same = e; holds = h; rest = f }
on-way text r draft (whole s e h f) g = not_going r.fate g (ap (λ (x : Reading). goes_on x.fate) e)
on-way text r draft (barred why place e f) g = not_going r.fate g (ap goes_on e)

-- ---- a word, in the code's terms and in those of the definition

module _ (text : List ℕ) (s : State) (at : ℕ) (m : Making) (draft : List ℕ) (h : Holds text s at m draft) where
  pub weighed-decision : (f : Fate) (l : List ℕ) → m.rules ≡ length s.rules → weighed text l (reading_of f at m s) ≡ decision_of l s
  unfolding weighed decision_of
  weighed-decision f l e = rw (e, place-number text s.names h.spelled l) refl

  module _ (w : Word) (from to : ℕ) (p : from ≡ w.place) (q : to ≡ w.place + length w.bytes) where
    known-by : (a : ℕ) → a < 255 → known_by (known_of s.names) a from to ≡ known_of (known s.names a w)
    unfolding known_by known
    known-by a k =
        lt-either (λ (x : List Word). known_by (known_of s.names) a from to ≡ known_of x) a (length s.names) s.names (s.names ++ (w ∷ []))
        (λ g. lt_yes _ _ _ _ g) (λ g. lt_no _ _ _ _ g ∙ known_more s.names w from to p q (omega arith))

    pub acted-done : (f : Fate) (due : Due) (act : Act) → Able (length s.names) act
        → acted (reading_of f at m s) due act from to ≡ reading_of Goes to m (done due act w s)
    unfolding acted done Able
    acted-done f due Nothing k = refl
    acted-done f due Fix k = refl
    acted-done f due Note k = rw (known_more s.names w from to p q k) refl
    acted-done f due (Stand standing a) k = rw (known-by a k) refl

-- ---- what holds behind a word

module _ (text : List ℕ) (s : State) (w : Word) (t : InText text w) (f : (i : ℕ) → i < length s.names → InText text (get_or s.names i no_word)) where
  pub spelled-done : (due : Due) (act : Act) (i : ℕ) → i < length (done due act w s).names → InText text (get_or (done due act w s).names i no_word)
  unfolding done known
  spelled-done due Nothing = f
  spelled-done due Fix = f
  spelled-done due Note = spelled-more text s.names w f t
  spelled-done due (Stand standing a) =
      lt-either (λ (x : List Word). (i : ℕ) → i < length x → InText text (get_or x i no_word)) a (length s.names) s.names (s.names ++ (w ∷ []))
      (λ h. f) (λ h. spelled-more text s.names w f t)

made-done : (s : State) (w : Word) (due : Due) (act : Act) (m : Making) (draft : List ℕ) → Made s.rules m draft → Made (done due act w s).rules m draft
unfolding done
made-done s w due Nothing m draft h = h
made-done s w due Fix m draft h = h
made-done s w due Note m draft h = h
made-done s w due (Stand standing a) m draft h = h

-- ---- the turns

-- reading goes on behind the place that was reached before
abbrev pub Turned : List ℕ → ℕ → Reading → List ℕ → Type 0
Turned text at n draft = Along text n draft × (goes_on n.fate ≡ true → at < n.at)

module _ (text : List ℕ) (before : ℕ) (n : Reading) (draft : List ℕ) where
  goes_further : (s : State) (at : ℕ) (m : Making) → n ≡ reading_of Goes at m s → Holds text s at m draft → follow_at text at s ≡ heard text
      → before < at → Turned text before n draft
  goes_further s at m e h f k = rw e (going s refl h f, λ p. k)

  is-done : (s : State) (at : ℕ) (m : Making) → n ≡ reading_of Done at m s → Holds text s at m draft → goes s ≡ heard text
      → Turned text before n draft
  unfolding goes_on
  is-done s at m e h f = rw e (whole s refl h f, λ p. true-and-false p refl)

  module _ (r : Reading) (place : ℕ) where
    is-barred : (why : Misplaced) → n ≡ halted r (Refused why place) → wrong (number why) place ≡ heard text → Turned text before n draft
    unfolding goes_on
    is-barred why e f = rw e (barred why place refl f, λ p. true-and-false p refl)

-- the rules that were made are counted
pub rules-counted : (text : List ℕ) (s : State) (at : ℕ) (m : Making) (draft : List ℕ) → Holds text s at m draft
    → (m.fits ≡ true) × (m.rules ≡ length s.rules)
rules-counted text s at m draft h =
    let f = made-fits h.made (fits-small (book_of s) h.good.book) in
    (f, (made-whole h.made f).rules)

module _ (text : List ℕ) (r : Reading) (draft : List ℕ) (o : OnWay text r draft) where
  abbrev s : State
  s = o.state

  abbrev stood : Reading
  stood = reading_of Goes r.at r.making s

  pub few-names : r.names.count ≤ 255
  few-names = let e : r.names.count ≡ length s.names = ap (λ (x : Reading). x.names.count) o.same in omega (arith, o.holds.good.book.atoms)

  module _ (i j : ℕ) (f : (i ≡ start_of text r.at) × (j ≡ end_of text i) × (i < length text) × (get_or text i 0 ≡ 10 → ⊥)) where
    abbrev w : Word
    w = word_at text i

    weighed-as : weighed text (between text i j) r ≡ decision_of w.bytes s
    weighed-as =
        ap (λ (l : List ℕ). weighed text l r) (sym (word_bytes text r.at i j f)) ∙ ap (weighed text w.bytes) o.same
        ∙ weighed-decision text s r.at r.making draft o.holds Goes w.bytes (rules-counted text s _ _ draft o.holds).1

    by-decision : (n : Reading) (d : Decision) → decision_of w.bytes s ≡ d → n ≡ on_weighed d r i j
        → and_then (on_decision d w s) (follow_at text j) ≡ heard text → Turned text r.at n draft
    unfolding on_weighed on_decision and_then
    by-decision n (Ok (due, act)) e g k =
        let (a, b, c) = word-ahead text r.at i j f in
        let able = weighed-able text w.bytes stood o.holds.good.book.atoms due act
        (weighed-decision text s r.at r.making draft o.holds Goes w.bytes (rules-counted text s _ _ draft o.holds).1 ∙ e) in
        let same = g ∙ ap (λ (x : Reading). acted x due act i j) o.same
        ∙ acted-done text s r.at r.making draft o.holds w i j (sym (word-place text r.at i j f)) (sym (word_end text r.at i j f)) Goes due act able in
        goes_further text r.at n draft (done due act w s) j r.making same (record {
          inside = c;
          good = good-word s o.holds.good w w.bytes due act e;
          spelled = spelled-done text s w (word_in text r.at i j f) o.holds.spelled due act;
          made = made-done s w due act r.making draft o.holds.made;
        }) k (omega arith)
    by-decision n (Err why) e g k =
        is-barred text r.at n draft r i why g (ap (wrong (number why)) (sym (word-place text r.at i j f)) ∙ k)

    pub word-turn : (n : Reading) → n ≡ worded text r i j → Turned text r.at n draft
    unfolding on_piece
    word-turn n e =
        by-decision n (decision_of w.bytes s) refl (rw weighed-as at e) (sym (follow-word text r.at s i j f) ∙ o.rest)

  -- ---- a line's end

  ended-as : ended_of r.due ≡ ended_of s.due
  ended-as = ap (λ (x : Reading). ended_of x.due) o.same

  module _ (place at : ℕ) (fate : Fate) (m : Making) (after : List ℕ) (k : at ≤ length text) where
    next-line : (rules : List Rule) → Good (next_line rules s) → Made rules m after → Holds text (next_line rules s) at m after
    next-line rules g h = record { inside = k; good = g; spelled = o.holds.spelled; made = h }

    next-same : (n : Reading) (rules : List Rule) → n ≡ next_at r at fate m → n ≡ reading_of fate at m (next_line rules s)
    next-same n rules e = e ∙ ap (λ (x : Reading). next_at x at fate m) o.same

    -- a rule was closed or not, or a word is missing
    by-ended : {A : Type 0} (n : Reading) (e : Ended) → ended_of s.due ≡ e → Adds (closed_by e r.rule) r.making draft m after
        → n ≡ lined_by e r place at fate m
        → ((t : State) → n ≡ reading_of fate at m t → Holds text t at m after → on_ended e place s ≡ goes t → A)
        → (n ≡ halted r (Refused Form place) → on_ended e place s ≡ wrong 40 place → A) → A
    unfolding closed_by lined_by on_ended
    by-ended n Blank e a l f g =
        f (next_line s.rules s) (next-same n s.rules l)
        (next-line s.rules (good-blank s o.holds.good) (rw append-nil at (a.behind s.rules o.holds.made))) refl
    by-ended n Closes e a l f g =
        let rules = s.rules ++ (open_rule s ∷ []) in
        let h = a.behind s.rules o.holds.made in
        let p : rule_by r.rule.head r.rule.pos r.rule.neg ≡ open_rule s = ap (λ (x : Reading). rule_by x.rule.head x.rule.pos x.rule.neg) o.same in
        f (next_line rules s) (next-same n rules l) (next-line rules (good-closed s o.holds.good e) (rw p at h)) refl
    by-ended n Missing e a l f g = g l refl

  pub line-turn : (i : ℕ) → (i ≡ start_of text r.at) × (i < length text) × (get_or text i 0 ≡ 10) → (n : Reading) (after : List ℕ)
      → Lined r i (i + 1) Goes draft n after → Turned text r.at n after
  unfolding on_piece and_then
  line-turn i f n after l =
      let (e, h, x) = f in
      let rest = sym (follow-line text r.at s i f) ∙ o.rest in
      by-ended i (i + 1) Goes l.making after (omega arith) n (ended_of s.due) refl (rw ended-as at l.adds) (rw ended-as at l.next)
      (λ t p q g. goes_further text r.at n after t (i + 1) l.making p q (rw g at rest) (omega (arith, start-late text r.at)))
      (λ p g. is-barred text r.at n after r i Form p (rw g at rest))

  pub end-turn : length text ≤ start_of text r.at → (n : Reading) (after : List ℕ)
      → Lined r (length text) (length text) Done draft n after → Turned text r.at n after
  unfolding on_piece and_then
  end-turn f n after l =
      let rest = sym (follow-end text r.at s f) ∙ o.rest in
      by-ended (length text) (length text) Done l.making after (omega arith) n (ended_of s.due) refl (rw ended-as at l.adds) (rw ended-as at l.next)
      (λ t p q g. is-done text r.at n after t (length text) l.making p q (sym g ∙ rest))
      (λ p g. is-barred text r.at n after r (length text) Form p (sym g ∙ rest))

-- ---- begin and end

begun : (text : List ℕ) (m : Making) (draft : List ℕ) → Made [] m draft → Along text (reading_of Goes 0 m start) draft
begun text m draft h =
    going start refl (record { inside = omega arith; good = good_start; spelled = λ i k. absurd (omega arith); made = h }) refl

pub along-start : (text : List ℕ) (r : Reading) (draft : List ℕ) → r ≡ reading_of Goes 0 r.making start → Made [] r.making draft
    → Along text r draft
along-start text r draft e m = subst (λ (x : Reading). Along text x draft) (sym e) (begun text r.making draft m)
