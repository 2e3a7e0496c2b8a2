-- The rule lines of a book's text, read: the head, the positive atoms and the negative ones of each come out as the rule that was printed.
--
--   Link due w       `if` behind the head, `and` behind an atom: a literal may follow, or the line may end
use mathlib.Core.Path.{◌≡◌, refl, sym, ◌∙◌, subst}
use mathlib.Core.Bool.{Bool, true}
use mathlib.Core.List.{List, [], ◌∷◌, ◌++◌, map, append-nil, Memᴰ}
use Prim.{tt}
use Prim.Native.Nat.{ℕ, ◌+◌, ◌<◌, ◌≤◌}
use native.Mathlib.Omega.{arith}
use lib.ListN.{length, set, drop, length-append}
use lib.Seq.{append_snoc}
use borrow.Author.Tests.{lt-leb}
use Rattle.std.specs.Prelude.{Some}
use Rattle.meaning.specs.declared.AtomNo.{AtomNo}
use Rattle.meaning.specs.Books.{Rule}
use Rattle.book.specs.Writing.{BodyFits, RuleFits}
use Rattle.words.specs.declared.due.Due.{Due}
use Rattle.words.specs.declared.due.Due.TheVariants.{Line, AfterHead, Literal, Negative as DueNegative, AfterAtom}
use Rattle.words.specs.declared.due.Standing.TheVariants.{Head, Positive, Negative}
use Rattle.words.specs.declared.due.Said.TheVariants.{Nothing as Silent}
use Rattle.words.specs.declared.due.Ended.TheVariants.{Rule as Closes}
use Rattle.words.specs.declared.opened.Open.{Open}
use Rattle.words.specs.Words.{Word, Piece, word, line, pieces_at}
use Rattle.words.specs.Names.{number_in}
use Rattle.words.specs.Terms.{if_word, and_word, not_word, term_of}
use Rattle.words.specs.Moves.{on_name, move_of, ended_of}
use Rattle.words.specs.Reading.{placed, full, follow, follow_at, Says, says, said, names_of}
use Rattle.words.specs.Text.{GoodNames, name_of, literals, body_of, linked, rule_lines}
use Rattle.words.proofs.Apart.{names-long}
use Rattle.words.proofs.Numbers.{number-of}
use Rattle.words.proofs.Solid.{Solid, All, all_append, if-solid, and-solid, not-solid, name-solid}
use Rattle.words.proofs.Printed.{words_from, pieces_none, line_read}
use Rattle.words.proofs.Steps.{fixed_at, Ends, if-leads, and-leads, not-leads, name-leads, step-silent, step-atom, step-blank, step-closes}
use Rattle.words.proofs.Tables.{Table, table_none, next-below, table_more, table-room}

record Link (due : Due) (w : List ℕ) : Type 0 where
  leads : move_of due (term_of w) ≡ Some (Literal, Silent)
  ends : ended_of due ≡ Closes

if-link : Link AfterHead if_word
unfolding ended_of
if-link = record { leads = if-leads; ends = refl }

and-link : Link AfterAtom and_word
unfolding ended_of
and-link = record { leads = and-leads; ends = refl }

-- ---- the words of a rule keep together

module _ (l : List (List ℕ)) (g : GoodNames l) where
  literals-solid : (sign : List (List ℕ)) → All Solid sign → (k : List AtomNo) → ((a : AtomNo) → Memᴰ a k → a.0 < length l)
      → All (All Solid) (literals sign l k)
  unfolding All literals
  literals-solid sign s [] f = tt
  literals-solid sign s (a ∷ k) f = (
    all_append Solid sign (name_of l a ∷ []) s (name-solid _ (g.each a.0 (f a (Memᴰ.head refl))), tt),
    literals-solid sign s k (λ c m. f c (Memᴰ.tail m)),
  )

linked-solid : (w : List ℕ) → Solid w → (k : List (List (List ℕ))) → All (All Solid) k → All Solid (linked w k)
unfolding All linked
linked-solid w s [] f = tt
linked-solid w s (x ∷ k) (p, f) = all_append Solid (w ∷ x) (linked and_word k) (s, p) (linked-solid and_word and-solid k f)

-- ---- the body of a rule

module _ (l : List (List ℕ)) (g : GoodNames l) (few : length l ≤ 255) (names : List Word) (e : names_of names ≡ l) where
  as_many : length names ≡ length l
  as_many = sym (names-long names) ∙ rw e refl

  atom-number : (a : AtomNo) → a.0 < length l → number_in names (name_of l a) ≡ a.0
  atom-number a h =
      number-of names (name_of l a) (subst GoodNames (sym e) g) a.0 (omega (arith, as_many)) (rw e refl)

  module _ (y : Says) (ps : List Piece) (rules : List Rule) (end : ℕ) (r : Rule) (fits : RuleFits (length l) r)
      (next : (o : Open) → Ends y ps (fixed_at Line names (rules ++ (r ∷ [])) o)) where
    abbrev opened : List Bool → List Bool → Open
    opened t u = record { head = r.head; pos = t; neg = u }

    -- words, then the line's end and what follows
    abbrev spoken : ℕ → List (List ℕ) → List Piece
    spoken at ws = map word (words_from at ws) ++ (line end ∷ ps)

    negatives : (more before : List AtomNo) → before ++ more ≡ r.neg → (due : Due) (w : List ℕ) → Link due w → (at : ℕ) (t u : List Bool)
        → Table t r.pos → Table u before
        → Ends y (spoken at (linked w (literals (not_word ∷ []) l more))) (fixed_at due names rules (opened t u))
    unfolding words_from linked literals on_name placed full
    negatives [] before q due w k at t u p n =
        let neg = n.lists ∙ sym (append-nil before) ∙ q in
        step-closes y ps names rules (opened t u) due end r k.ends (λ i. record { head = r.head; pos = p.lists i; neg = neg i })
        (next (opened t u))
    negatives (a ∷ more) before q due w k at t u p n =
        let f = subst (BodyFits (length l)) (sym q) fits.neg in
        let h = next-below (length l) few before a more f in
        step-silent y _ names rules (opened t u) due Literal _ k.leads
        (step-silent y _ names rules (opened t u) Literal DueNegative _ not-leads
        (step-atom y _ names rules (opened t u) DueNegative AfterAtom _ Negative a.0 (name-leads DueNegative _ (g.each a.0 h))
        (atom-number a h) (omega (arith, as_many)) (table-room (length l) few before a more f u n)
        (negatives more (before ++ (a ∷ [])) (append_snoc before a more ∙ q) AfterAtom and_word and-link _ t (set u a.0 true) p
        (table_more (length l) few before a more f u n))))

    positives : (more before : List AtomNo) → before ++ more ≡ r.pos → (due : Due) (w : List ℕ) → Link due w → (at : ℕ) (t u : List Bool)
        → Table t before → Table u []
        → Ends y (spoken at (linked w (literals [] l more ++ literals (not_word ∷ []) l r.neg))) (fixed_at due names rules (opened t u))
    unfolding words_from linked literals on_name placed full
    positives [] before q due w k at t u p n =
        negatives r.neg [] refl due w k at t u (subst (Table t) (sym (append-nil before) ∙ q) p) n
    positives (a ∷ more) before q due w k at t u p n =
        let f = subst (BodyFits (length l)) (sym q) fits.pos in
        let h = next-below (length l) few before a more f in
        step-silent y _ names rules (opened t u) due Literal _ k.leads
        (step-atom y _ names rules (opened t u) Literal AfterAtom _ Positive a.0 (name-leads Literal _ (g.each a.0 h))
        (atom-number a h) (omega (arith, as_many)) (table-room (length l) few before a more f t p)
        (positives more (before ++ (a ∷ [])) (append_snoc before a more ∙ q) AfterAtom and_word and-link _ (set t a.0 true) u
        (table_more (length l) few before a more f t p) n))

    rule-read : (place at : ℕ) (o : Open) → length rules < 255
        → Ends y (word (record { place = place; bytes = name_of l r.head }) ∷ spoken at (linked if_word (body_of l r)))
        (fixed_at Line names rules o)
    unfolding on_name placed full
    rule-read place at o room =
        step-atom y _ names rules o Line AfterHead _ Head r.head.0 (name-leads Line _ (g.each r.head.0 fits.head))
        (atom-number r.head fits.head) (omega (arith, as_many, fits.head)) (lt-leb 255 (length rules) room)
        (positives r.pos [] refl AfterHead if_word if-link at _ _ table_none table_none)

  -- ---- the lines

  rule-solid : (r : Rule) → RuleFits (length l) r → All Solid (linked if_word (body_of l r))
  unfolding All
  rule-solid r f =
      linked-solid if_word if-solid (body_of l r)
      (all_append (All Solid) (literals [] l r.pos) (literals (not_word ∷ []) l r.neg)
      (literals-solid l g [] tt r.pos f.pos.below) (literals-solid l g (not_word ∷ []) (not-solid, tt) r.neg f.neg.below))

  rules-end : (rules : List Rule) (o : Open) → Ends (says l (rules ++ [])) [] (fixed_at Line names rules o)
  unfolding follow said
  rules-end rules o = rw (e, append-nil) refl

  pub rules-read : (text : List ℕ) (rs rules : List Rule) (o : Open) (at : ℕ) → drop at text ≡ rule_lines l rs
      → ((r : Rule) → Memᴰ r rs → RuleFits (length l) r) → length rules + length rs ≤ 255
      → said (follow_at text at (fixed_at Line names rules o)) ≡ says l (rules ++ rs)
  unfolding follow_at rule_lines ended_of
  rules-read text [] rules o at d f room =
      rw (pieces_none text at d) (step-blank _ [] names rules o Line (length text) refl (rules-end rules o))
  rules-read text (r ∷ rs) rules o at d f room =
      let fits = f r (Memᴰ.head refl) in
      let printed = line_read text at (name_of l r.head) (linked if_word (body_of l r)) (rule_lines l rs)
      (name-solid _ (g.each r.head.0 fits.head)) (rule-solid r fits) d in
      let y = says l (rules ++ (r ∷ rs)) in
      let next : (q : Open) → Ends y (pieces_at text (printed.end + 1)) (fixed_at Line names (rules ++ (r ∷ [])) q) =
      λ q. rules-read text rs (rules ++ (r ∷ [])) q (printed.end + 1) printed.next (λ c m. f c (Memᴰ.tail m))
      (omega (arith, length-append rules (r ∷ []))) ∙ rw (append_snoc rules r rs) refl in
      rw printed.pieces (rule-read y (pieces_at text (printed.end + 1)) rules printed.end r fits next at _ o (omega arith))
