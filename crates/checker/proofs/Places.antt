-- Where a wrong witness is refused: each of the two passes stops at the first byte that is wrong, and an unlisted rule that does not fail
-- is told last. A pass finds the first place that fails a condition, and no two places can be first. Document 01, number 27.
use mathlib.Core.Path.{◌≡◌, refl, sym, ◌∙◌, ap, subst, fun_ext}
use mathlib.Core.Logic.{⊎_elim}
use mathlib.Core.Bool.{Bool, true, false, not, ◌||◌, or_assoc, or_comm}
use mathlib.Core.List.{List, [], ◌∷◌, ◌++◌, map, append-nil}
use Prim.Native.Nat.{ℕ, zero, suc, ◌+◌, ◌-◌, ◌<◌}
use native.Mathlib.Nat.{not-suc-le-zero, add-zero, le_of_suc-le-suc}
use native.Mathlib.Omega.{arith}
use lib.ListN.{length, get_or, take}
use borrow.Author.Tests.{not-true}
use Rattle.meaning.specs.declared.RuleNo.{RuleNo}
use Rattle.meaning.specs.Sets.{◌∉◌, some}
use Rattle.meaning.specs.Books.{Atoms, Rules, rule_no, same_rule, among, Book, rule, InBook, some_rule}
use Rattle.meaning.specs.Paper.{fails}
use Rattle.meaning.proofs.Choice.{b-no, b-either}
use Rattle.meaning.proofs.Tests.{either, neither_left, neither_right, decided, true-and-false, refuted, proved}
use Rattle.meaning.proofs.Sets.{some-append}
use Rattle.meaning.proofs.Rules.{every-rule-at, every-rule-all, some-rule-by, some-rule-one}
use Rattle.checker.specs.Witness.{Check, fine, wrong, and_then, follows, order_of, blocked_of, rest_fails, list_of}
use Rattle.checker.specs.Places.{Follows, InTurn, heads_of, Unblocked, Each, WrongAt, not-next, has-negative, left_out}
use Rattle.checker.proofs.Witnesses.{follows-yes, yes-follows}

-- ---- the first place that fails a condition

-- of the places 0 to n-1, the first standing for the byte `at`
data First (P : ℕ → Type 0) (n at : ℕ) : Check → Type 0 where
  none : Each P n → First P n at fine
  here : (i : ℕ) → i < n → Each P i → ¬ P i → First P n at (wrong (at + i))

module _ (P : ℕ → Type 0) (n at : ℕ) where
  first_one : {c d : Check} → First P n at c → First P n at d → c ≡ d
  first_one (none f) (none g) = refl
  first_one (none f) (here i h g m) = absurd (m (f i h))
  first_one (here i h g m) (none f) = absurd (m (f i h))
  first_one (here i h f m) (here j k g o) =
      let u : ¬ (i < j) = λ l. m (g i l) in
      let v : ¬ (j < i) = λ l. o (f j l) in
      let e : i ≡ j = omega arith in
      rw e

  first-now : ¬ P 0 → First P (suc n) at (wrong at)
  first-now m =
      let x : First P (suc n) at (wrong (at + 0)) = here 0 (omega arith) (λ i h. absurd (not-suc-le-zero h)) m in rw add-zero at x

each-later : (P : ℕ → Type 0) {n : ℕ} → P 0 → Each (λ i. P (suc i)) n → Each P (suc n)
each-later P p f zero h = p
each-later P p f (suc i) h = f i (le_of_suc-le-suc h)

first-later : (P : ℕ → Type 0) {n at : ℕ} → P 0 → {c : Check} → First (λ i. P (suc i)) n (at + 1) c → First P (suc n) at c
first-later P p (none f) = none (each-later P p f)
first-later P {at = at} p (here i h f m) =
    let e : at + 1 + i ≡ at + suc i = omega arith in rw e (here (suc i) (omega arith) (each-later P p f) m)

-- ---- the two passes

module _ (b : Book) where
  -- the rules that stand before place i of the list, where the rules `before` stand before them all
  abbrev earlier : List RuleNo → List ℕ → ℕ → Rules
  earlier before l i = among (map rule_no (take i l) ++ before)

  abbrev Turn : List RuleNo → List ℕ → ℕ → Type 0
  Turn before l i = Follows b (earlier before l i) (get_or l i 0)

  earlier-next : (before : List RuleNo) (n : ℕ) (l : List ℕ) → earlier (rule_no n ∷ before) l ≡ (λ i. earlier before (n ∷ l) (suc i))
  unfolding some
  earlier-next before n l = fun_ext (λ i. fun_ext (λ r. swapped (map rule_no (take i l)) r))
    where
      swapped : (m : List RuleNo) (r : RuleNo) → among (m ++ (rule_no n ∷ before)) r ≡ among (rule_no n ∷ (m ++ before)) r
      swapped m r =
          let one = same_rule r (rule_no n) in
          let all = some (same_rule r) m in
          let rest = some (same_rule r) before in
          some-append (same_rule r) m (rule_no n ∷ before)
          ∙ sym (or_assoc all one rest)
          ∙ ap (λ (x : Bool). x || rest) (or_comm all one)
          ∙ or_assoc one all rest
          ∙ ap (λ (x : Bool). one || x) (sym (some-append (same_rule r) m before))

  order-first : (at : ℕ) (before : List RuleNo) (l : List ℕ) → First (Turn before l) (length l) at (order_of b at before l)
  unfolding order_of
  order-first at before [] = none (λ i h. absurd (not-suc-le-zero h))
  order-first at before (n ∷ l) =
      b-either (First (Turn before (n ∷ l)) (suc (length l)) at) (follows b before n) _ _
      (λ e. first-later (Turn before (n ∷ l)) (follows-yes b before n e)
      (subst (λ (p : ℕ → Rules). First (λ i. Follows b (p i) (get_or l i 0)) (length l) (at + 1) (order_of b (at + 1) (rule_no n ∷ before) l))
      (earlier-next before n l) (order-first (at + 1) (rule_no n ∷ before) l)))
      (λ e. first-now (Turn before (n ∷ l)) (length l) at (λ m. true-and-false (yes-follows b before n m) e))

  blocked-first : (x : Atoms) (at : ℕ) (l : List ℕ)
      → First (λ i. some x (rule b (rule_no (get_or l i 0))).neg ≡ false) (length l) at (blocked_of b x at l)
  unfolding blocked_of
  blocked-first x at [] = none (λ i h. absurd (not-suc-le-zero h))
  blocked-first x at (n ∷ l) =
      b-either (First (P (n ∷ l)) (suc (length l)) at) (some x (rule b (rule_no n)).neg) _ _
      (λ e. first-now (P (n ∷ l)) (length l) at (λ m. true-and-false e m))
      (λ e. first-later (P (n ∷ l)) e (blocked-first x (at + 1) l))
    where
      P : List ℕ → ℕ → Type 0
      P l i = some x (rule b (rule_no (get_or l i 0))).neg ≡ false

  -- ---- the rules that are not listed

  rest-one : (x : Atoms) (w : List RuleNo) → rest_fails b x w ≡ false
      → (r : RuleNo) × InBook b r × (r ∉ among w) × (fails x (rule b r) ≡ false)
  unfolding rest_fails
  rest-one x w e = ⊎_elim found none_found (decided (some_rule b unfit))
    where
      unfit : Rules
      unfit r = not (among w r || fails x (rule b r))

      found : some_rule b unfit ≡ true → (r : RuleNo) × InBook b r × (r ∉ among w) × (fails x (rule b r) ≡ false)
      found p =
          let (r, h, m) = some-rule-by b unfit p in
          let n = not-true (among w r || fails x (rule b r)) m in
          (r, h, neither_left (among w r) _ n, neither_right (among w r) _ n)

      none_found : some_rule b unfit ≡ false → (r : RuleNo) × InBook b r × (r ∉ among w) × (fails x (rule b r) ≡ false)
      none_found n = true-and-false (every-rule-all b _ (λ r h. proved (λ m. true-and-false (some-rule-one b unfit r h (ap not m)) n))) e

  one-rest : (x : Atoms) (w : List RuleNo) (r : RuleNo) → InBook b r → r ∉ among w → fails x (rule b r) ≡ false → rest_fails b x w ≡ false
  unfolding rest_fails
  one-rest x w r h m n = refuted (λ e. ⊎_elim (λ p. true-and-false p m) (λ p. true-and-false p n) (either (among w r) _ (every-rule-at b _ e r h)))

-- ---- the whole witness

data ListRow (b : Book) (s : List ℕ) (from : ℕ) (l : List ℕ) : Check → Type 0 where
  sound : ListRow b s from l fine
  unsound : {at : ℕ} → WrongAt b s from l at → ListRow b s from l (wrong at)

module _ (b : Book) (s : List ℕ) (from : ℕ) (l : List ℕ) where
  order-turn : First (InTurn b l) (length l) from (order_of b from [] l)
  order-turn = subst (λ (p : ℕ → Rules). First (λ i. Follows b (p i) (get_or l i 0)) (length l) from (order_of b from [] l))
      (fun_ext (λ i. ap (λ (w : List RuleNo). among w) (append-nil (map rule_no (take i l))))) (order-first b from [] l)

  list-row : ListRow b s from l (list_of b from (length s - 6) l)
  unfolding list_of and_then
  list-row = one (order_of b from [] l) _ order-turn
      (λ f. two f (blocked_of b (heads_of b l) from l) _ (blocked-first b (heads_of b l) from l)
      (λ g. b-either (ListRow b s from l) (rest_fails b (heads_of b l) (map rule_no l)) _ _ (λ e. sound)
      (λ e. let (r, h, m, n) = rest-one b (heads_of b l) (map rule_no l) e in unsound (left_out f g r h m n))))
    where
      one : (c d : Check) → First (InTurn b l) (length l) from c → (Each (InTurn b l) (length l) → ListRow b s from l d)
          → ListRow b s from l (and_then c d)
      one fine d (none f) g = g f
      one (wrong at) d (here i h f m) g = unsound (not-next i h f m)

      two : Each (InTurn b l) (length l) → (c d : Check) → First (Unblocked b l) (length l) from c
          → (Each (Unblocked b l) (length l) → ListRow b s from l d) → ListRow b s from l (and_then c d)
      two e fine d (none f) g = g f
      two e (wrong at) d (here i h f m) g = unsound (has-negative i h e f m)

  pub list-wrong : {at : ℕ} → list_of b from (length s - 6) l ≡ wrong at → WrongAt b s from l at
  list-wrong e = place (subst (ListRow b s from l) e list-row)
    where
      place : {at : ℕ} → ListRow b s from l (wrong at) → WrongAt b s from l at
      place (unsound w) = w

  pub wrong-list : {at : ℕ} → WrongAt b s from l at → list_of b from (length s - 6) l ≡ wrong at
  unfolding list_of and_then
  wrong-list (not-next i h f m) = rw (first_one (InTurn b l) (length l) from order-turn (here i h f m))
  wrong-list (has-negative i h e f m) =
      rw (
        first_one (InTurn b l) (length l) from order-turn (none e),
        first_one (Unblocked b l) (length l) from (blocked-first b (heads_of b l) from l) (here i h f m),
      )
  wrong-list (left_out e f r h m n) =
      rw (
        first_one (InTurn b l) (length l) from order-turn (none e),
        first_one (Unblocked b l) (length l) from (blocked-first b (heads_of b l) from l) (none f),
      )
      (b-no _ _ _ (one-rest b (heads_of b l) (map rule_no l) r h m n))
