-- Two books joined (document 02, request 9). The reduct of the joined book is the reduct of the first and, numbered on, that of the second, so a set is
-- closed under it exactly if both its parts are closed under theirs. All else follows by trying minimality on a set with one part changed.
use mathlib.Core.Path.{◌≡◌, refl, sym, ◌∙◌, ap, fun_ext}
use mathlib.Core.Logic.{◌↔◌}
use mathlib.Core.Bool.{Bool, true, false, not, ◌&&◌}
use mathlib.Core.List.{List, [], ◌∷◌, ◌++◌, map}
use Prim.Native.Nat.{ℕ, zero, suc, ◌+◌, ◌<◌}
use native.Mathlib.Nat.{le_of_suc-le-suc}
use native.Mathlib.Omega.{arith}
use lib.ListN.{length, get_or, length-append, length-map, get_or-append}
use lib.Seq.{get_or-append-add}
use Rattle.meaning.specs.declared.AtomNo.{AtomNo}
use Rattle.meaning.specs.declared.RuleNo.{RuleNo}
use Rattle.meaning.specs.Sets.{Set, ◌∈◌, every}
use Rattle.meaning.specs.Books.{Atoms, rule_no, Rule, Book, count, rule, InBook}
use Rattle.meaning.specs.AnswerSet.{keep_unless, reduct, obeys, ClosedUnder, AnswerSet, Throughout, Certain, Clear}
use Rattle.meaning.specs.Joined.{up_atom, up_rule, joined, Own, first_part, second_part, united, SomeAnswer}
use Rattle.meaning.proofs.Tests.{both, and_left, and_right, same}
use Rattle.meaning.proofs.Sets.{every-mono, every_append}
use Rattle.meaning.proofs.Parts.{every_map, every-alike, first_below, first_by, first-united, second-united, united-parts}
use Rattle.meaning.proofs.Parts.{first-within, second-within, parts_within}
use Rattle.meaning.proofs.Parts.{own-more, own-up, reduct-own, obeys-first, reduct-first, reduct-up, obeys-up}

-- facts that are alike hold alike
throughout-alike : {b : Book} {f g : Set Atoms} → ((x : Atoms) → f x ≡ g x) → Throughout b f → Throughout b g
throughout-alike alike t = record { one = t.one; each = λ x k. sym (alike x) ∙ t.each x k }

-- ---- the rules of the joined book

pub joined-count : (b c : Book) → count (joined b c) ≡ count b + count c
unfolding joined count
joined-count b c = simp (length-append, length-map)

place_map : {A B : Type 0} (f : A → B) (l : List A) (i : ℕ) (d : B) (e : A) → i < length l → get_or (map f l) i d ≡ f (get_or l i e)
place_map f [] i d e h = absurd (omega arith)
place_map f (x ∷ l) zero d e h = refl
place_map f (x ∷ l) (suc i) d e h = place_map f l i d e (le_of_suc-le-suc h)

-- rule r of the first book is rule r of the joined book, and rule r of the second, numbered on, is rule R1 + r
pub joined-rule-first : (b c : Book) (r : RuleNo) → InBook b r → rule (joined b c) r ≡ rule b r
unfolding joined rule count
joined-rule-first b c r h = get_or-append b.rules _ _ r.0 h

pub joined-rule-second : (b c : Book) (r : RuleNo) → InBook c r
    → rule (joined b c) (rule_no (count b + r.0)) ≡ up_rule b.atoms (rule c r)
unfolding joined rule count
joined-rule-second b c r h = get_or-append-add b.rules _ r.0 _ ∙ place_map _ c.rules r.0 _ _ h

-- a joined book can be joined again
pub joined-own : (b c : Book) → Own b → Own c → Own (joined b c)
unfolding joined
joined-own b c own owned = rw (every_append, every_map) (both
    (every-mono (own-more b.atoms c.atoms) _ own)
    (every-mono (own-up b.atoms c.atoms) _ owned))

-- ---- the reduct of the joined book (J1)

keep_append : (t : Bool) (r : Rule) (l m : List Rule) → keep_unless t r (l ++ m) ≡ keep_unless t r l ++ m
unfolding keep_unless
keep_append true r l m = refl
keep_append false r l m = refl

reduct-append : (x : Atoms) (l m : List Rule) → reduct x (l ++ m) ≡ reduct x l ++ reduct x m
unfolding reduct
reduct-append x [] m = refl
reduct-append x (r ∷ l) m = rw (reduct-append x l m) (keep_append _ r _ _)

module _ (b c : Book) (own : Own b) where
  abbrev n : ℕ
  n = b.atoms

  pub joined-reduct : (z : Atoms) → reduct z (joined b c).rules
      ≡ reduct (first_part n z) b.rules ++ map (up_rule n) (reduct (second_part n z) c.rules)
  unfolding joined
  joined-reduct z = rw (reduct-append, reduct-first n z b.rules own, reduct-up)

  -- ---- closed under it: both parts under theirs (J2)

  first-closed : (x y : Atoms) → every (obeys y) (reduct x b.rules) ≡ every (obeys (first_part n y)) (reduct x b.rules)
  first-closed x y = every-alike (obeys-first n y) _ (reduct-own n x b.rules own)

  up-closed : (l : List Rule) (y : Atoms) → every (obeys y) (map (up_rule n) l) ≡ every (obeys (second_part n y)) l
  up-closed l y = every_map (obeys y) (up_rule n) l ∙ ap (λ s. every s l) (fun_ext (obeys-up n y))

  closed-test : (z y : Atoms) → every (obeys y) (reduct z (joined b c).rules)
      ≡ (every (obeys (first_part n y)) (reduct (first_part n z) b.rules)
      && every (obeys (second_part n y)) (reduct (second_part n z) c.rules))
  closed-test z y = rw (joined-reduct z, every_append, first-closed (first_part n z) y, up-closed)

  pub joined-closed : (z y : Atoms) → ClosedUnder (reduct z (joined b c).rules) y
      ↔ (ClosedUnder (reduct (first_part n z) b.rules) (first_part n y)
      × ClosedUnder (reduct (second_part n z) c.rules) (second_part n y))
  joined-closed z y = (
    λ e. let k = rw (closed-test z y) at e in (and_left (every (obeys (first_part n y)) _) _ k, and_right (every (obeys (first_part n y)) _) _ k),
    λ (p, q). rw (closed-test z y) (both p q),
  )

  united-closed : (z x y : Atoms) → ClosedUnder (reduct (first_part n z) b.rules) x
      → ClosedUnder (reduct (second_part n z) c.rules) y → ClosedUnder (reduct z (joined b c).rules) (united n x y)
  united-closed z x y p q =
      (joined-closed z _).1 (rw (first-united n x y) (rw (first-closed (first_part n z) x) at p), rw (second-united n x y) q)

  -- ---- the answer sets of the joined book (J3)

  module _ (z : Atoms) where
    answer→parts : AnswerSet (joined b c) z → AnswerSet b (first_part n z) × AnswerSet c (second_part n z)
    answer→parts answer = let (p, q) = (joined-closed z z).0 answer.good in (
      record { good = p; least = λ y k. first-within n z y _ (answer.least _ (united-closed z y _ k q)) },
      record { good = q; least = λ y k. second-within n z _ y (answer.least _ (united-closed z _ y p k)) },
    )

    parts→answer : AnswerSet b (first_part n z) → AnswerSet c (second_part n z) → AnswerSet (joined b c) z
    parts→answer p q = record {
      good = (joined-closed z z).1 (p.good, q.good);
      least = λ y k. let (f, g) = (joined-closed z y).0 k in parts_within n z y (p.least _ f) (q.least _ g);
    }

    pub join-answer : AnswerSet (joined b c) z ↔ (AnswerSet b (first_part n z) × AnswerSet c (second_part n z))
    join-answer = (answer→parts, λ (p, q). parts→answer p q)

  -- an answer set of the first book has no atom from n on (M1)
  first-whole : (x : Atoms) → AnswerSet b x → first_part n x ≡ x
  first-whole x answer = fun_ext (λ a. same _ _
      (λ m. (first_by n x a m).1) (answer.least _ (rw (first-closed x x) at answer.good) a))

  pub first-inside : (x : Atoms) → AnswerSet b x → (a : AtomNo) → a ∈ x → a.0 < n
  first-inside x answer a m = (first_by n x a (ap (λ s. s a) (first-whole x answer) ∙ m)).0

  -- the union of one from each is an answer set, and each is such a union (united-union says that united is the union, numbered on)
  pub united-answer : (x y : Atoms) → AnswerSet b x → AnswerSet c y → AnswerSet (joined b c) (united n x y)
  united-answer x y p q = parts→answer _ (rw (first-united n x y, first-whole x p) p) (rw (second-united n x y) q)

  pub joined-answers : (z : Atoms) → AnswerSet (joined b c) z
      ↔ ((x : Atoms) × (y : Atoms) × AnswerSet b x × AnswerSet c y × (z ≡ united n x y))
  joined-answers z = (
    λ answer. let (p, q) = answer→parts z answer in (first_part n z, second_part n z, p, q, sym (united-parts n z)),
    λ (x, y, p, q, e). rw e (united-answer x y p q),
  )

  -- of just one from each
  pub united-one : (x y v w : Atoms) → AnswerSet b x → AnswerSet b v → united n x y ≡ united n v w → (x ≡ v) × (y ≡ w)
  united-one x y v w p q e = (
    sym (first-whole x p) ∙ sym (first-united n x y) ∙ ap (first_part n) e ∙ first-united n v w ∙ first-whole v q,
    sym (second-united n x y) ∙ ap (second_part n) e ∙ second-united n v w,
  )

  pub joined-some-answer : SomeAnswer (joined b c) ↔ (SomeAnswer b × SomeAnswer c)
  joined-some-answer = (
    λ (z, answer). let (p, q) = answer→parts z answer in ((first_part n z, p), (second_part n z, q)),
    λ ((x, p), (y, q)). (united n x y, united-answer x y p q),
  )

  -- ---- what holds throughout the joined book (J4)

  module _ (fact : Set Atoms) where
    pub join-throughout-first : Throughout (joined b c) (λ z. fact (first_part n z)) ↔ (Throughout b fact × SomeAnswer c)
    join-throughout-first = (
      λ t. let ((x, p), (y, q)) = joined-some-answer.0 t.one in (
        record { one = (x, p); each = λ v k. rw (first-united n v y, first-whole v k) at (t.each _ (united-answer v y k q)) },
        (y, q),
      ),
      λ (t, d). record { one = joined-some-answer.1 (t.one, d); each = λ z k. t.each _ (answer→parts z k).0 },
    )

    pub join-throughout-second : Throughout (joined b c) (λ z. fact (second_part n z)) ↔ (Throughout c fact × SomeAnswer b)
    join-throughout-second = (
      λ t. let ((x, p), (y, q)) = joined-some-answer.0 t.one in (
        record { one = (y, q); each = λ w k. rw (second-united n x w) at (t.each _ (united-answer x w p k)) },
        (x, p),
      ),
      λ (t, d). record { one = joined-some-answer.1 (d, t.one); each = λ z k. t.each _ (answer→parts z k).1 },
    )

  -- ---- what is asked of one atom, as that it is in the set or that it is not (J5)

  module _ (asked : Set Bool) (a : AtomNo) where
    pub atom-first : a.0 < n → Throughout (joined b c) (λ z. asked (z a)) ↔ (Throughout b (λ x. asked (x a)) × SomeAnswer c)
    atom-first h = (
      λ t. (join-throughout-first (λ x. asked (x a))).0 (throughout-alike (λ z. ap asked (sym (first_below n z a h))) t),
      λ k. throughout-alike (λ z. ap asked (first_below n z a h)) ((join-throughout-first (λ x. asked (x a))).1 k),
    )

    pub atom-second : Throughout (joined b c) (λ z. asked (z (up_atom n a))) ↔ (Throughout c (λ x. asked (x a)) × SomeAnswer b)
    unfolding second_part
    atom-second = join-throughout-second (λ x. asked (x a))

  module _ (a : AtomNo) where
    pub certain-first : a.0 < n → Certain (joined b c) a ↔ (Certain b a × SomeAnswer c)
    certain-first = atom-first (λ t. t) a

    pub clear_first : a.0 < n → Clear (joined b c) a ↔ (Clear b a × SomeAnswer c)
    clear_first = atom-first not a

    pub certain-second : Certain (joined b c) (up_atom n a) ↔ (Certain c a × SomeAnswer b)
    certain-second = atom-second (λ t. t) a

    pub clear_second : Clear (joined b c) (up_atom n a) ↔ (Clear c a × SomeAnswer b)
    clear_second = atom-second not a

  -- ---- a book without answer sets: nothing holds throughout the joined book (J7)

  module _ {fact : Set Atoms} where
    pub none-in-first : (SomeAnswer b → ⊥) → Throughout (joined b c) fact → ⊥
    none-in-first none t = none (joined-some-answer.0 t.one).0

    pub none-in-second : (SomeAnswer c → ⊥) → Throughout (joined b c) fact → ⊥
    none-in-second none t = none (joined-some-answer.0 t.one).1

-- ---- "provided that the other book has at least one answer set, however else it is changed" (J6)

module _ (b c : Book) (own : Own b) (asked : Set Bool) (a : AtomNo) where
  pub as-in-first : SomeAnswer c → a.0 < b.atoms → Throughout (joined b c) (λ z. asked (z a)) ↔ Throughout b (λ x. asked (x a))
  as-in-first other h = (λ t. ((atom-first b c own asked a h).0 t).0, λ t. (atom-first b c own asked a h).1 (t, other))

  pub as-in-second : SomeAnswer b → Throughout (joined b c) (λ z. asked (z (up_atom b.atoms a))) ↔ Throughout c (λ x. asked (x a))
  as-in-second other = (λ t. ((atom-second b c own asked a).0 t).0, λ t. (atom-second b c own asked a).1 (t, other))

module _ (b c d : Book) (own : Own b) (one : SomeAnswer c) (two : SomeAnswer d) (a : AtomNo) (h : a.0 < b.atoms) where
  first-kept : (asked : Set Bool) → Throughout (joined b c) (λ z. asked (z a)) ↔ Throughout (joined b d) (λ z. asked (z a))
  first-kept asked =
      let p = as-in-first b c own asked a one h in let q = as-in-first b d own asked a two h in (λ t. q.1 (p.0 t), λ t. p.1 (q.0 t))

  pub certain-kept-first : Certain (joined b c) a ↔ Certain (joined b d) a
  certain-kept-first = first-kept (λ t. t)

  pub clear-kept-first : Clear (joined b c) a ↔ Clear (joined b d) a
  clear-kept-first = first-kept not

module _ (b d c : Book) (own : Own b) (owned : Own d) (one : SomeAnswer b) (two : SomeAnswer d) (a : AtomNo) where
  second-kept : (asked : Set Bool) → Throughout (joined b c) (λ z. asked (z (up_atom b.atoms a)))
      ↔ Throughout (joined d c) (λ z. asked (z (up_atom d.atoms a)))
  second-kept asked =
      let p = as-in-second b c own asked a one in let q = as-in-second d c owned asked a two in (λ t. q.1 (p.0 t), λ t. p.1 (q.0 t))

  pub certain-kept-second : Certain (joined b c) (up_atom b.atoms a) ↔ Certain (joined d c) (up_atom d.atoms a)
  certain-kept-second = second-kept (λ t. t)

  pub clear-kept-second : Clear (joined b c) (up_atom b.atoms a) ↔ Clear (joined d c) (up_atom d.atoms a)
  clear-kept-second = second-kept not
