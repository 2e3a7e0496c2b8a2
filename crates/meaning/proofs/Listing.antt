-- The engine's witness (document 01, "next comes always the lowest on rule that may be listed"; blueprint, N6): the list that grows so
-- holds the generating rules of the answer set, all of them, and is a witness. It ends only when nothing can be listed: the unlisted rules
-- get fewer at each turn, and there are no more turns than rules. Then the listed rules are upheld, so every generating rule is among them.
use mathlib.Core.Path.{◌≡◌, refl, sym, ◌∙◌, ap, fun_ext, subst}
use mathlib.Core.Logic.{◌⊎◌, inl, inr, ⊎_elim, ⊎_map}
use mathlib.Core.Bool.{true, not, ◌||◌, false≢true}
use mathlib.Core.List.{List, [], ◌∷◌, ◌++◌}
use Prim.Native.Nat.{ℕ, zero, suc, ◌≤◌, ◌<◌}
use native.Mathlib.Omega.{arith}
use lib.ListN.{length}
use borrow.Author.Tests.{not-true, not-false}
use Rattle.meaning.specs.declared.AtomNo.{AtomNo}
use Rattle.meaning.specs.declared.RuleNo.{RuleNo}
use Rattle.meaning.specs.Sets.{◌∈◌, ◌∉◌, every, some}
use Rattle.meaning.specs.Books.{Atoms, Rules, among, Book, count, rule, InBook}
use Rattle.meaning.specs.AnswerSet.{AnswerSet, generating}
use Rattle.meaning.specs.Colours.{heads, Under}
use Rattle.meaning.specs.Paper.{grounded, once, Witness}
use Rattle.meaning.specs.Lowest.{Pick, none, one, on_pick, lowest, rules_in}
use Rattle.meaning.specs.Engine.{less, listable, listing, witness_of}
use Rattle.meaning.proofs.Tests.{both, and_left, and_right, either, or_left, or_right, true-and-false, refuted, proved, absent, same, not-second}
use Rattle.meaning.proofs.Sets.{every-mono, some-append}
use Rattle.meaning.proofs.Rules.{among-here, among_there, among-front, among_one, one-among, heads-mono}
use Rattle.meaning.proofs.Lowest.{lowest-one, lowest-none}
use Rattle.meaning.proofs.RulesIn.{rules-length, rules-fewer}
use Rattle.meaning.proofs.Answers.{generating-by, generating-upheld, answer-heads}
use Rattle.meaning.proofs.Witness.{fails_of}

-- ---- one rule more at the end

module _ (r : RuleNo) where
  among-end : (w : List RuleNo) (q : RuleNo) → among (w ++ (r ∷ [])) q ≡ (among w q || among (r ∷ []) q)
  among-end w q = some-append _ w (r ∷ [])

  once-end : (before w : List RuleNo) → once before w ≡ true → r ∉ among before → r ∉ among w → once before (w ++ (r ∷ [])) ≡ true
  unfolding once
  once-end before [] e n o = both (ap not n) refl
  once-end before (q ∷ w) e n o =
      both (and_left (not (among before q)) _ e)
      (once-end (q ∷ before) w (and_right (not (among before q)) _ e) (refuted new) (absent (among_there q w r) o))
    where
      new : r ∈ among (q ∷ before) → ⊥
      new m = ⊎_elim (λ (z : r ≡ q). true-and-false (rw z (among-here q w)) o) (λ z. true-and-false z n) (among-front q before r m)

  grounded-end : (b : Book) (s : Rules) → every (heads b s) (rule b r).pos ≡ true → (before w : List RuleNo)
      → ((q : RuleNo) → q ∈ s → (q ∈ among before) ⊎ (q ∈ among w)) → grounded b before w ≡ true → grounded b before (w ++ (r ∷ [])) ≡ true
  unfolding grounded some
  grounded-end b s p before [] f e =
      both (every-mono (heads-mono b (λ q h m. ⊎_elim (λ z. z) (λ z. absurd (false≢true z)) (f q m))) _ p) refl
  grounded-end b s p before (q ∷ w) f e =
      both (and_left (every (heads b (among before)) _) _ e)
      (grounded-end b s p (q ∷ before) w moved (and_right (every (heads b (among before)) _) _ e))
    where
      moved : (u : RuleNo) → u ∈ s → (u ∈ among (q ∷ before)) ⊎ (u ∈ among w)
      moved u m =
          ⊎_elim (λ z. inl (among_there q before u z))
          (λ z. ⊎_map (λ (e : u ≡ q). subst (λ (x : RuleNo). x ∈ among (q ∷ before)) (sym e) (among-here q before)) (λ k. k) (among-front q w u z)) (f u m)

-- ---- the list as it grows

module _ (b : Book) (s : Rules) where
  -- what is listed so far: rules of s, each after what it stands on, none twice
  record Listed (w : List RuleNo) : Type 0 where
    in-book : (r : RuleNo) → r ∈ among w → InBook b r
    of-kind : (r : RuleNo) → r ∈ among w → r ∈ s
    in_order : grounded b [] w ≡ true
    no-rule-twice : once [] w ≡ true

  -- the rules still to be listed
  abbrev left_over : List RuleNo → List RuleNo
  left_over w = rules_in b (less s (among w))

  listed-none : Listed []
  unfolding grounded once some
  listed-none = record {
    in-book = λ r m. absurd (false≢true m);
    of-kind = λ r m. absurd (false≢true m);
    in_order = refl;
    no-rule-twice = refl;
  }

  module _ (w : List RuleNo) (r : RuleNo) where
    listable-of : r ∈ s → r ∉ among w → every (heads b (among w)) (rule b r).pos ≡ true → r ∈ listable b s w
    unfolding listable
    listable-of m n p = both (both m (ap not n)) p

    listable-by : r ∈ listable b s w → (r ∈ s) × (r ∉ among w) × (every (heads b (among w)) (rule b r).pos ≡ true)
    unfolding listable
    listable-by e =
        let k = and_left (less s (among w) r) _ e in (and_left (s r) _ k, not-true _ (and_right (s r) _ k), and_right (less s (among w) r) _ e)

    end_by : (q : RuleNo) → q ∈ among (w ++ (r ∷ [])) → (q ∈ among w) ⊎ (q ≡ r)
    end_by q m = ⊎_map (λ z. z) among_one (either (among w q) _ (sym (among-end r w q) ∙ m))

    listed_more : Listed w → InBook b r → r ∈ listable b s w → Listed (w ++ (r ∷ []))
    unfolding some
    listed_more l h e = let (m, n, p) = listable-by e in record {
      in-book = λ q k. ⊎_elim (l.in-book q) (λ (z : q ≡ r). rw z h) (end_by q k);
      of-kind = λ q k. ⊎_elim (l.of-kind q) (λ (z : q ≡ r). rw z m) (end_by q k);
      in_order = grounded-end r b (among w) p [] w (λ q k. inr k) l.in_order;
      no-rule-twice = once-end r [] w l.no-rule-twice refl n;
    }

    fewer-left : InBook b r → r ∈ listable b s w → length (left_over (w ++ (r ∷ []))) < length (left_over w)
    fewer-left h e = let (m, n, p) = listable-by e in
        rules-fewer b (less s (among w)) (less s (among (w ++ (r ∷ [])))) under r h (both m (ap not n)) listed
      where
        under : Under b (less s (among (w ++ (r ∷ [])))) (less s (among w))
        under q g k =
            both (and_left (s q) _ k) (ap not (absent {a = among w q} (λ z. among-end r w q ∙ or_left _ z) (not-true _ (and_right (s q) _ k))))

        listed : r ∉ less s (among (w ++ (r ∷ [])))
        listed = not-second (s r) (ap not (among-end r w r ∙ or_right (among w r) (one-among r)))

  -- nothing can be listed any more
  abbrev Ended : List RuleNo → Type 0
  Ended w = (r : RuleNo) → InBook b r → r ∉ listable b s w

  listing-ended : (n : ℕ) (w : List RuleNo) → Listed w → length (left_over w) ≤ n → Listed (listing b s n w) × Ended (listing b s n w)
  unfolding listing on_pick
  listing-ended zero w l k = (l, λ r h. refuted (λ e. omega (arith, fewer-left w r h e)))
  listing-ended (suc n) w l k = go (lowest b (listable b s w)) refl (λ r. listing-ended n (w ++ (r ∷ [])))
    where
      Outcome : List RuleNo → Type 0
      Outcome v = Listed v × Ended v

      go : (p : Pick) → lowest b (listable b s w) ≡ p
          → ((r : RuleNo) → Listed (w ++ (r ∷ [])) → length (left_over (w ++ (r ∷ []))) ≤ n → Outcome (listing b s n (w ++ (r ∷ []))))
          → Outcome (on_pick p w (λ r. listing b s n (w ++ (r ∷ []))))
      go none e f = (l, lowest-none b _ e)
      go (one r) e f = let (h, m, o) = lowest-one b _ r e in f r (listed_more w r l h m) (omega (arith, fewer-left w r h m))

-- ---- the witness of an answer set

module _ (b : Book) (x : Atoms) where
  abbrev list : List RuleNo
  list = witness_of b x

  list-ended : Listed b (generating b x) list × Ended b (generating b x) list
  unfolding witness_of
  list-ended = listing-ended b (generating b x) (count b) [] (listed-none b _) (rules-length b _)

  module _ (answer : AnswerSet b x) where
    -- the listed rules are upheld, since nothing more can be listed: so every generating rule is listed
    all_listed : Under b (generating b x) (among list)
    all_listed = generating-upheld b x answer (among list) (λ r h n p.
        proved (λ o. true-and-false (listable-of b _ list r (not-false _ n) o p) (list-ended.1 r h)))

    pub witness-heads : (a : AtomNo) → heads b (among (witness_of b x)) a ≡ x a
    witness-heads a =
        same _ _ (heads-mono b (λ r h. list-ended.0.of-kind r) a) (heads-mono b all_listed a) ∙ answer-heads b x answer a

    pub witness-of : Witness b (witness_of b x)
    witness-of = record {
      in-book = list-ended.0.in-book;
      in_order = list-ended.0.in_order;
      no-rule-twice = list-ended.0.no-rule-twice;
      listed = λ r m. rw (← e) (generating-by b x r (list-ended.0.of-kind r m)).1;
      unlisted = λ r h n. rw (← e) (fails_of b x r (absent (all_listed r h) n));
    }
      where
        e : x ≡ heads b (among list)
        e = fun_ext (λ a. sym (witness-heads a))
