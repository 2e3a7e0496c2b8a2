-- That the sets of AnswerSet are tests loses nothing: an answer set lies within every property of atoms, decided or not, that is closed
-- under its reduct. The rules are supported in rounds, and each round finds rules whose heads have the property.
use mathlib.Core.Path.{◌≡◌, sym, ◌∙◌, subst}
use mathlib.Core.Logic.{⊎_elim}
use mathlib.Core.Bool.{Bool, false}
use mathlib.Core.List.{List, Memᴰ}
use native.Mathlib.Omega.{arith}
use lib.ListN.{length, replicate, length-replicate}
use Rattle.meaning.specs.declared.AtomNo.{AtomNo}
use Rattle.meaning.specs.declared.RuleNo.{RuleNo}
use Rattle.meaning.specs.Sets.{◌∈◌}
use Rattle.meaning.specs.Books.{Atoms, Rule, Book, count, rule, InBook}
use Rattle.meaning.specs.AnswerSet.{reduct, AnswerSet}
use Rattle.meaning.specs.Written.{of}
use Rattle.meaning.specs.Computed.{support_more}
use Rattle.meaning.proofs.Tests.{either, true-and-false}
use Rattle.meaning.proofs.Sets.{every-at}
use Rattle.meaning.proofs.Least.{iterate-keeps}
use Rattle.meaning.proofs.Rules.{rule-member, heads-by}
use Rattle.meaning.proofs.Reduct.{bare, reduct-of}
use Rattle.meaning.proofs.Written.{of_none, length-added, of-added}
use Rattle.meaning.proofs.Support.{upheld-by, support-found}
use Rattle.meaning.proofs.LeastModel.{barred, supported-smallest}

module _ (b : Book) (x : Atoms) (P : AtomNo → Type 0)
    (closed : (q : Rule) → Memᴰ q (reduct x b.rules) → ((a : AtomNo) → Memᴰ a q.pos → P a) → P q.head) where
  abbrev Founded : List Bool → Type 0
  Founded v = (length v ≡ count b) × ((r : RuleNo) → InBook b r → r ∈ of v → P (rule b r).head)

  more-founded : (v : List Bool) → Founded v → Founded (support_more b (barred b x) v)
  unfolding support_more barred
  more-founded v (long, f) = (
    length-added b _ v ∙ long,
    λ r h m. ⊎_elim
        (f r h)
        (λ p. let (n, e) = upheld-by b _ _ r p in
        closed (bare (rule b r)) (reduct-of x _ (rule b r) (rule-member b r h) n) (λ a k.
        let (q, g, u, z) = heads-by b (of v) a (every-at _ _ e a k) in subst P z (f q g u)))
        (either (of v r) _ (sym (of-added b _ v (omega arith) r h) ∙ m)),
  )

  pub answer-within : AnswerSet b x → (a : AtomNo) → a ∈ x → P a
  answer-within answer a m =
      let s = support-found b (barred b x) (count b) (omega arith) in
      let (r, h, k, e) = heads-by b _ a (answer.least _ (supported-smallest b x _ s).good a m) in
      let f = iterate-keeps (support_more b (barred b x)) Founded more-founded (count b) (replicate (count b) false)
      (length-replicate (count b) false, λ q g u. true-and-false u (of_none (count b) q)) in
      subst P e (f.1 r h k)
