-- The steps of a branch as they are run: what a step that was found says, and how the colouring that the code holds follows the pair.
-- Document 01, "The paper": each of 41, 42 and 55 adds to the pair and goes on behind itself.
use mathlib.Core.Path.{◌≡◌, sym, ◌∙◌, ap, subst}
use mathlib.Core.Bool.{Bool}
use mathlib.Core.List.{List, map}
use Prim.Native.Nat.{ℕ, ◌+◌, ◌-◌, ◌≤◌, ◌<◌}
use native.Mathlib.Omega.{arith}
use lib.ListN.{length, take, drop, length-set}
use Rattle.meaning.specs.declared.RuleNo.{RuleNo}
use Rattle.meaning.specs.Written.{Tables}
use Rattle.meaning.specs.Books.{rule_no, Book, count}
use Rattle.meaning.specs.Colours.{Pair, put, plus}
use Rattle.meaning.specs.declared.kind.Claim.{Claim}
use Rattle.meaning.specs.Written.{of, colour_on, colour_off, pair}
use Rattle.meaning.proofs.Written.{pair-on, pair-off}
use Rattle.book.specs.Tables.{Below}
use Rattle.checker.specs.declared.step.Step.{Step}
use Rattle.checker.specs.declared.step.Step.TheVariants.{On, Off, Unfounded}
use Rattle.checker.specs.Steps.{goes, step_of}
use Rattle.checker.specs.Parts.{stepped, StepWithin, Finds, Leads}
use Rattle.checker.specs.Parts.Leads.{further}
use Rattle.checker.proofs.Lists.{part-is}

-- ---- what was found

module _ {b : Book} {k : Claim} {s : List ℕ} {from at : ℕ} {c : Pair} {x : Step} (f : Finds b k s from at c x) where
  pub found-by : {y : Step} → x ≡ y → StepWithin b s from at y
  found-by e = subst (StepWithin b s from at) e f.within

  pub step_is : {y : Step} → x ≡ y → step_of b k s from at c ≡ stepped s at c y
  step_is e = sym f.found ∙ ap (stepped s at c) e

  -- the rules of a list, as the code has its bytes
  pub list-small : {m : ℕ} → x ≡ Unfounded m → count b ≤ 255 → Below 255 (take (at + 2 + m - (at + 2)) (drop (at + 2) s))
  list-small {m} e h = rw (part-is s (at + 2) m) (record { at = λ i g. let z = (found-by e).1.at i g in omega arith })

-- ---- the colouring at byte i, to which the steps have led

pub record Led (b : Book) (k : Claim) (s : List ℕ) (from at : ℕ) (c : Pair) (i : ℕ) (d : Tables) : Type 0 where
  pub leads : Leads b k s from at c i (pair d)
  pub on-long : length d.on ≡ 256
  pub off-long : length d.off ≡ 256

module _ {b : Book} {k : Claim} {s : List ℕ} {from at : ℕ} {c : Pair} {i : ℕ} {d : Tables} (l : Led b k s from at c i d)
    (small : count b ≤ 255) (x : Step) (f : Finds b k s from i (pair d) x) where
  -- a step that goes on leads on, to the colouring of its pair
  led-by : {y : Step} (j : ℕ) (n : Tables) → x ≡ y → stepped s i (pair d) y ≡ goes j (pair n) → i < j → j ≤ from
      → length n.on ≡ 256 → length n.off ≡ 256 → Led b k s from at c j n
  led-by j n e q h g on off = record { leads = further {j = j} l.leads h g (step_is f e ∙ q); on-long = on; off-long = off }

  pub led_on : (r : RuleNo) → x ≡ On r → Led b k s from at c (i + 2) (colour_on r d)
  led_on r e =
      let (h, g) = found-by f e in
      let q = pair-on d r (omega (arith, l.on-long)) in
      led-by (i + 2) _ e (ap (goes (i + 2)) (sym q)) (omega arith) g (simp length-set l.on-long) l.off-long

  pub led-off : (r : RuleNo) → x ≡ Off r → Led b k s from at c (i + 2) (colour_off r d)
  led-off r e =
      let (h, g) = found-by f e in
      let q = pair-off d r (omega (arith, l.off-long)) in
      led-by (i + 2) _ e (ap (goes (i + 2)) (sym q)) (omega arith) g l.on-long (simp length-set l.off-long)

  pub led-list : (m : ℕ) (off : List Bool) → x ≡ Unfounded m → length off ≡ 256
      → of off ≡ plus (of d.off) (map rule_no (take (i + 2 + m - (i + 2)) (drop (i + 2) s)))
      → Led b k s from at c (i + 2 + m) (record { on = d.on; off = off; marks = d.marks; level = d.level; levels = d.levels })
  unfolding put
  led-list m off e long q =
      let (h, g) = found-by f e in
      let z : of off ≡ plus (of d.off) (map rule_no (take m (drop (i + 2) s))) = rw (part-is s (i + 2) m) at q in
      led-by (i + 2 + m) _ e (ap (goes (i + 2 + m)) (λ j. record { on = of d.on; off = sym z j })) (omega arith) h l.on-long long
