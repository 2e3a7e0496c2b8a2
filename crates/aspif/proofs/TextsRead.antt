-- What `read_text` finds on each way through it is what specs/Reading says of the whole text.
use mathlib.Core.Path.{◌≡◌, sym, ◌∙◌, ap}
use mathlib.Core.List.{List, []}
use Prim.Native.Nat.{ℕ, suc, ◌<◌, ◌≤◌}
use native.Mathlib.Omega.{arith}
use lib.ListN.{length, drop, length-drop}
use Rattle.meaning.proofs.Choice.{eq_yes, eq_no, lt_yes, lt_no}
use Rattle.std.specs.Prelude.{Option, Some, None}
use Rattle.aspif.specs.declared.rules.Rules.{Rules}
use Rattle.aspif.specs.declared.outputs.Outputs.{Outputs}
use Rattle.aspif.specs.Text.{header, last}
use Rattle.aspif.specs.Reading.{got, skip, and_then, rules_in, outputs_in, ended, book_from}
use Rattle.aspif.specs.Scanning.{went, Reaches}
use Rattle.aspif.specs.Lining.{RulesSeen, OutputsSeen, TextSeen, whole, none}
use Rattle.aspif.proofs.Pieces.{on-got, on-outside}
use Rattle.aspif.proofs.Scanned.{reaches}

module _ (s : List ℕ) (x : Option ℕ) (e : went s x ≡ skip header s) where
  pub text-no-header : x ≡ None → {d : List ℕ} → TextSeen s None d
  unfolding book_from went
  text-no-header f = none (on-outside _ _ (sym e ∙ ap (went s) f))

  module _ {n : ℕ} (f : x ≡ Some n) {r : Rules} {d : List ℕ} (a : RulesSeen s n r d) {o : Outputs} (b : OutputsSeen s r.next o) (y : Option ℕ)
      (g : went s y ≡ skip last (drop o.next s)) where
    lines-read : book_from s ≡ and_then (skip last (drop o.next s)) (λ w k. ended a.rules o.count k)
    unfolding book_from went
    lines-read =
        let p : rules_in (suc (length (drop n s))) (length s) [] (drop n s) ≡ got a.rules (drop r.next s) = rw length-drop a.read in
        let q : outputs_in (suc (length (drop r.next s))) 0 (drop r.next s) ≡ got o.count (drop o.next s)
        = rw length-drop b.read in
        on-got _ _ (sym e ∙ ap (went s) f) ∙ on-got _ _ p ∙ on-got _ _ q

    pub text-no-last : y ≡ None → TextSeen s None d
    unfolding went
    text-no-last h = none (lines-read ∙ on-outside _ _ (sym g ∙ ap (went s) h))

    module _ {k : ℕ} (h : y ≡ Some k) where
      closed : book_from s ≡ ended a.rules o.count (drop k s)
      unfolding went
      closed = lines-read ∙ on-got _ _ (sym g ∙ ap (went s) h)

      pub text-more : {least : ℕ} → Reaches least (length s) y → (k ≡ length s → ⊥) → TextSeen s None d
      unfolding ended
      text-more l i = let (p, q) = reaches l h in none (closed ∙ eq_no _ _ _ _ (λ z. i (omega (arith, length-drop k s))))

      module _ (i : k ≡ length s) where
        nothing_left : length (drop k s) ≡ 0
        nothing_left = omega (arith, length-drop k s)

        pub text-beyond : o.count < r.top → TextSeen s None d
        unfolding ended
        text-beyond j = none (closed ∙ eq_yes _ _ _ _ nothing_left ∙ lt_yes _ _ _ _ (rw a.top at j))

        pub text-seen : r.top ≤ o.count → TextSeen s (Some (r.making, o.count)) d
        unfolding ended
        text-seen j =
            whole {b = record { atoms = o.count; rules = a.rules }}
            (closed ∙ eq_yes _ _ _ _ nothing_left ∙ lt_no _ _ _ _ (rw a.top at j)) a.made
