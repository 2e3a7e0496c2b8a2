-- When two sets hold the same rules of a book (src/search.rt): the rules of the book that are in the one are in the other, and back.
use mathlib.Core.Path.{◌≡◌, sym, ◌∙◌, ap}
use mathlib.Core.Bool.{Bool, true, false}
use mathlib.Core.List.{List}
use Prim.Native.Nat.{ℕ, ◌<◌}
use native.Mathlib.Omega.{arith}
use borrow.Author.Tests.{ltb-true, lt-ltb}
use Rattle.meaning.specs.Sets.{Set, ◌∈◌, every_below}
use Rattle.meaning.specs.Bits.{below, both, implied, members}
use Rattle.meaning.specs.Choice.{agree}
use Rattle.meaning.proofs.Tests.{both as both_true, and_left, and_right, implied as implied-by, implies, true-and-false, refuted, same}
use Rattle.meaning.proofs.Sets.{below_at, below_all}
use Rattle.meaning.proofs.Choice.{agree-yes, agree_same}

module _ (rules : ℕ) (small : rules < 256) (all : List ℕ) (e : members all ≡ below rules) where
  -- the rules of the book that are in v are in w, asked as the code asks
  module _ (u v w : List ℕ) (f : members u ≡ both (members all) (members v)) where
    part : (i : ℕ) → members u i ≡ both (below rules) (members v) i
    part i = ap (λ (s : Set ℕ). s i) f ∙ ap (λ (s : Set ℕ). both s (members v) i) e

    within-at : every_below 256 (implied (members u) (members w)) ≡ true → (i : ℕ) → i < rules → i ∈ members v → i ∈ members w
    within-at t i h m = implies (members u i) (members w i) (below_at 256 _ t i (omega arith)) (part i ∙ both_true (lt-ltb i rules h) m)

    within_all : ((i : ℕ) → i < rules → i ∈ members v → i ∈ members w) → every_below 256 (implied (members u) (members w)) ≡ true
    within_all g = below_all 256 _ (λ i l. implied-by (members u i) (members w i) (λ m.
        let k = sym (part i) ∙ m in
        g i (ltb-true i rules (and_left (below rules i) _ k)) (and_right (below rules i) _ k)))

  module _ (one other u : List ℕ) (eu : members u ≡ both (members all) (members one)) where
    abbrev agreeing : Set ℕ
    agreeing i = agree (members one i) (members other i)

    forth : every_below rules agreeing ≡ true → every_below 256 (implied (members u) (members other)) ≡ true
    forth t = within_all u one other eu (λ i h m. sym (agree_same _ _ (below_at rules _ t i h)) ∙ m)

    back : (v : List ℕ) → members v ≡ both (members all) (members other) → every_below rules agreeing ≡ true → every_below 256 (implied (members v) (members one)) ≡ true
    back v ev t = within_all v other one ev (λ i h m. agree_same _ _ (below_at rules _ t i h) ∙ m)

    pub rules-differ : {x : Bool} → x ≡ every_below 256 (implied (members u) (members other)) → x ≡ false → false ≡ every_below rules agreeing
    rules-differ a n = sym (refuted (λ t. true-and-false (forth t) (sym a ∙ n)))

    pub rules-same : (v : List ℕ) → members v ≡ both (members all) (members other) → {x y : Bool}
        → x ≡ every_below 256 (implied (members u) (members other)) → x ≡ true → y ≡ every_below 256 (implied (members v) (members one)) → y ≡ every_below rules agreeing
    rules-same v ev a t c = c ∙ same _ _ (λ k. below_all rules _ (λ i h.
        agree-yes (same _ _ (within-at u one other eu (sym a ∙ t) i h) (within-at v other one ev k i h)))) (back v ev)
