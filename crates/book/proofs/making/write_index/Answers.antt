-- The index: the entries of the rules before the one that is looked at are written, whichever rules the draft holds. The caller's own
-- rules say that there is room.
use mathlib.Core.List.{List}
use Prim.Native.Nat.{ℕ, ◌+◌, ◌≤◌, ◌<◌}
use native.Mathlib.Omega.{arith}
use borrow.Author.Rules.{rules}
use lib.ListN.{length}
use Rattle.meaning.specs.Books.{Rule}
use Rattle.book.specs.declared.making.Making.{Making}
use Rattle.book.proofs.Made.{Whole, made-whole, whole-size}
use Rattle.book.proofs.MadeIndex.{Indexed, indexed-none, indexed-inside, indexed-room, indexed-more, indexed-all}
use Rattle.book.proofs.making.write_index.Goals as goal

-- a turn of the loop: what is known of rules that the draft holds
module _ {l : List Rule} {m : Making} {draft now : List ℕ} {rule start at : ℕ} (w : Whole l m draft) (i : Indexed l m draft rule start at now)
    (more : rule < length l) where
  inside : start + 3 ≤ m.length
  inside = indexed-inside w i more

  small : m.length ≤ 8925
  small = omega (arith, whole-size w, w.rules, w.small.rules)

pub loop-rule-init : goal.loop-rule-init
loop-rule-init c = λ l g. indexed-none l _ _

pub write_number-at-requires : goal.write_number-at-requires
write_number-at-requires c =
    let (l, g) = c.requires.1 in
    let w = made-whole g c.requires.0 in
    let i = c.loop-rule.invariant l g in
    let more : c.loop-rule._rule < length l = omega (arith, w.rules) in
    (indexed-room w i more, omega (arith, inside w i more, small w i more))

pub size_at-start-requires : goal.size_at-start-requires
size_at-start-requires c =
    let (l, g) = c.requires.1 in
    let w = made-whole g c.requires.0 in
    let i = c.loop-rule.invariant l g in
    let more : c.loop-rule._rule < length l = omega (arith, w.rules) in
    omega (arith, inside w i more, small w i more)

pub overflow_add-start : goal.overflow_add-start
overflow_add-start c =
    let (l, g) = c.requires.1 in
    let w = made-whole g c.requires.0 in
    let i = c.loop-rule.invariant l g in
    let more : c.loop-rule._rule < length l = omega (arith, w.rules) in
    let h = inside w i more in
    let s = small w i more in
    search rules

pub loop-rule-preserved : goal.loop-rule-preserved
loop-rule-preserved c = λ l g.
    let w = made-whole g c.requires.0 in
    let i = c.loop-rule.invariant l g in
    let more : c.loop-rule._rule < length l = omega (arith, w.rules) in
    indexed-more w i more c.write_number-at.ensures c.size_at-start.ensures.0 (search rules)

pub returns : goal.returns
returns c = λ l g.
    let w = made-whole g c.requires.0 in
    indexed-all w (c.loop-rule.invariant l g) (omega (arith, w.rules))
