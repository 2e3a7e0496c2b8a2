-- The next step: each return is a law of the choice between the five, over what the searches before it have found.
use mathlib.Core.Path.{◌≡◌, sym, ap₂, ◌∙◌, refl}
use mathlib.Core.Bool.{false}
use mathlib.Core.List.{List}
use Prim.Native.Nat.{ℕ}
use native.Mathlib.Omega.{arith}
use Rattle.meaning.specs.Colours.{may_on, blocked, uncoloured}
use Rattle.meaning.specs.Claim.{ended}
use Rattle.meaning.specs.Bits.{listed}
use Rattle.meaning.specs.Written.{of, lent}
use Rattle.meaning.specs.Lowest.{lowest_from, lowest}
use Rattle.meaning.specs.Engine.{less}
use Rattle.book.specs.Format.{book_in}
use Rattle.book.proofs.Places.{shape-count}
use Rattle.closing.specs.Picked.{picked}
use Rattle.closing.proofs.Searches.{lowest-in}
use Rattle.writer.specs.Steps.{does-on, does-off, does-drop, does-end, does-split, does-nothing}
use Rattle.writer.proofs.Choosing.{does-next, picked-one, picked_none, new-on-lowest, new-off-lowest}
use Rattle.writer.proofs.Choosing.{ended-clash, ended-shown, not-ended}
use Rattle.writer.proofs.Choosing.{next-end, next-on, next-off, next-drop, next-split, next-nothing}
use Rattle.writer.proofs.step.next_step.Goals as goal
use Rattle.writer.proofs.step.next_step.Goals.{Else-is_shown, After-lowest_for, After-lowest_for-2, After-lowest_uncoloured}

-- 45 isn't allowed
quiet : (c : Else-is_shown) → ended (book_in c.args.book.now.bytes.now) c.args.claim (lent (listed c.args.on.now.w) (listed c.args.off.now.w)) ≡ false
quiet c =
    not-ended _ _ _ _ _ _ c.heads_of.ensures c.lost_in.ensures c.requires
    c.is_shown.ensures (sym c.is_clashing.ensures ∙ c.if-is_clashing.false) c.if-is_shown.false

-- what the searches for 41, 42 and 53 find
for-41 : (c : After-lowest_for) → picked c.lowest_for.result ≡ lowest (book_in c.args.book.now.bytes.now)
    (less (may_on (book_in c.args.book.now.bytes.now) (lent (listed c.args.on.now.w) (listed c.args.off.now.w))) (of (listed c.args.on.now.w)))
for-41 c = c.lowest_for.ensures ∙ new-on-lowest _ _ c.args.book.now.read_as (omega arith) _ _ _ c.heads_of.ensures _ c.lost_in.ensures

for-42 : (c : After-lowest_for-2) → picked c.lowest_for-2.result ≡ lowest (book_in c.args.book.now.bytes.now)
    (less (blocked (book_in c.args.book.now.bytes.now) (lent (listed c.args.on.now.w) (listed c.args.off.now.w))) (of (listed c.args.off.now.w)))
for-42 c = c.lowest_for-2.ensures ∙ new-off-lowest _ _ c.args.book.now.read_as (omega arith) (listed c.args.on.now.w) _ _ c.heads_of.ensures _

for-53 : (c : After-lowest_uncoloured) → picked c.lowest_uncoloured.result
    ≡ lowest (book_in c.args.book.now.bytes.now) (uncoloured (lent (listed c.args.on.now.w) (listed c.args.off.now.w)))
for-53 c = lowest-in _ (shape-count _ _ c.args.book.now.read_as) _ (c.lowest_uncoloured.ensures
    ∙ ap₂ (λ (a b : List ℕ). lowest_from 0 c.args.book.now.shape.rules (uncoloured (lent (listed a) (listed b)))) refl refl)

pub returns-then-is_clashing : goal.returns-then-is_clashing
returns-then-is_clashing c = does-next (next-end _ _ _ (ended-clash _ _ _ _ (sym c.is_clashing.ensures ∙ c.if-is_clashing.true))) does-end

pub returns-then-is_shown : goal.returns-then-is_shown
returns-then-is_shown c =
    let shown = ended-shown _ _ _ _ _ _ c.heads_of.ensures c.lost_in.ensures c.requires c.is_shown.ensures c.if-is_shown.true in
    does-next (next-end _ _ _ shown) does-end

pub returns-in-Some : goal.returns-in-Some
returns-in-Some c =
    let at = goal.at.returns-in-Some c in
    does-next (next-on _ _ _ (quiet at.Else-is_shown) (picked-one (for-41 at.After-lowest_for) c.in-Some.is)) does-on

pub returns-in-Some-lowest_for : goal.returns-in-Some-lowest_for
returns-in-Some-lowest_for c =
    let at = goal.at.returns-in-Some-lowest_for c in
    does-next (next-off _ _ _ (quiet at.Else-is_shown) (picked_none (for-41 at.After-lowest_for) c.in_default.is)
    (picked-one (for-42 at.After-lowest_for-2) c.in-Some-lowest_for.is))
    does-off

pub returns-then-m-ne0 : goal.returns-then-m-ne0
returns-then-m-ne0 c =
    let at = goal.at.returns-then-m-ne0 c in
    let l = c.list_unsupported-m.ensures (listed c.args.on.now.w) in
    does-next (next-drop _ _ _ (quiet at.Else-is_shown) (picked_none (for-41 at.After-lowest_for) c.in_default.is)
    (picked_none (for-42 at.After-lowest_for-2) c.in_default-lowest_for.is) (omega (arith, l.counted)))
    (does-drop l)

pub returns-in-Some-lowest_uncoloured : goal.returns-in-Some-lowest_uncoloured
returns-in-Some-lowest_uncoloured c =
    let at = goal.at.returns-in-Some-lowest_uncoloured c in
    let l = c.list_unsupported-m.ensures (listed c.args.on.now.w) in
    does-next (next-split _ _ _ (quiet at.Else-is_shown) (picked_none (for-41 at.After-lowest_for) c.in_default.is)
    (picked_none (for-42 at.After-lowest_for-2) c.in_default-lowest_for.is) (omega (arith, l.counted))
    (picked-one (for-53 at.After-lowest_uncoloured) c.in-Some-lowest_uncoloured.is))
    does-split

pub returns : goal.returns
returns c =
    let at = goal.at.returns c in
    let l = c.list_unsupported-m.ensures (listed c.args.on.now.w) in
    does-next (next-nothing _ _ _ (quiet at.Else-is_shown) (picked_none (for-41 at.After-lowest_for) c.in_default.is)
    (picked_none (for-42 at.After-lowest_for-2) c.in_default-lowest_for.is) (omega (arith, l.counted))
    (picked_none (for-53 at.After-lowest_uncoloured) c.in_default-lowest_uncoloured.is))
    does-nothing
