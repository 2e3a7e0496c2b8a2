-- The atoms to look at are doubted, and every suspect that is not known stands on one of them (Suspecting). A turn that leaves atoms has
-- found a suspect.
use mathlib.Core.Path.{refl, ◌∙◌}
use lib.ListN.{replicate}
use Rattle.meaning.specs.Bits.{listed}
use Rattle.meaning.specs.Written.{of}
use Rattle.meaning.proofs.Four.{members-nothing}
use Rattle.meaning.proofs.Suspecting.{suspecting-start, suspecting-more, suspecting-less, suspecting-end}
use Rattle.closing.specs.News.{atom_set}
use Rattle.closing.proofs.Falling.{at-rule}
use Rattle.closing.proofs.Propagating.{none_in, one_in}
use Rattle.closing.proofs.Suspecting.{went-off, suspected-inside}
use Rattle.closing.proofs.suspected.find_suspects.Goals as goal

pub loop-todo-init : goal.loop-todo-init
loop-todo-init c =
    let none = at-rule (replicate 4 0) members-nothing in (
      suspecting-start _ _ _ (λ r h. none r) (c.doubted_heads.ensures ∙ went-off _ c.args.old.now.w c.args.off.now.w c.difference-went.result.w _ _
          c.difference-went.ensures refl refl),
      λ r h. none r,
    )

-- where no atom is left to look at, all suspects are found
pub returns-then-is_within : goal.returns-then-is_within
returns-then-is_within c =
    let k = c.suspect_more.ensures in (
      suspecting-end _ _ _
          (suspecting-more _ _ _ (of (listed c.loop-todo.suspects.w)) (atom_set c.loop-todo.todo.w) refl k.suspects-now k.todo-now c.loop-todo.invariant.0)
          (none_in c.suspect_more.new.todo.w _ c.empty.result.w refl c.empty.ensures c.is_within.ensures c.if-is_within.true),
      suspected-inside _ (of (listed c.args.off.now.w)) (of (listed c.loop-todo.suspects.w)) (atom_set c.loop-todo.todo.w) k c.loop-todo.invariant.1,
    )

pub loop-todo-smaller : goal.loop-todo-smaller
loop-todo-smaller c =
    let k = c.suspect_more.ensures in
    let (a, m) = one_in c.suspect_more.new.todo.w _ c.empty.result.w refl c.empty.ensures c.is_within.ensures c.if-is_within.false in
    suspecting-less _ (of (listed c.args.old.now.w)) (of (listed c.args.off.now.w)) (of (listed c.loop-todo.suspects.w)) (atom_set c.loop-todo.todo.w) refl k.suspects-now k.todo-now a m

pub loop-todo-preserved : goal.loop-todo-preserved
loop-todo-preserved c =
    let k = c.suspect_more.ensures in (
      suspecting-more _ _ _ (of (listed c.loop-todo.suspects.w)) (atom_set c.loop-todo.todo.w) refl k.suspects-now k.todo-now c.loop-todo.invariant.0,
      suspected-inside _ (of (listed c.args.off.now.w)) (of (listed c.loop-todo.suspects.w)) (atom_set c.loop-todo.todo.w) k c.loop-todo.invariant.1,
    )
