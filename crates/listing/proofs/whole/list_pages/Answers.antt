-- `list_pages`: the pages are those of one listing, which each step takes further; each full page makes a try.
use Rattle.std.proofs.Common.{ℕ, [], drop, sym, ap, ◌∙◌, subst, arith, rules}
use Rattle.std.specs.Prelude.{Ok}
use Rattle.std.proofs.lemmas.Result.{err_from_is_err_and}
use Rattle.book.proofs.Places.{shape-atoms}
use Rattle.walk.specs.Listing.{SameRow}
use Rattle.listing.proofs.Pages.{so-far-start, so_far_more, so-far-done, so-far-refused}
use Rattle.listing.proofs.whole.list_pages.Goals as goal

pub loop-sets-init : goal.loop-sets-init
loop-sets-init g c =
    (search rules, sym (shape-atoms _ c.args.shape c.requires), search rules, search rules, so-far-start _ 1000000 255)

pub list_page-requires : goal.list_page-requires
list_page-requires g c =
    let l = c.loop-sets in
    let i = l.invariant in
    let few = i.4.few in
    let within = i.4.within in (
      i.0,
      omega arith,
      omega arith,
      omega arith,
      omega arith,
      subst (λ (n : ℕ). SameRow (drop n l.last) []) (sym i.1) i.4.zeros,
    )

pub loop-sets-smaller : goal.loop-sets-smaller
loop-sets-smaller g c =
    let t = c.loop-sets in
    let (so_far, fewer) =
    so_far_more _ c.args.shape c.requires 1000000 t.invariant.4 t.rows _ (omega arith) t.invariant.1
    (c.in_ok-sets.was ∙ ap Ok c.in-Goes.is) c.list_page.ensures.follows in
    let within = so_far.within in omega arith

pub loop-sets-preserved : goal.loop-sets-preserved
loop-sets-preserved g c =
    let t = c.loop-sets in (
      t.invariant.0,
      t.invariant.1,
      search rules,
      search rules,
      (so_far_more _ c.args.shape c.requires 1000000 t.invariant.4 t.rows _ (omega arith) t.invariant.1
          (c.in_ok-sets.was ∙ ap Ok c.in-Goes.is) c.list_page.ensures.follows).0,
    )

pub returns-in-Done : goal.returns-in-Done
returns-in-Done g c =
    so-far-done _ c.args.shape c.requires 1000000 c.loop-sets.invariant.4 c.loop-sets.rows _ (omega arith) c.loop-sets.invariant.1
    (c.in_ok-sets.was ∙ ap Ok c.in-Done.is) c.list_page.ensures.follows (λ j. omega (arith, c.type_inv.book j))

pub returns-in_err-sets : goal.returns-in_err-sets
returns-in_err-sets g c =
    let p = err_from_is_err_and c.from_residual.result c.from_residual.ensures.1 in
    rw (p.1, p.2)
    (so-far-refused _ c.args.shape c.requires 1000000 c.loop-sets.invariant.4 c.loop-sets.rows _ (omega arith) c.loop-sets.invariant.1
    c.in_err-sets.was c.list_page.ensures.follows)
