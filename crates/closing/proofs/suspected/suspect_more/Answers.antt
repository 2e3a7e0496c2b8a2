-- The rules that stand on the atoms, less the off ones and the known ones, are fresh.
use mathlib.Core.Path.{refl}
use lib.ListN.{replicate}
use Rattle.meaning.proofs.Four.{members-nothing}
use Rattle.closing.proofs.Suspecting.{suspected}
use Rattle.closing.proofs.suspected.suspect_more.Goals as goal

pub returns : goal.returns
returns c =
    let a = c.args in
    suspected _ a.rowed.now.rows c.args.rowed.now.rowed a.off.now.w a.todo.now.w a.suspects.now.w (replicate 4 0) c.join_all_standing.new.set.w
    c.difference.result.w c.difference-fresh.result.w _ _
    _ members-nothing c.join_all_standing.ensures
    c.difference.ensures refl refl c.difference-fresh.ensures refl
    c.join.new.self.w c.doubted_heads.new.atoms.w c.join.ensures c.doubted_heads.ensures
