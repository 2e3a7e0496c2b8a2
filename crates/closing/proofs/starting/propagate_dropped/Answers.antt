-- Newly lost are heads of the rules that went off, and nothing else is pending.
use mathlib.Core.Path.{refl}
use Rattle.closing.proofs.Starts.{dropped-pending}
use Rattle.closing.proofs.starting.propagate_dropped.Goals as goal

pub propagate_from-requires : goal.propagate_from-requires
propagate_from-requires c =
    dropped-pending _ c.empty.result.w c.empty-2.result.w c.empty.ensures c.empty-2.ensures c.args.on.now.w c.args.before.now.w c.args.off.now.w
    c.difference-fresh.result.w c.lost_heads.new.lost.w _ _ c.requires.0 c.requires.1
    c.difference-fresh.ensures refl refl c.lost_heads.ensures
