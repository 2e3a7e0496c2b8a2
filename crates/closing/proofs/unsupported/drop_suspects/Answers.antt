-- What was found goes off, and all that is off is what was looked at last.
use mathlib.Core.Path.{refl}
use Rattle.closing.proofs.Dropping.{dropped-by}
use Rattle.closing.proofs.unsupported.drop_suspects.Goals as goal

pub returns : goal.returns
returns c = (
  dropped-by _ c.args.off.now.w c.put_off-more.new.off.w c.find_unsupported.new.rest.w c.find_unsupported.ensures c.put_off-more.ensures.0 c.put_off-more.ensures.1,
  refl,
)
