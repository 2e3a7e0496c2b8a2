-- What propagation gives, with the marks and levels that stay, is what is computed; and its lowest clash.
use Rattle.closing.proofs.Good.{good-book, good-few}
use Rattle.nomore.proofs.Walking.{grown, grown-clash}
use Rattle.nomore.proofs.own.grow.Goals as goal

pub returns : goal.returns
returns c =
    let b = c.args.rowed.now.book in (
      grown _ (good-few (good-book b)) c.args.choice _ _ _ _ c.propagate_chosen.ensures.0 c.propagate_chosen.ensures.1,
      grown-clash _ _ b.read_as _ _ c.lowest_clash.result c.lowest_clash.ensures,
    )
