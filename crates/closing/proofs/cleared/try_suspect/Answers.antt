-- The rule does not stand on what is held and waits, or it is held now and has woken those that stand on its head.
use mathlib.Core.Path.{◌≡◌, sym, ◌∙◌}
use native.Mathlib.Omega.{arith}
use Rattle.meaning.specs.Sets.{every}
use Rattle.meaning.specs.Books.{rule}
use Rattle.meaning.specs.Colours.{heads}
use Rattle.meaning.specs.Bits.{listed}
use Rattle.meaning.specs.Written.{of}
use Rattle.book.specs.Format.{book_in}
use Rattle.book.proofs.Asked.{pos-small}
use Rattle.book.proofs.Bodies.{every-part}
use Rattle.book.proofs.RuleRows.{headed-by, every-headed}
use Rattle.closing.specs.Clearing.{waits}
use Rattle.closing.proofs.Good.{Good, good-book, good-in, head-low}
use Rattle.closing.proofs.Clearing.{tried-holds}
use Rattle.closing.proofs.cleared.try_suspect.Goals as goal
use Rattle.closing.proofs.cleared.try_suspect.Goals.{After-every_headed}

-- behind the question to the rows: what they say
asked : (e : After-every_headed) → Good e.args.rowed.now.book.bytes.now e.args.rowed.now.book.shape
    → e.every_headed.result ≡ every (heads (book_in e.args.rowed.now.book.bytes.now) (of (listed e.args.held.now.w))) (rule (book_in e.args.rowed.now.book.bytes.now) e.args.r).pos
asked e g =
    e.every_headed.ensures ∙ every-part _ _ _ e.positives.ensures
    ∙ every-headed _ _ e.args.rowed.now.rowed _ _ (pos-small _ e.args.rowed.now.book.shape g.read g.atoms e.args.r e.requires)

pub returns-then-not-every_headed : goal.returns-then-not-every_headed
returns-then-not-every_headed c =
    let at = goal.at.returns-then-not-every_headed c in
    waits (sym (asked at.After-every_headed (good-book c.args.rowed.now.book)) ∙ c.if-not-every_headed.true)

pub returns : goal.returns
returns c =
    let g = good-book c.args.rowed.now.book in
    let a = c.head.result in
    let low = head-low g c.args.r (good-in g c.args.r c.requires) a c.head.ensures in
    tried-holds _ c.args.rowed.now.rows c.args.rowed.now.rowed c.args.r (omega (arith, g.rules, c.requires)) c.args.held.now.w c.put.new.self.w c.args.woken.now.w c.wake.new.woken.w
    a (omega arith) c.head.ensures (headed-by _ c.args.rowed.now.rows c.args.rowed.now.rowed c.args.held.now.w a (omega arith))
    (sym (asked (goal.at.returns c).After-every_headed g) ∙ c.if-not-every_headed.false) c.wake.ensures c.put.ensures
