-- One branch: what is written, with the branch from the colours as they stand behind it, is the whole branch; each step that does not end
-- it fills a place that had nothing, of which there are finitely many.
use mathlib.Core.Path.{refl}
use Rattle.meaning.proofs.Listed.{listed-long}
use Rattle.book.specs.Format.{book_in}
use Rattle.book.proofs.Places.{shape-count}
use Rattle.closing.proofs.Good.{good-book, good-few}
use Rattle.writer.proofs.Ahead.{ahead-start, ahead-on, on-fewer, ahead-off, off-fewer}
use Rattle.writer.proofs.Ahead.{ahead-drop, drop-fewer, ahead-stops}
use Rattle.writer.proofs.branch.write_branch.Goals as goal

pub loop-r-init : goal.loop-r-init
loop-r-init c = ahead-start _ _ _ _ _ _ (listed-long _) (listed-long _)

-- ---- 41
pub loop-r-smaller-in-On : goal.loop-r-smaller-in-On
loop-r-smaller-in-On c = on-fewer (good-few (good-book c.args.book.now)) c.loop-r.invariant c.in-On.ensures c.put.ensures

pub loop-r-preserved-in-On : goal.loop-r-preserved-in-On
loop-r-preserved-in-On c =
    ahead-on (good-few (good-book c.args.book.now)) c.loop-r.invariant c.in-On.ensures c.put.ensures c.write_step-n.ensures

-- ---- 42
pub loop-r-smaller-in-Off : goal.loop-r-smaller-in-Off
loop-r-smaller-in-Off c = off-fewer (good-few (good-book c.args.book.now)) c.loop-r.invariant c.in-Off.ensures c.put-in-Off.ensures

pub loop-r-preserved-in-Off : goal.loop-r-preserved-in-Off
loop-r-preserved-in-Off c =
    ahead-off (good-few (good-book c.args.book.now)) c.loop-r.invariant c.in-Off.ensures c.put-in-Off.ensures c.write_step-n-in-Off.ensures

-- ---- 55
pub loop-r-smaller : goal.loop-r-smaller
loop-r-smaller c =
    let b = c.args.book.now in
    let (e, w) = c.drop_rules-n.ensures (book_in b.bytes.now) (shape-count _ _ b.read_as) in
    drop-fewer (good-few (good-book b)) c.loop-r.invariant _ c.in-Unfounded.ensures e

pub loop-r-preserved : goal.loop-r-preserved
loop-r-preserved c =
    let b = c.args.book.now in
    let (e, w) = c.drop_rules-n.ensures (book_in b.bytes.now) (shape-count _ _ b.read_as) in
    ahead-drop (good-few (good-book b)) c.loop-r.invariant _ c.in-Unfounded.ensures e (listed-long _) c.write-coded.ensures
    c.write-counted.ensures w

-- ---- the last step
pub returns-in-Stops : goal.returns-in-Stops
returns-in-Stops c =
    ahead-stops (good-few (good-book c.args.book.now)) c.loop-r.invariant c.in-Stops.ensures _ refl c.write_tip.ensures
