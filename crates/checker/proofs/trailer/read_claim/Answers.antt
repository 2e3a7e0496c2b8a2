-- One law for each test of the trailer, in their order.
use native.Mathlib.Omega.{arith}
use mathlib.Core.Path.{sym}
use Rattle.checker.proofs.PaperChecked.{trailer-wrong, byte-wrong, byte-good}
use Rattle.checker.proofs.trailer.read_claim.Goals as goal

pub returns-then-from-count : goal.returns-then-from-count
returns-then-from-count c =
    λ b e. record {
      told = sym (trailer-wrong _ _ _ c.wide-count.ensures.0 c.u16_at-from.ensures.0 c.if-from-count.true);
      fits = tt;
    }

pub returns-then-not-is_stated : goal.returns-then-not-is_stated
returns-then-not-is_stated c =
    λ b e. record {
      told = sym (byte-wrong _ _ _ c.wide-count.ensures.0 c.u16_at-from.ensures.0 c.if-from-count.false (sym e)
          c.is_stated.ensures c.if-not-is_stated.true);
      fits = tt;
    }

pub returns : goal.returns
returns c =
    λ b e. record {
      told = sym (byte-good _ _ _ c.wide-count.ensures.0 c.u16_at-from.ensures.0 c.if-from-count.false (sym e)
          c.is_stated.ensures c.if-not-is_stated.false);
      fits = (c.if-from-count.false, omega arith);
    }
