-- The marks of a closed pair: the support of its off rules is exactly the rules of the book that are not off. No rule of
-- V is off, and in a closed pair every rule outside V is. So the last marks of a closing need no search.
use mathlib.Core.Path.{◌≡◌, sym, ◌∙◌, ap}
use mathlib.Core.Logic.{⊎_elim}
use mathlib.Core.Bool.{not, ◌&&◌}
use Prim.Native.Nat.{◌≤◌}
use lib.Dec.{ltb}
use borrow.Author.Tests.{not-true, lt-ltb, le-ltb}
use Rattle.meaning.specs.declared.RuleNo.{RuleNo}
use Rattle.meaning.specs.Written.{Tables}
use Rattle.meaning.specs.Books.{Rules, Book, count, InBook}
use Rattle.meaning.specs.Colours.{Pair, Support, Closed}
use Rattle.meaning.specs.Written.{of, pair}
use Rattle.meaning.specs.Computed.{support, close}
use Rattle.meaning.proofs.Tests.{not_first, true-and-false, proved, same}
use Rattle.meaning.proofs.Rules.{in-book-or-not}
use Rattle.meaning.proofs.Written.{Sized}
use Rattle.meaning.proofs.Support.{support-is, support-outside, supported}
use Rattle.meaning.proofs.Closing.{close-is, close-marks}

module _ (b : Book) where
  pub closed-marks : {c : Pair} → Closed b c → {v : Rules} → Support b c.off v → (r : RuleNo) → InBook b r → v r ≡ not (c.off r)
  closed-marks k s r h = same _ _
      (λ m. ap not (supported b s r h m).0)
      (λ n. proved (λ z. true-and-false (k.goes-off-unsupported _ s r h z) (not-true _ n)))

  -- ---- written out

  module _ (fits : count b ≤ 255) where
    -- for any number r: the marks are the numbers below R, less the off ones
    pub closed-support : (c : Pair) → Closed b c → (r : RuleNo) → of (support b c.off) r ≡ (ltb r.0 (count b) && not (c.off r))
    closed-support c k r = ⊎_elim
        (λ h. rw (lt-ltb r.0 (count b) h) (closed-marks k (support-is b c.off fits) r h))
        (λ h. support-outside b c.off fits r h ∙ sym (not_first _ (le-ltb r.0 (count b) h)))
        (in-book-or-not b r)

    pub close-marks-live : (c : Tables) → Sized c → (r : RuleNo)
        → of (close b c).marks r ≡ (ltb r.0 (count b) && not (of (close b c).off r))
    close-marks-live c s r = rw (close-marks b c) (closed-support (pair (close b c)) (close-is b fits c s).good.closed r)
