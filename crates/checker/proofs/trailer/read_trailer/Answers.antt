-- The length, then what the mark was found to be decides.
use native.Mathlib.Omega.{arith}
use mathlib.Core.Path.{sym, ◌∙◌}
use Rattle.checker.proofs.PaperChecked.{ends-told, paper-short, paper-long, paper-marked}
use Rattle.checker.proofs.PaperChecked.{mark-neither, mark-claims, mark-no-reading}
use Rattle.checker.proofs.trailer.read_trailer.Goals as goal
use Rattle.checker.proofs.trailer.read_trailer.Goals.{then-len-lt6-via-then-len-lt6, then-len-lt6-via-else-len-lt6+then-len-gt-PAPER_BYTES}

pub returns-then-len-lt6 : goal.returns-then-len-lt6
returns-then-len-lt6 c = λ b e. record {
  told = sym (elim c.then-len-lt6.branch [
    | then-len-lt6-via-then-len-lt6 w ↦ paper-short _ _ (omega arith)
    | then-len-lt6-via-else-len-lt6+then-len-gt-PAPER_BYTES w ↦ paper-long _ _ (omega arith)
  ]);
  fits = tt;
}

pub returns-in-Neither : goal.returns-in-Neither
returns-in-Neither c =
    λ b e. record {
      told = mark-neither _ _ ∙ paper-marked _ _ (omega arith) (omega arith) c.by_mark.ensures c.in-Neither.is;
      fits = tt;
    }

pub returns-in-NoReading : goal.returns-in-NoReading
returns-in-NoReading c =
    λ b e. ends-told (c.read_claim.ensures b e) (mark-no-reading _ _
    ∙ paper-marked _ _ (omega arith) (omega arith) c.by_mark.ensures c.in-NoReading.is)

pub returns-in-Of : goal.returns-in-Of
returns-in-Of c =
    λ b e. ends-told (c.read_claim-in-Of.ensures b e) (mark-claims _ _ _
    ∙ paper-marked _ _ (omega arith) (omega arith) c.by_mark.ensures c.in-Of.is)
