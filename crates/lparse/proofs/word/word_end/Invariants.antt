use mathlib.Core.Path.{◌≡◌}
use Rattle.lparse.specs.Words.{end_of}
use Rattle.lparse.proofs.Words.{end_from}
use Rattle.lparse.proofs.word.word_end.Given as goal

abbrev pub invariant-loop-i : goal.invariant-loop-i
invariant-loop-i l = end_of l.text l.start ≡ end_from l.q l.text l.i
