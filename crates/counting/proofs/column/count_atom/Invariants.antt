use Rattle.std.specs.Slice.Iter.{chunks_exact_rest, chunks_exact_size}
use Rattle.std.specs.Iterator.Adapters.{take_source, take_count}
use Rattle.counting.proofs.Columns.{RowsLeft}
use Rattle.counting.proofs.column.count_atom.Given as goal

abbrev pub invariant-loop-row : goal.invariant-loop-row
invariant-loop-row l =
    RowsLeft l.page l.atoms l.atom l.rows l.found (take_count l.row-iterator) (chunks_exact_rest (take_source l.row-iterator)) (chunks_exact_size (take_source l.row-iterator))
