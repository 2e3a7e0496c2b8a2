-- A call's way along the events. Document 01: "A call gives k and a limit L and asks for the k-th answer set in this order". A call may ask
-- for several: it passes over some readings and writes the next ones, row by row, until its room is full.
--
--   row_of b x        "A bytes ..., 1 for an atom in the set and 0 for one not"
--   Wanted           how many readings to pass over, how many rows there is room for, the limit L
--   State            the tries and readings so far, the rule of the last contradictory try, why the way has ended; and the buffer
--   run b w s es     the state after the events, from the state s
use Rattle.std.specs.Prelude.{List, [], ◌∷◌, ℕ, zero, suc, ◌+◌, ◌*◌, ◌-◌}
use Rattle.meaning.specs.declared.RuleNo.{RuleNo}
use Rattle.meaning.specs.Books.{Atoms, atom_no, Book}
use Rattle.meaning.specs.Choice.{ifb, if_lt, if_eq}
use Rattle.meaning.specs.Buffers.{write_at}
use Rattle.walk.specs.Events.{Event, clash, fork, reading, quiet}
use Rattle.walk.specs.Readings.{reading_of}
use Rattle.walk.specs.declared.tally.Tally.{Tally}
pub use Rattle.walk.specs.declared.wanted.Wanted.{Wanted}
use Rattle.walk.specs.declared.tally.Halt.{Halt}
use Rattle.walk.specs.declared.tally.Halt.TheVariants.{Going, Full, Limit}

-- n bytes, of which the first is that of atom i
unfoldable pub row_from : ℕ → ℕ → Atoms → List ℕ
row_from i zero x = []
row_from i (suc n) x = ifb (x (atom_no i)) 1 0 ∷ row_from (suc i) n x

unfoldable pub row_of : Book → Atoms → List ℕ
row_of b x = row_from 0 b.atoms x

pub record State : Type 0 where
  pub tally : Tally
  pub out : List ℕ

abbrev pub counted : State → ℕ → Halt → Tally
counted s n h = record { tries = s.tally.tries + 1; sets = n; clash = s.tally.clash; halt = h }

-- one try more, that ended in a contradiction
abbrev pub clashed_at : State → RuleNo → Tally
clashed_at s r = record { tries = s.tally.tries + 1; sets = s.tally.sets; clash = r; halt = Going }

-- the way ends here, or goes on
abbrev pub halting : Halt → State → State
halting h s =
    record { tally = record { tries = s.tally.tries; sets = s.tally.sets; clash = s.tally.clash; halt = h }; out = s.out }

-- one more reading x, which is written if enough were passed over
unfoldable pub reading_met : Book → Wanted → State → Atoms → State
reading_met b w s x =
    if_lt s.tally.sets w.pass (record { tally = counted s (s.tally.sets + 1) Going; out = s.out })
    (record {
      tally = counted s (s.tally.sets + 1) (if_eq (s.tally.sets + 1) (w.pass + w.room) Full Going);
      out = write_at ((s.tally.sets - w.pass) * b.atoms) (row_of b x) s.out;
    })

-- one try
unfoldable pub tried : Book → Wanted → State → Event → State
tried b w s (clash r) = record { tally = clashed_at s r; out = s.out }
tried b w s (fork r) = record { tally = counted s s.tally.sets Going; out = s.out }
tried b w s (reading d) = reading_met b w s (reading_of b d)
tried b w s quiet = record { tally = counted s s.tally.sets Going; out = s.out }

-- one event: nothing more once the way has ended; the limit stops it before another try
unfoldable pub met : Book → Wanted → Halt → State → Event → State
met b w Going s e = if_lt s.tally.tries w.limit (tried b w s e) (halting Limit s)
met b w Full s e = s
met b w Limit s e = s

unfoldable pub run : Book → Wanted → State → List Event → State
run b w s [] = s
run b w s (e ∷ es) = run b w (met b w s.tally.halt s e) es
