-- Worked cases of join and log (document 02, request 9), in a single table. Each buffer is lent with every byte 7, so that a byte that is
-- written, and one that is kept, can be seen.
--
--   CrewsCase        a call with what it is to tell, and with the buffer afterwards
--   CrewsHold e c    the engine e answers so
use Rattle.std.specs.Prelude.{◌≡◌, List, [], ◌∷◌, ◌++◌, ℕ}
use Rattle.meaning.specs.Told.{Told, success, refused, stopped}
use Rattle.crews.specs.Join.{of_book}
use Rattle.crews.specs.Log.{Entry, both, none_in_first, none_in_second, none_in_either}
use Rattle.demands.specs.Printed.{empty, fact, choice, contrary}
use Rattle.demands.specs.Worked.{sevens}
use Rattle.demands.specs.TwoCrews.{Crews}

pub data CrewsCase : Type 0 where
  -- first book, second book, the buffer before; what is told, the buffer afterwards
  joining : List ℕ → List ℕ → List ℕ → Told ℕ → List ℕ → CrewsCase
  -- first book, second book, their limits, the buffer before; what is told, the buffer afterwards
  logging : List ℕ → List ℕ → ℕ → ℕ → List ℕ → Told Entry → List ℕ → CrewsCase

unfoldable pub CrewsHold : Crews → CrewsCase → Type 0
CrewsHold e (joining first second before t after) = e.join first second before ≡ record { told = t; buffer = after }
CrewsHold e (logging first second limit other before t after) =
    e.log first second limit other before ≡ record { told = t; buffer = after }

-- "0; 1 if not 2; 2 if not 1"
abbrev pub fact_choice : List ℕ
fact_choice = 0 ∷ 0 ∷ 0 ∷ 1 ∷ 0 ∷ 1 ∷ 2 ∷ 2 ∷ 0 ∷ 1 ∷ 1 ∷ 0 ∷ 0 ∷ 3 ∷ 0 ∷ 7 ∷ 0 ∷ 3 ∷ 3 ∷ 11 ∷ 0 ∷ 0x52 ∷ 0x42 ∷ []

-- "0 if not 1; 1 if not 0; 2"
abbrev pub choice_fact : List ℕ
choice_fact = 0 ∷ 0 ∷ 1 ∷ 1 ∷ 1 ∷ 0 ∷ 1 ∷ 0 ∷ 2 ∷ 0 ∷ 0 ∷ 0 ∷ 0 ∷ 4 ∷ 0 ∷ 8 ∷ 0 ∷ 3 ∷ 3 ∷ 11 ∷ 0 ∷ 0x52 ∷ 0x42 ∷ []

-- "0 if not 0; 1 if not 2; 2 if not 1"
abbrev pub contrary_choice : List ℕ
contrary_choice = 0 ∷ 0 ∷ 1 ∷ 0 ∷ 1 ∷ 0 ∷ 1 ∷ 2 ∷ 2 ∷ 0 ∷ 1 ∷ 1 ∷ 0 ∷ 0 ∷ 4 ∷ 0 ∷ 8 ∷ 0 ∷ 3 ∷ 3 ∷ 12 ∷ 0 ∷ 0x52 ∷ 0x42 ∷ []

-- "0; 1 if not 1"
abbrev pub fact_contrary : List ℕ
fact_contrary = 0 ∷ 0 ∷ 0 ∷ 1 ∷ 0 ∷ 1 ∷ 1 ∷ 0 ∷ 0 ∷ 3 ∷ 0 ∷ 2 ∷ 2 ∷ 7 ∷ 0 ∷ 0x52 ∷ 0x42 ∷ []

-- "0 if not 0; 1 if not 1"
abbrev pub two_contrary : List ℕ
two_contrary = 0 ∷ 0 ∷ 1 ∷ 0 ∷ 1 ∷ 0 ∷ 1 ∷ 1 ∷ 0 ∷ 0 ∷ 4 ∷ 0 ∷ 2 ∷ 2 ∷ 8 ∷ 0 ∷ 0x52 ∷ 0x42 ∷ []

abbrev pub crews_cases : List CrewsCase
crews_cases =
    joining fact choice (sevens 24) (success 23) (fact_choice ++ sevens 1)
    ∷ joining choice fact (sevens 24) (success 23) (choice_fact ++ sevens 1)
    ∷ joining empty choice (sevens 18) (success 18) choice
    -- 19, and the buffer stays
    ∷ joining fact choice (sevens 22) (refused 19) (sevens 22)
    -- two damaged books: the first is told
    ∷ joining [] [] (sevens 1) (of_book 1 1 0) (sevens 1)
    ∷ joining fact [] (sevens 1) (of_book 2 1 0) (sevens 1)
    ∷ logging fact choice 10 10 (sevens 24) (success (both 23)) (fact_choice ++ sevens 1)
    ∷ logging contrary choice 10 10 (sevens 24) (success (none_in_first 24)) contrary_choice
    ∷ logging fact contrary 10 10 (sevens 17) (success (none_in_second 17)) fact_contrary
    ∷ logging contrary contrary 10 10 (sevens 18) (success (none_in_either 18)) two_contrary
    -- 9 tells the limit that was passed, also where the other book has no answer set; 19 comes before it
    ∷ logging fact choice 0 10 (sevens 24) (stopped 0) (sevens 24)
    ∷ logging contrary choice 10 1 (sevens 24) (stopped 1) (sevens 24)
    ∷ logging contrary contrary 2 2 (sevens 18) (stopped 2) (sevens 18)
    ∷ logging fact choice 0 10 (sevens 22) (refused 19) (sevens 22)
    ∷ []
