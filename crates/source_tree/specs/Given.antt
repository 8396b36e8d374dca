-- What a run is given.
use Rattle.std.specs.Prelude.{ℕ, List, []}
use Rattle.station.specs.State.{State}
use Rattle.records.specs.Files.{Files}

pub record RunInput : Type 0 where
  -- how many statements may begin (own choice)
  pub budget : ℕ
  -- the day that the program is told: six ASCII digits, YYMMDD
  pub day : List ℕ
  -- the lines of the console
  pub lines : List (List ℕ)
  -- the files of the volume
  pub files : Files

-- the same with another budget
abbrev pub with_budget : ℕ → RunInput → RunInput
with_budget budget given = record given { budget = budget }

-- What a run is given that begins on a station in this state, on this day and with this budget, where the volume holds these files.
-- Above, it stays as it is named here: what a run is given besides, from the station or from its caller, changes no clause.
unfoldable pub given_over : Files → State → List ℕ → ℕ → RunInput
given_over files station day budget = record { budget = budget; day = day; lines = station.lines; files = files }

-- the same without files
unfoldable pub given_on : State → List ℕ → ℕ → RunInput
given_on station day budget = record { budget = budget; day = day; lines = station.lines; files = [] }
