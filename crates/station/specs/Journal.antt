-- What a record of calls stands for.
use Rattle.std.specs.Prelude.{ℕ, List, length}
use Rattle.station.specs.State.{State}
use Rattle.station.specs.Replay.{made_of, state_after_calls, since}
use Rattle.station.specs.declared.journal.Journal.{Journal}

abbrev pub journal_state : Journal → State
journal_state j = state_after_calls (made_of j.start.items j.lines.items) j.calls.items

-- each state since the last crash
abbrev pub journal_history : Journal → List State
journal_history j = since (made_of j.start.items j.lines.items) j.calls.items j.before

abbrev pub journal_sectors : Journal → ℕ
journal_sectors j = length j.start.items
