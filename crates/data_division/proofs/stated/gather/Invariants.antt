use Rattle.std.proofs.Common.{◌≡◌, ◌-◌}
use Rattle.grammar.specs.Gathering.{gathering_reader, gathering_turns}
use Rattle.data_division.specs.Stated.{entry_clauses}
use Rattle.data_division.specs.ClauseReading.{clause_reader}
use Rattle.data_division.proofs.stated.gather.Given as goal

-- what is still to be read
abbrev pub invariant-loop-turn : goal.invariant-loop-turn
invariant-loop-turn l = gathering_reader entry_clauses clause_reader l.fn.stated l.fn.tokens
    ≡ gathering_turns entry_clauses clause_reader (l._turn-end - l._turn) l.stated l.tokens
