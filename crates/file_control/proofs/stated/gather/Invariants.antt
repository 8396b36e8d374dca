use Rattle.std.proofs.Common.{◌≡◌, ◌-◌}
use Rattle.grammar.specs.Gathering.{gathering_reader, gathering_turns}
use Rattle.file_control.specs.Stated.{select_clauses}
use Rattle.file_control.specs.ClauseReading.{clause_reader}
use Rattle.file_control.proofs.stated.gather.Given as goal

-- what is still to be read
abbrev pub invariant-loop-turn : goal.invariant-loop-turn
invariant-loop-turn l = gathering_reader select_clauses clause_reader l.fn.stated l.fn.tokens
    ≡ gathering_turns select_clauses clause_reader (l._turn-end - l._turn) l.stated l.tokens
