use Rattle.std.proofs.Common.{◌≡◌, ◌-◌}
use Rattle.grammar.specs.Gathering.{gathering_reader, gathering_turns}
use Rattle.data_division.specs.FileClauses.{file_clauses, no_file_clauses, file_clause_reader}
use Rattle.data_division.proofs.file_clauses.file_clauses.Given as goal

-- what is still to be read
abbrev pub invariant-loop-turn : goal.invariant-loop-turn
invariant-loop-turn l = gathering_reader file_clauses file_clause_reader no_file_clauses l.fn.tokens
    ≡ gathering_turns file_clauses file_clause_reader (l._turn-end - l._turn) l.stated l.tokens
