use Rattle.std.proofs.Common.{◌≡◌, ◌-◌}
use Rattle.statements.specs.Opening.{all_opened_reader, opened_turns}
use Rattle.statements.proofs.open_statement.all_opened.Given as goal

-- what is still to be read
abbrev pub invariant-loop-turn : goal.invariant-loop-turn
invariant-loop-turn l = all_opened_reader l.fn.tokens ≡ opened_turns (l._turn-end - l._turn) l.found l.tokens
