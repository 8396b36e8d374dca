use Rattle.std.proofs.Common.{◌≡◌, ◌≤◌, replicate}
use Rattle.statement_codegen.proofs.inspect_statement.repeated.Given as goal

abbrev pub invariant-loop : goal.invariant-loop
invariant-loop l = (l.counter ≤ l.size) × (l.bytes ≡ replicate l.counter l.byte)
