use Rattle.std.proofs.Common.{take}
use Rattle.declarations.specs.Named.{items_in}
use Rattle.statement_codegen.specs.InspectCode.{Counts}
use Rattle.statement_codegen.proofs.inspect_statement.emit_counters.Given as goal

-- the first counters are there
abbrev pub invariant-loop-one : goal.invariant-loop-one
invariant-loop-one l =
    Counts (items_in l.emitter.declarations.now) (take l.one-index l.all) l.initial.code l.code l.initial.made
    l.made l.initial.counters l.counters
