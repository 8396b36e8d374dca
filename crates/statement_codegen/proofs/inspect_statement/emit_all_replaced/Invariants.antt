use Rattle.std.proofs.Common.{take}
use Rattle.declarations.specs.Named.{items_in}
use Rattle.source_tree.specs.InspectLayout.{all_inspected, replacing_entries}
use Rattle.statement_codegen.specs.InspectCode.{Puts}
use Rattle.statement_codegen.proofs.inspect_statement.emit_all_replaced.Given as goal

-- the first of the list are there
abbrev pub invariant-loop-one : goal.invariant-loop-one
invariant-loop-one l =
    let items = items_in l.emitter.declarations.now in
    Puts items (all_inspected (replacing_entries items) (take l.one-index l.all)) l.initial.code l.code
    l.initial.made l.made
