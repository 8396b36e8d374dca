use Rattle.std.proofs.Common.{◌≡◌, drop}
use Rattle.declarations.specs.Named.{items_in}
use Rattle.condition_codegen.specs.Fragments.{append, in_order}
use Rattle.condition_codegen.specs.DataCode.{operand_fragment}
use Rattle.statement_codegen.proofs.display_statement.emit_operands.Given as goal

-- what is there, and what is still to come, are the whole
abbrev pub invariant-loop-one : goal.invariant-loop-one
invariant-loop-one l =
    append l.code (in_order (operand_fragment (items_in l.emitter.declarations.now)) (drop l.one-index l.all) l.code)
    ≡ append l.initial.code (in_order (operand_fragment (items_in l.emitter.declarations.now)) l.all l.initial.code)
