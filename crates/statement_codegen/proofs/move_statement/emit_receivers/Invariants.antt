use Rattle.std.proofs.Common.{◌≡◌, drop}
use Rattle.declarations.specs.Named.{items_in}
use Rattle.condition_codegen.specs.Fragments.{append, in_order}
use Rattle.data_instructions.specs.declared.instruction.DataInstruction.TheVariants as i
use Rattle.condition_codegen.specs.DataCode.{take_fragment}
use Rattle.statement_codegen.proofs.move_statement.emit_receivers.Given as goal

-- what is there, and what is still to come, are the whole
abbrev pub invariant-loop-one : goal.invariant-loop-one
invariant-loop-one l =
    append l.code
    (in_order (take_fragment (items_in l.emitter.declarations.now) i.Move) (drop l.one-index l.all) l.code)
    ≡ append l.initial.code (in_order (take_fragment (items_in l.emitter.declarations.now) i.Move) l.all l.initial.code)
