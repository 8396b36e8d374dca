use Rattle.std.proofs.Common.{◌≡◌, drop}
use Rattle.declarations.specs.Named.{items_in}
use Rattle.condition_codegen.specs.Fragments.{append, in_order}
use Rattle.condition_codegen.specs.ArithmeticCode.{update_fragment}
use Rattle.statement_codegen.proofs.arithmetic.emit_updates.Given as goal

-- what is there, and what is still to come, are the whole
abbrev pub invariant-loop-one : goal.invariant-loop-one
invariant-loop-one l = append l.code (in_order (update_fragment (items_in l.emitter.declarations.now) l.keep l.operator)
    (drop l.one-index l.all) l.code) ≡ append l.initial.code
    (in_order (update_fragment (items_in l.emitter.declarations.now) l.keep l.operator) l.all l.initial.code)
