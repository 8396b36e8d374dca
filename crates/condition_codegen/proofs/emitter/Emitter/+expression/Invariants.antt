use Rattle.std.proofs.Common.{◌≡◌, drop}
use Rattle.declarations.specs.Named.{items_in}
use Rattle.condition_codegen.specs.Fragments.{append, in_order}
use Rattle.condition_codegen.proofs.ExpressionForms.{link_piece}
use Rattle.condition_codegen.proofs.emitter.Emitter.+expression.Given as goal

-- what is there, and what is still to come, are the whole
abbrev pub invariant-emit_chain-loop-operator : goal.invariant-emit_chain-loop-operator
invariant-emit_chain-loop-operator l =
    append l.code (in_order (link_piece (items_in l.self.declarations.now)) (drop l.operator-index l.all) l.code)
    ≡ append l.initial.code (in_order (link_piece (items_in l.self.declarations.now)) l.all l.initial.code)
