use Rattle.std.proofs.Common.{◌≡◌, drop}
use Rattle.declarations.specs.Named.{items_in}
use Rattle.condition_codegen.specs.Fragments.{append, in_order}
use Rattle.condition_codegen.specs.ArithmeticCode.{added_fragment}
use Rattle.condition_codegen.proofs.emitter.Emitter.emit_all_added.Given as goal

-- what is there, and what is still to come, are the whole
abbrev pub invariant-loop-one : goal.invariant-loop-one
invariant-loop-one l =
    append l.code (in_order (added_fragment (items_in l.self.declarations.now)) (drop l.one-index l.all) l.code)
    ≡ append l.initial.code (in_order (added_fragment (items_in l.self.declarations.now)) l.all l.initial.code)
