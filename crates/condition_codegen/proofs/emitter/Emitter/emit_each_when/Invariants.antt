use Rattle.std.proofs.Common.{◌≡◌, drop}
use Rattle.source_tree.specs.declared.evaluate_statement.When.{When}
use Rattle.source_tree.specs.Evaluate.{when_condition}
use Rattle.declarations.specs.Named.{items_in}
use Rattle.condition_codegen.specs.Fragments.{append, in_order}
use Rattle.condition_codegen.specs.ConditionCode.{or_fragment, condition_fragment}
use Rattle.condition_codegen.proofs.emitter.Emitter.emit_each_when.Given as goal

-- what is there, and what is still to come, are the whole
abbrev pub invariant-loop-one : goal.invariant-loop-one
invariant-loop-one l =
    append l.code (in_order (λ (one : When). or_fragment (condition_fragment (items_in l.self.declarations.now)
    (when_condition (items_in l.self.declarations.now) l.subjects one))) (drop l.one-index l.more) l.code)
    ≡ append l.initial.code (in_order (λ (one : When). or_fragment (condition_fragment (items_in
    l.self.declarations.now) (when_condition (items_in l.self.declarations.now) l.subjects one))) l.more l.initial.code)
