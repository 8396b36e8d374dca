use Rattle.std.proofs.Common.{◌≡◌, ◌+◌, ◌*◌, drop}
use Rattle.source_tree.specs.declared.condition.Condition.{Condition}
use Rattle.declarations.specs.Named.{items_in}
use Rattle.condition_codegen.specs.Fragments.{append, in_order}
use Rattle.condition_codegen.specs.ConditionCode.{and_fragment, or_fragment, condition_fragment}
use Rattle.condition_codegen.proofs.emitter.Emitter.+condition.Given as goal

-- what is there, and what is still to come, are the whole
abbrev pub invariant-emit_each_and-loop-one : goal.invariant-emit_each_and-loop-one
invariant-emit_each_and-loop-one l =
    append l.code (in_order (λ (one : Condition).
    and_fragment (condition_fragment (items_in l.self.declarations.now) one)) (drop l.one-index l.more) l.code)
    ≡ append l.initial.code (in_order (λ (one : Condition).
    and_fragment (condition_fragment (items_in l.self.declarations.now) one)) l.more l.initial.code)

abbrev pub invariant-emit_each_or-loop-one : goal.invariant-emit_each_or-loop-one
invariant-emit_each_or-loop-one l =
    append l.code (in_order (λ (one : Condition).
    or_fragment (condition_fragment (items_in l.self.declarations.now) one)) (drop l.one-index l.more) l.code)
    ≡ append l.initial.code (in_order (λ (one : Condition).
    or_fragment (condition_fragment (items_in l.self.declarations.now) one)) l.more l.initial.code)

-- Each goes down by the depth of the conditions in it, and a caller stands above what it hands the same ones to.
abbrev pub decreases-emit_condition : goal.decreases-emit_condition
decreases-emit_condition l = 8 * goal.size-emit_condition l

abbrev pub decreases-emit_and : goal.decreases-emit_and
decreases-emit_and l = 8 * goal.size-emit_and l + 1

abbrev pub decreases-emit_or : goal.decreases-emit_or
decreases-emit_or l = 8 * goal.size-emit_or l + 1

abbrev pub decreases-emit_each_and : goal.decreases-emit_each_and
decreases-emit_each_and l = 8 * goal.size-emit_each_and l + 2

abbrev pub decreases-emit_each_or : goal.decreases-emit_each_or
decreases-emit_each_or l = 8 * goal.size-emit_each_or l + 2

abbrev pub decreases-emit_all : goal.decreases-emit_all
decreases-emit_all l = 8 * goal.size-emit_all l + 3

abbrev pub decreases-emit_any : goal.decreases-emit_any
decreases-emit_any l = 8 * goal.size-emit_any l + 3
