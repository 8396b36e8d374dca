use Rattle.std.proofs.Common.{◌≡◌, drop}
use Rattle.condition_codegen.specs.Fragments.{append, in_order}
use Rattle.condition_codegen.specs.ConditionCode.{value_range_fragment}
use Rattle.condition_codegen.proofs.condition_name.emit_values.Given as goal

-- what is there, and what is still to come, are the whole
abbrev pub invariant-loop-one : goal.invariant-loop-one
invariant-loop-one l = append l.code (in_order value_range_fragment (drop l.one-index l.all) l.code)
    ≡ append l.initial.code (in_order value_range_fragment l.all l.initial.code)
