use Rattle.std.proofs.Common.{◌≡◌, drop}
use Rattle.condition_codegen.specs.Fragments.{append, in_order}
use Rattle.condition_codegen.specs.DataCode.{work_fragment}
use Rattle.condition_codegen.proofs.references.emit_works.Given as goal

-- what is there, and what is still to come, are the whole
abbrev pub invariant-loop-one : goal.invariant-loop-one
invariant-loop-one l = append l.code (in_order work_fragment (drop l.one-index l.all) l.code)
    ≡ append l.initial.code (in_order work_fragment l.all l.initial.code)
