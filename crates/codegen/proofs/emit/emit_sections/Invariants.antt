use Rattle.std.proofs.Common.{◌≡◌, drop}
use Rattle.declarations.specs.Named.{scope_in}
use Rattle.condition_codegen.specs.Fragments.{append, in_order}
use Rattle.codegen.specs.Layout.{section_fragment}
use Rattle.codegen.proofs.emit.emit_sections.Given as goal

-- what is there, and what is still to come, are the whole
abbrev pub invariant-loop-one : goal.invariant-loop-one
invariant-loop-one l =
    append l.code (in_order (section_fragment (scope_in l.emitter.declarations.now)) (drop l.one-index l.all) l.code)
    ≡ append l.initial.code (in_order (section_fragment (scope_in l.emitter.declarations.now)) l.all l.initial.code)
