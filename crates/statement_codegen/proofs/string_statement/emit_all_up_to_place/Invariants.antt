use Rattle.std.proofs.Common.{◌≡◌, drop}
use Rattle.statement_codegen.specs.StringCode.{up_to_place_fragment}
use Rattle.declarations.specs.Named.{items_in}
use Rattle.condition_codegen.specs.Fragments.{append, in_order}
use Rattle.statement_codegen.proofs.string_statement.emit_all_up_to_place.Given as goal

-- what is there, and what is still to come, are the whole
abbrev pub invariant-loop-one : goal.invariant-loop-one
invariant-loop-one l =
    append l.code
    (in_order (up_to_place_fragment (items_in l.emitter.declarations.now)) (drop l.one-index l.all) l.code)
    ≡ append l.initial.code (in_order (up_to_place_fragment (items_in l.emitter.declarations.now)) l.all l.initial.code)
