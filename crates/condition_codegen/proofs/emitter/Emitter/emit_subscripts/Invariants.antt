use Rattle.std.proofs.Common.{◌≡◌, drop}
use Rattle.declarations.specs.Named.{items_in}
use Rattle.condition_codegen.specs.Fragments.{append}
use Rattle.condition_codegen.specs.DataCode.{subscripts_fragment}
use Rattle.condition_codegen.proofs.emitter.Emitter.emit_subscripts.Given as goal

-- what is there, and what is still to come, are the whole
abbrev pub invariant-loop-number : goal.invariant-loop-number
invariant-loop-number l =
    append l.code (subscripts_fragment (items_in l.self.declarations.now) (drop l.number l.dimensions)
    (drop l.number l.subscripts) l.code)
    ≡ append l.initial.code
    (subscripts_fragment (items_in l.self.declarations.now) l.dimensions l.subscripts l.initial.code)
