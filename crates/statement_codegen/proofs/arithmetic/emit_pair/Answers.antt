use Rattle.declarations.specs.Named.{items_in}
use Rattle.condition_codegen.specs.ArithmeticCode.{value_fragment}
use Rattle.condition_codegen.proofs.Kept.{front_kept, back_kept}
use Rattle.condition_codegen.proofs.Sequences.{ends_so}
use Rattle.statement_codegen.proofs.arithmetic.emit_pair.Goals as goal

pub emit_value-requires : goal.emit_value-requires
emit_value-requires c =
    record { rules = front_kept _ _ c.requires.rules }

pub emit_value-requires-2 : goal.emit_value-requires-2
emit_value-requires-2 c =
    record { rules = back_kept _ _ c.requires.rules }

pub returns : goal.returns
returns c =
    let items = items_in c.args.emitter.now.declarations.now in
    ends_so c.emit_value-2.result (value_fragment items c.args.first.now) (value_fragment items c.args.second.now)
    c.args.code.now c.emit_value.new.code c.emit_value-2.new.code c.in_ok-emit_value.ensures c.emit_value-2.ensures
