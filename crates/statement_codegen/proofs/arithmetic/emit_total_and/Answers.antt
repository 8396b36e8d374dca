use Rattle.declarations.specs.Named.{items_in}
use Rattle.condition_codegen.specs.ArithmeticCode.{total_fragment, value_fragment}
use Rattle.condition_codegen.proofs.Kept.{front_kept, back_kept}
use Rattle.condition_codegen.proofs.Sequences.{ends_so}
use Rattle.statement_codegen.proofs.arithmetic.emit_total_and.Goals as goal

pub emit_total-requires : goal.emit_total-requires
emit_total-requires c =
    record { rules = front_kept _ _ c.requires.rules }

pub emit_value-requires : goal.emit_value-requires
emit_value-requires c =
    record { rules = back_kept _ _ c.requires.rules }

pub returns : goal.returns
returns c =
    let items = items_in c.args.emitter.now.declarations.now in
    ends_so c.emit_value.result (total_fragment items c.args.all.now) (value_fragment items c.args.minuend.now)
    c.args.code.now c.emit_total.new.code c.emit_value.new.code c.in_ok-emit_total.ensures c.emit_value.ensures
