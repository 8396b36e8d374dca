use Rattle.declarations.specs.Named.{items_in}
use Rattle.condition_codegen.specs.Fragments.{sequence}
use Rattle.condition_codegen.specs.DataCode.{operands_fragment, line_end_fragment, show_fragment}
use Rattle.condition_codegen.proofs.Sequences.{then_piece, ends_so}
use Rattle.statement_codegen.proofs.display_statement.emit_display.Goals as goal

pub returns : goal.returns
returns c =
    let operands = operands_fragment (items_in c.args.emitter.now.declarations.now) c.args.operands.now in
    let end = line_end_fragment c.args.advancing in
    ends_so c.emit_show.result (sequence operands end) show_fragment c.args.code.now c.emit_line_end.new.code
    c.emit_show.new.code (then_piece operands end c.args.code.now c.emit_operands.new.code c.emit_line_end.new.code
    c.in_ok-emit_operands.ensures c.in_ok-emit_line_end.ensures) c.emit_show.ensures
