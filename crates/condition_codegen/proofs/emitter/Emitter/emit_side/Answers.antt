use Rattle.std.proofs.Common.{◌≡◌, Some, sym, ap, ◌∙◌}
use Rattle.std.specs.Option.{option_map}
use Rattle.source_tree.specs.Conditions.{alone_side}
use Rattle.declarations.specs.Named.{items_in}
use Rattle.condition_codegen.specs.Fragments.{append}
use Rattle.condition_codegen.specs.ArithmeticCode.{value_fragment}
use Rattle.condition_codegen.specs.ConditionCode.{side_fragment}
use Rattle.condition_codegen.specs.Sides.{operand_of}
use Rattle.condition_codegen.proofs.Sequences.{is_so}
use Rattle.condition_codegen.proofs.Sides.{alone_piece}
use Rattle.condition_codegen.proofs.emitter.Emitter.emit_side.Goals as goal

pub returns-in-Some : goal.returns-in-Some
returns-in-Some c =
    let items = items_in c.args.self.now.declarations.now in
    let old = c.args.code.now in
    let one = operand_of c.in-Some.one in
    let told : alone_side c.args.side.now ≡ Some one =
    sym c.alone_side.ensures ∙ ap (option_map operand_of) c.in-Some.is in
    is_so c.emit_number_alone.result c.emit_number_alone.new.code (append old (value_fragment items one old))
    (append old (side_fragment items c.args.side.now old)) c.emit_number_alone.ensures
    (ap (append old) (sym (alone_piece items c.args.side.now one old told)))
