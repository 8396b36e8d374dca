use Rattle.std.proofs.Common.{◌≡◌, List, sym, ap, ◌∙◌}
use Rattle.source_tree.specs.declared.expression.Operand.{Operand}
use Rattle.source_tree.specs.declared.text_statement.TextStatement.TheVariants.{Display, Accept, AcceptDate, Inspect}
use Rattle.source_tree.specs.declared.text_statement.TextStatement.TheVariants.{Convert}
use Rattle.source_tree.specs.Rules.{text_rules}
use Rattle.declarations.specs.Named.{items_in}
use Rattle.codegen.specs.UntilCode.{tick_fragment}
use Rattle.codegen.specs.Layout.{texts_fragment}
use Rattle.codegen.proofs.ByCase.{case_after}
use Rattle.codegen.proofs.emit.emit_texts.Goals as goal

pub emit_display-requires : goal.emit_display-requires
emit_display-requires c =
    let items = items_in c.args.emitter.now.declarations.now in
    let is : c.args.one.now ≡ Display c.as_slice.result.now c.in-Display.advancing =
    c.in-Display.is ∙ ap (λ (l : List Operand). Display l c.in-Display.advancing) (sym c.as_slice.ensures) in
    record { rules = sym (ap (text_rules items) is) ∙ c.requires.rules }

pub returns-in-Display : goal.returns-in-Display
returns-in-Display c =
    let items = items_in c.args.emitter.now.declarations.now in
    let is : c.args.one.now ≡ Display c.as_slice.result.now c.in-Display.advancing =
    c.in-Display.is ∙ ap (λ (l : List Operand). Display l c.in-Display.advancing) (sym c.as_slice.ensures) in
    case_after c.emit_display.result (texts_fragment items) c.args.one.now
    (Display c.as_slice.result.now c.in-Display.advancing)
    (tick_fragment c.args.line) c.args.code.now c.emit_tick.new.code c.emit_display.new.code is
    c.in_ok-emit_tick.ensures c.emit_display.ensures

pub emit_accept-requires : goal.emit_accept-requires
emit_accept-requires c =
    let items = items_in c.args.emitter.now.declarations.now in
    record { rules = sym (ap (text_rules items) c.in-Accept.is) ∙ c.requires.rules }

pub returns-in-Accept : goal.returns-in-Accept
returns-in-Accept c =
    let items = items_in c.args.emitter.now.declarations.now in
    case_after c.emit_accept.result (texts_fragment items) c.args.one.now (Accept c.in-Accept.receiver)
    (tick_fragment c.args.line) c.args.code.now c.emit_tick.new.code c.emit_accept.new.code c.in-Accept.is
    c.in_ok-emit_tick.ensures c.emit_accept.ensures

pub emit_date-requires : goal.emit_date-requires
emit_date-requires c =
    let items = items_in c.args.emitter.now.declarations.now in
    record { rules = sym (ap (text_rules items) c.in-AcceptDate.is) ∙ c.requires.rules }

pub returns-in-AcceptDate : goal.returns-in-AcceptDate
returns-in-AcceptDate c =
    let items = items_in c.args.emitter.now.declarations.now in
    case_after c.emit_date.result (texts_fragment items) c.args.one.now (AcceptDate c.in-AcceptDate.receiver)
    (tick_fragment c.args.line) c.args.code.now c.emit_tick.new.code c.emit_date.new.code c.in-AcceptDate.is
    c.in_ok-emit_tick.ensures c.emit_date.ensures

pub emit_inspect-requires : goal.emit_inspect-requires
emit_inspect-requires c =
    let items = items_in c.args.emitter.now.declarations.now in
    record { rules = sym (ap (text_rules items) c.in-Inspect.is) ∙ c.requires.rules }

pub returns-in-Inspect : goal.returns-in-Inspect
returns-in-Inspect c =
    let items = items_in c.args.emitter.now.declarations.now in
    case_after c.emit_inspect.result (texts_fragment items) c.args.one.now (Inspect c.in-Inspect.inspecting)
    (tick_fragment c.args.line) c.args.code.now c.emit_tick.new.code c.emit_inspect.new.code c.in-Inspect.is
    c.in_ok-emit_tick.ensures c.emit_inspect.ensures

pub emit_convert-requires : goal.emit_convert-requires
emit_convert-requires c =
    let items = items_in c.args.emitter.now.declarations.now in
    record { rules = sym (ap (text_rules items) c.in-Convert.is) ∙ c.requires.rules }

pub returns-in-Convert : goal.returns-in-Convert
returns-in-Convert c =
    let items = items_in c.args.emitter.now.declarations.now in
    case_after c.emit_convert.result (texts_fragment items) c.args.one.now (Convert c.in-Convert.converting)
    (tick_fragment c.args.line) c.args.code.now c.emit_tick.new.code c.emit_convert.new.code c.in-Convert.is
    c.in_ok-emit_tick.ensures c.emit_convert.ensures
