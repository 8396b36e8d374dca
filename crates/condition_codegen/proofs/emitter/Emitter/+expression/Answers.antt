use Rattle.std.proofs.Common.{rules, ◌≡◌, List, [], ◌++◌, sym, ap, ◌∙◌}
use Rattle.source_tree.specs.declared.expression.Operator.{Operator}
use Rattle.source_tree.specs.declared.expression.Expression.{Expression, the_lemmas}
use Rattle.source_tree.specs.Broken.{each}
use Rattle.source_tree.specs.ArithmeticRules.{expression_rules}
use Rattle.data_instructions.specs.declared.calculation.Calculation.TheVariants as calculation
use Rattle.data_instructions.specs.ArithmeticCodes.{operator_code}
use Rattle.data_instructions.specs.declared.instruction.DataInstruction.{DataInstruction}
use Rattle.data_instructions.specs.declared.instruction.DataInstruction.TheVariants as i
use Rattle.declarations.specs.Named.{items_in}
use Rattle.declarations.specs.Chains.{further_rules}
use Rattle.declarations.proofs.Layers as layers
use Rattle.condition_codegen.specs.Fragments.{append, sequence, in_order}
use Rattle.condition_codegen.specs.DataCode.{work_fragment}
use Rattle.condition_codegen.specs.ArithmeticCode.{value_fragment, expression_fragment}
use Rattle.condition_codegen.proofs.ExpressionForms.{link_piece, operand_is, negated_is, chain_is}
use Rattle.condition_codegen.proofs.Kept.{front_kept, back_kept, one_kept}
use Rattle.condition_codegen.proofs.Fragments.{goes_on, is_done}
use Rattle.condition_codegen.proofs.Sequences.{then_piece, is_so, ends_so, on_ok}
use Rattle.condition_codegen.proofs.emitter.Emitter.+expression.Goals as goal

pub emit_chain-emit_expression-requires : goal.emit_chain-emit_expression-requires
emit_chain-emit_expression-requires t c =
    let kept = λ (one : Operator × Expression). expression_rules (items_in c.args.self.now.declarations.now) one.1 in
    let r : expression_rules (items_in c.args.self.now.declarations.now) c.loop-operator-item.result.1 ≡ [] =
    ap kept c.loop-operator-item.is ∙ one_kept kept c.args.all.now c.loop-operator.operator-index
    c.loop-operator-item.result c.loop-operator-test.true c.requires.rules in
    (search (rules, the_lemmas), r)

pub emit_expression-emit_value-requires : goal.emit_expression-emit_value-requires
emit_expression-emit_value-requires t c =
    let items = items_in c.args.self.now.declarations.now in
    record {
      rules = sym (layers.operand_is items c.in-Operand.operand) ∙ sym (ap (expression_rules items) c.in-Operand.is)
          ∙ c.requires.rules;
    }

pub emit_expression-emit_expression-requires : goal.emit_expression-emit_expression-requires
emit_expression-emit_expression-requires t c =
    let items = items_in c.args.self.now.declarations.now in
    let r : expression_rules items c.get.result.now ≡ [] =
    ap (expression_rules items) c.get.ensures ∙ sym (layers.negated_is items c.in-Negated.inner)
    ∙ sym (ap (expression_rules items) c.in-Negated.is) ∙ c.requires.rules in
    (search (rules, the_lemmas), r)

pub emit_expression-emit_expression-requires-in-Chain : goal.emit_expression-emit_expression-requires-in-Chain
emit_expression-emit_expression-requires-in-Chain t c =
    let items = items_in c.args.self.now.declarations.now in
    let whole : expression_rules items c.in-Chain.first ++ each (further_rules items) c.in-Chain.more ≡ [] =
    sym (layers.chain_is items c.in-Chain.first c.in-Chain.more) ∙ sym (ap (expression_rules items) c.in-Chain.is)
    ∙ c.requires.rules in
    let r : expression_rules items c.get-in-Chain.result.now ≡ [] = ap (expression_rules items) c.get-in-Chain.ensures
    ∙ front_kept (expression_rules items c.in-Chain.first) (each (further_rules items) c.in-Chain.more) whole in
    (search (rules, the_lemmas), r)

pub emit_expression-emit_chain-requires : goal.emit_expression-emit_chain-requires
emit_expression-emit_chain-requires t c =
    let items = items_in c.args.self.now.declarations.now in
    let whole : expression_rules items c.in-Chain.first ++ each (further_rules items) c.in-Chain.more ≡ [] =
    sym (layers.chain_is items c.in-Chain.first c.in-Chain.more) ∙ sym (ap (expression_rules items) c.in-Chain.is)
    ∙ c.requires.rules in
    let r : each (further_rules items) c.as_slice.result.now ≡ [] = ap (each (further_rules items)) c.as_slice.ensures
    ∙ back_kept (expression_rules items c.in-Chain.first) (each (further_rules items) c.in-Chain.more) whole in
    (search (rules, the_lemmas), r)

pub emit_expression-returns-in-Operand : goal.emit_expression-returns-in-Operand
emit_expression-returns-in-Operand t c =
    let items = items_in c.args.self.now.declarations.now in
    let old = c.args.code.now in
    is_so c.emit_value.result c.emit_value.new.code (append old (value_fragment items c.in-Operand.operand old))
    (append old (expression_fragment items c.args.one.now old)) c.emit_value.ensures
    (ap (append old) (sym (operand_is items c.in-Operand.operand old)
    ∙ sym (ap (λ (e : Expression). expression_fragment items e old) c.in-Operand.is)))

pub emit_expression-returns-in_ok-emit_expression-in-Negated :
    goal.emit_expression-returns-in_ok-emit_expression-in-Negated
emit_expression-returns-in_ok-emit_expression-in-Negated t c =
    let items = items_in c.args.self.now.declarations.now in
    let old = c.args.code.now in
    on_ok c.emit_work.result
    (ends_so c.emit_work.result (expression_fragment items c.in-Negated.inner)
    (work_fragment (i.Calculate calculation.Negate)) old c.emit_expression.new.code c.emit_work.new.code
    (c.in_ok-emit_expression-in-Negated.ensures
    ∙ ap (λ (e : Expression). append old (expression_fragment items e old)) c.get.ensures) c.emit_work.ensures)
    (λ e. e ∙ ap (append old) (sym (negated_is items c.in-Negated.inner old)
    ∙ sym (ap (λ (e : Expression). expression_fragment items e old) c.in-Negated.is)))

pub emit_expression-returns-in_ok-emit_expression-in-Chain : goal.emit_expression-returns-in_ok-emit_expression-in-Chain
emit_expression-returns-in_ok-emit_expression-in-Chain t c =
    let items = items_in c.args.self.now.declarations.now in
    let old = c.args.code.now in
    let first = expression_fragment items c.in-Chain.first in
    on_ok c.emit_chain.result
    (ends_so c.emit_chain.result first (in_order (link_piece items) c.as_slice.result.now) old
    c.emit_expression-in-Chain.new.code c.emit_chain.new.code (c.in_ok-emit_expression-in-Chain.ensures
    ∙ ap (λ (e : Expression). append old (expression_fragment items e old)) c.get-in-Chain.ensures)
    c.emit_chain.ensures)
    (λ e. e
    ∙ ap (λ (l : List (Operator × Expression)). append old (sequence first (in_order (link_piece items) l) old))
    c.as_slice.ensures
    ∙ ap (append old) (sym (chain_is items c.in-Chain.first c.in-Chain.more old)
    ∙ sym (ap (λ (e : Expression). expression_fragment items e old) c.in-Chain.is)))

pub emit_chain-loop-operator-preserved : goal.emit_chain-loop-operator-preserved
emit_chain-loop-operator-preserved t c =
    let items = items_in c.args.self.now.declarations.now in
    let old = c.loop-operator.code in
    let valued = c.emit_expression.new.code in
    let one = c.loop-operator-item.result in
    goes_on (link_piece items) c.args.all.now c.loop-operator.operator-index one old c.emit_work.new.code _
    c.loop-operator-test.true
    (then_piece (expression_fragment items one.1) (work_fragment (operator_code one.0)) old valued c.emit_work.new.code
    c.in_ok-emit_expression.ensures
    (c.in_ok-emit_work.ensures
    ∙ ap (λ (work : DataInstruction). append valued (work_fragment work valued)) c.operator_code.ensures)
    ∙ ap (λ (link : Operator × Expression). append old (link_piece items link old)) c.loop-operator-item.is)
    c.loop-operator.invariant

pub emit_chain-returns : goal.emit_chain-returns
emit_chain-returns t c =
    is_done (link_piece (items_in c.args.self.now.declarations.now)) c.args.all.now c.loop-operator.operator-index
    c.loop-operator.code _ c.loop-operator-test.false c.loop-operator.invariant
