use Rattle.std.proofs.Common.{ap, ◌∙◌}
use Rattle.decimal18.specs.Fraction.{Fraction}
use Rattle.source_tree.specs.declared.condition.Relation.{Relation}
use Rattle.source_tree.specs.Conditions.{sign_relation}
use Rattle.data_instructions.specs.declared.instruction.DataInstruction.TheVariants as i
use Rattle.data_instructions.specs.declared.test.Test.TheVariants as test
use Rattle.declarations.specs.Named.{items_in}
use Rattle.condition_codegen.specs.Fragments.{append}
use Rattle.condition_codegen.specs.DataCode.{number_fragment, work_fragment}
use Rattle.condition_codegen.specs.ArithmeticCode.{zero_number, expression_fragment}
use Rattle.condition_codegen.proofs.Sequences.{three_so, on_ok}
use Rattle.condition_codegen.proofs.emitter.Emitter.emit_sign.Goals as goal

pub returns : goal.returns
returns c =
    let items = items_in c.args.self.now.declarations.now in
    let valued = c.emit_expression.new.code in
    let numbered = c.emit_number.new.code in
    let compared = λ (one : Relation). work_fragment (i.Test (test.CompareNumbers one)) in
    three_so c.emit_work.result (expression_fragment items c.args.value.now) (number_fragment zero_number)
    (compared (sign_relation c.args.sign c.args.negated)) c.args.code.now valued numbered c.emit_work.new.code
    c.in_ok-emit_expression.ensures
    (c.in_ok-emit_number.ensures ∙ ap (λ (n : Fraction). append valued (number_fragment n valued)) c.short.ensures)
    (on_ok c.emit_work.result c.emit_work.ensures
    (λ e. e ∙ ap (λ (one : Relation). append numbered (compared one numbered)) c.sign_relation-relation.ensures))
