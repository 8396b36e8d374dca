use Rattle.std.proofs.Common.{ap, ◌∙◌}
use Rattle.declarations.specs.Named.{items_in}
use Rattle.source_tree.specs.ArithmeticRules.{number_rules}
use Rattle.condition_codegen.proofs.Kept.{one_kept}
use Rattle.source_tree.specs.declared.expression.Operand.{Operand}
use Rattle.data_instructions.specs.declared.calculation.Calculation.TheVariants as c
use Rattle.data_instructions.specs.declared.instruction.DataInstruction.{DataInstruction}
use Rattle.data_instructions.specs.declared.instruction.DataInstruction.TheVariants as i
use Rattle.condition_codegen.specs.Fragments.{append, in_order}
use Rattle.condition_codegen.specs.DataCode.{work_fragment}
use Rattle.condition_codegen.specs.ArithmeticCode.{added_fragment, value_fragment}
use Rattle.condition_codegen.proofs.Fragments.{goes_on, is_done}
use Rattle.condition_codegen.proofs.Sequences.{then_piece}
use Rattle.condition_codegen.proofs.emitter.Emitter.emit_all_added.Goals as goal

pub emit_value-requires : goal.emit_value-requires
emit_value-requires c =
    record {
      rules = ap (number_rules (items_in c.args.self.now.declarations.now)) c.one-item.is
          ∙ one_kept (number_rules (items_in c.args.self.now.declarations.now)) c.args.all.now c.loop-one.one-index
          c.one-item.result c.loop-one-test.true c.requires.rules;
    }

pub loop-one-preserved : goal.loop-one-preserved
loop-one-preserved k =
    let items = items_in k.args.self.now.declarations.now in
    let added = added_fragment items in
    let old = k.loop-one.code in
    let valued = k.emit_value.new.code in
    let new = k.emit_work.new.code in
    let one = k.one-item.result in
    goes_on added k.args.all.now k.loop-one.one-index one old new
    (append k.args.code.now (in_order added k.args.all.now k.args.code.now)) k.loop-one-test.true
    (then_piece (value_fragment items one) (work_fragment (i.Calculate c.Add)) old valued new
    k.in_ok-emit_value.ensures
    (k.in_ok-emit_work.ensures
    ∙ ap (λ (work : DataInstruction). append valued (work_fragment work valued)) k.operator_code.ensures)
    ∙ ap (λ (one : Operand). append old (added one old)) k.one-item.is) k.loop-one.invariant

pub returns : goal.returns
returns k =
    is_done (added_fragment (items_in k.args.self.now.declarations.now)) k.args.all.now k.loop-one.one-index
    k.loop-one.code _ k.loop-one-test.false k.loop-one.invariant
