use Rattle.std.proofs.Common.{false, Option, sym, ap, ◌∙◌}
use Rattle.source_tree.specs.declared.expression.Operator.TheVariants as operator
use Rattle.source_tree.specs.declared.until.Varying.{Varying}
use Rattle.source_tree.specs.ConditionRules.{varying_rules}
use Rattle.data_instructions.specs.declared.instruction.DataInstruction.{DataInstruction}
use Rattle.data_instructions.specs.declared.instruction.DataInstruction.TheVariants as i
use Rattle.declarations.specs.Named.{items_in}
use Rattle.condition_codegen.specs.Fragments.{append, sequence}
use Rattle.condition_codegen.specs.DataCode.{work_fragment}
use Rattle.condition_codegen.specs.ArithmeticCode.{value_fragment, update_fragment}
use Rattle.codegen.specs.UntilCode.{vary_on_fragment}
use Rattle.condition_codegen.proofs.Sequences.{four_so, on_ok}
use Rattle.codegen.proofs.Varying.{varied, by_kept, varied_kept, vary_on_is}
use Rattle.codegen.proofs.until.emit_vary_on.Goals as goal

pub emit_value-requires : goal.emit_value-requires
emit_value-requires c =
    let items = items_in c.args.emitter.now.declarations.now in
    record { rules = by_kept items c.in-Some.varying (sym (ap (varying_rules items) c.in-Some.is) ∙ c.requires.rules) }

pub emit_update-requires : goal.emit_update-requires
emit_update-requires c =
    let items = items_in c.args.emitter.now.declarations.now in
    record {
      rules = varied_kept items c.in-Some.varying (sym (ap (varying_rules items) c.in-Some.is) ∙ c.requires.rules);
    }

pub returns : goal.returns
returns c =
    let items = items_in c.args.emitter.now.declarations.now in
    let one = c.in-Some.varying in
    let old = c.args.code.now in
    let value = value_fragment items one.by in
    let update = update_fragment items false operator.Add (varied one) in
    on_ok c.emit_work-2.result
    (four_so c.emit_work-2.result (work_fragment i.ClearTruth) value update (work_fragment c.discard.result) old
    c.emit_work.new.code c.emit_value.new.code c.emit_update.new.code c.emit_work-2.new.code
    c.in_ok-emit_work.ensures c.in_ok-emit_value.ensures c.in_ok-emit_update.ensures c.emit_work-2.ensures)
    (λ e. e ∙ ap (λ (d : DataInstruction). append old (sequence (work_fragment i.ClearTruth) (sequence value (sequence
    update (work_fragment d))) old)) c.discard.ensures ∙ ap (append old) (vary_on_is items one old)
    ∙ sym (ap (λ (o : Option Varying). append old (vary_on_fragment items o old)) c.in-Some.is))
