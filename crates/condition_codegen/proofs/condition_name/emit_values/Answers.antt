use Rattle.std.proofs.Common.{sym, subst}
use Rattle.source_tree.specs.declared.entry.ValueRange.{ValueRange}
use Rattle.condition_codegen.specs.Values.{HasForms}
use Rattle.condition_codegen.proofs.ConditionNames.{value_formed}
use Rattle.std.proofs.Common.{ap, ◌∙◌}
use Rattle.condition_codegen.specs.Fragments.{append, in_order}
use Rattle.condition_codegen.specs.ConditionCode.{value_range_fragment}
use Rattle.condition_codegen.proofs.Fragments.{goes_on}
use Rattle.condition_codegen.proofs.condition_name.emit_values.Goals as goal

pub emit_range-requires : goal.emit_range-requires
emit_range-requires c =
    subst (λ (r : ValueRange). HasForms r.first r.last) (sym c.one-item.is)
    (value_formed c.args.all.now c.loop-one.one-index c.one-item.result c.loop-one-test.true c.requires)

pub loop-one-preserved : goal.loop-one-preserved
loop-one-preserved c =
    let old = c.loop-one.code in
    goes_on value_range_fragment c.args.all.now c.loop-one.one-index c.one-item.result old c.emit_range.new.code
    (append c.args.code.now (in_order value_range_fragment c.args.all.now c.args.code.now)) c.loop-one-test.true
    (c.in_ok-emit_range.ensures ∙ ap (λ (one : ValueRange). append old (value_range_fragment one old)) c.one-item.is)
    c.loop-one.invariant
