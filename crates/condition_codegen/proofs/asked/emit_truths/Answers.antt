use Rattle.std.proofs.Common.{◌≡◌, refl, sym, ap, ◌∙◌}
use Rattle.std.specs.Prelude.{not}
use Rattle.source_tree.specs.Evaluate.{constant, condition_or_opposite}
use Rattle.data_instructions.specs.ConditionCodes.{negation}
use Rattle.condition_codegen.specs.Fragments.{Fragment, append, sequence}
use Rattle.condition_codegen.specs.DataCode.{works_fragment}
use Rattle.condition_codegen.specs.ConditionCode.{condition_fragment}
use Rattle.condition_codegen.proofs.Questions.{constant_is, told_is}
use Rattle.condition_codegen.proofs.Sequences.{is_so, ends_so}
use Rattle.condition_codegen.proofs.asked.emit_truths.Goals as goal

pub returns : goal.returns
returns c = λ items.
    let old = c.args.code.now in
    let result = c.emit_negation.result in
    let new = c.emit_negation.new.code in
    let test = condition_fragment items (constant c.args.other) in
    let behind = works_fragment (negation (not c.args.one)) in
    let begun : c.emit_constant.new.code ≡ append old (test old) =
    c.in_ok-emit_constant.ensures ∙ ap (λ (p : Fragment). append old (p old)) (sym (constant_is items c.args.other)) in
    is_so result new (append old (sequence test behind old))
    (append old (condition_fragment items (condition_or_opposite c.args.one (constant c.args.other)) old))
    (ends_so result test behind old c.emit_constant.new.code new begun c.emit_negation.ensures)
    (ap (append old) (told_is items (constant c.args.other) c.args.one (not c.args.one) old refl))
