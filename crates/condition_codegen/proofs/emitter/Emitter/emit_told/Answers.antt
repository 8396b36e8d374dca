use Rattle.std.proofs.Common.{refl, ap}
use Rattle.std.specs.Prelude.{not}
use Rattle.source_tree.specs.Evaluate.{condition_or_opposite}
use Rattle.data_instructions.specs.ConditionCodes.{negation}
use Rattle.declarations.specs.Resolved.{condition_meant}
use Rattle.declarations.specs.Named.{items_in}
use Rattle.condition_codegen.specs.Fragments.{append, sequence}
use Rattle.condition_codegen.specs.DataCode.{works_fragment}
use Rattle.condition_codegen.specs.ConditionCode.{condition_fragment}
use Rattle.condition_codegen.proofs.Questions.{told_is}
use Rattle.condition_codegen.proofs.Sequences.{is_so, ends_so}
use Rattle.condition_codegen.proofs.emitter.Emitter.emit_told.Goals as goal

pub returns : goal.returns
returns c =
    let items = items_in c.args.self.now.declarations.now in
    let old = c.args.code.now in
    let result = c.emit_negation.result in
    let new = c.emit_negation.new.code in
    let one = condition_meant c.args.one in
    let behind = works_fragment (negation (not c.args.truth)) in
    is_so result new (append old (sequence (condition_fragment items one) behind old))
    (append old (condition_fragment items (condition_or_opposite c.args.truth one) old))
    (ends_so result (condition_fragment items one) behind old c.emit_asked_condition.new.code new
    c.in_ok-emit_asked_condition.ensures c.emit_negation.ensures)
    (ap (append old) (told_is items one c.args.truth (not c.args.truth) old refl))
