use Rattle.std.proofs.Common.{true, false, sym, ap, ◌∙◌}
use Rattle.source_tree.specs.ConditionRules.{condition_rules}
use Rattle.source_tree.specs.Evaluate.{constant, condition_or_opposite}
use Rattle.declarations.specs.declared.resolved.Question.{Question}
use Rattle.declarations.specs.Resolved.{condition_meant, question_meant}
use Rattle.declarations.specs.Named.{items_in}
use Rattle.condition_codegen.specs.Fragments.{Fragment, append}
use Rattle.condition_codegen.specs.ConditionCode.{condition_fragment}
use Rattle.condition_codegen.specs.EvaluateCode.{constant_fragment}
use Rattle.condition_codegen.proofs.Questions.{constant_is, told_rules, one_alike, other_alike}
use Rattle.condition_codegen.proofs.Sequences.{is_so}
use Rattle.condition_codegen.proofs.emitter.Emitter.emit_question.Goals as goal

pub emit_told-requires-clause-rules : goal.emit_told-requires-clause-rules
emit_told-requires-clause-rules c =
    let items = items_in c.args.self.now.declarations.now in
    sym (told_rules items c.in-Told.truth (condition_meant c.in-Told.one))
    ∙ sym (ap (λ (q : Question). condition_rules items (question_meant q)) c.in-Told.is) ∙ c.requires.rules

pub emit_alike-requires-clause-one : goal.emit_alike-requires-clause-one
emit_alike-requires-clause-one c =
    let items = items_in c.args.self.now.declarations.now in
    one_alike items (condition_meant c.in-Alike.one) (condition_meant c.in-Alike.other)
    (sym (ap (λ (q : Question). condition_rules items (question_meant q)) c.in-Alike.is) ∙ c.requires.rules)

pub emit_alike-requires-clause-other : goal.emit_alike-requires-clause-other
emit_alike-requires-clause-other c =
    let items = items_in c.args.self.now.declarations.now in
    other_alike items (condition_meant c.in-Alike.one) (condition_meant c.in-Alike.other)
    (sym (ap (λ (q : Question). condition_rules items (question_meant q)) c.in-Alike.is) ∙ c.requires.rules)

pub returns-in-Nothing : goal.returns-in-Nothing
returns-in-Nothing c =
    let items = items_in c.args.self.now.declarations.now in
    let old = c.args.code.now in
    is_so c.emit_constant.result c.emit_constant.new.code (append old (constant_fragment true old))
    (append old (condition_fragment items (question_meant c.args.one) old))
    c.emit_constant.ensures
    (ap (λ (p : Fragment). append old (p old)) (sym (constant_is items true))
    ∙ sym (ap (λ (q : Question). append old (condition_fragment items (question_meant q) old)) c.in-Nothing.is))

pub returns-in-Unfit : goal.returns-in-Unfit
returns-in-Unfit c =
    let items = items_in c.args.self.now.declarations.now in
    let old = c.args.code.now in
    is_so c.emit_constant-in-Unfit.result c.emit_constant-in-Unfit.new.code (append old (constant_fragment false old))
    (append old (condition_fragment items (question_meant c.args.one) old)) c.emit_constant-in-Unfit.ensures
    (ap (λ (p : Fragment). append old (p old)) (sym (constant_is items false))
    ∙ sym (ap (λ (q : Question). append old (condition_fragment items (question_meant q) old)) c.in-Unfit.is))

pub returns-in-Truths : goal.returns-in-Truths
returns-in-Truths c =
    let items = items_in c.args.self.now.declarations.now in
    let old = c.args.code.now in
    let test = condition_or_opposite c.in-Truths.one (constant c.in-Truths.other) in
    is_so c.emit_truths.result c.emit_truths.new.code (append old (condition_fragment items test old))
    (append old (condition_fragment items (question_meant c.args.one) old)) (c.emit_truths.ensures items)
    (sym (ap (λ (q : Question). append old (condition_fragment items (question_meant q) old)) c.in-Truths.is))
