use Rattle.std.proofs.Common.{ap, ◌∙◌}
use Rattle.source_tree.specs.declared.condition.Condition.{Condition}
use Rattle.source_tree.specs.ConditionRules.{condition_rules}
use Rattle.source_tree.specs.Evaluate.{selection_condition}
use Rattle.declarations.specs.Resolved.{question_meant}
use Rattle.declarations.specs.Named.{items_in}
use Rattle.condition_codegen.specs.Fragments.{append}
use Rattle.condition_codegen.specs.ConditionCode.{condition_fragment}
use Rattle.condition_codegen.proofs.Sequences.{is_so}
use Rattle.condition_codegen.proofs.emitter.Emitter.emit_asked.Goals as goal

pub emit_question-requires-clause-rules : goal.emit_question-requires-clause-rules
emit_question-requires-clause-rules c =
    ap (condition_rules (items_in c.args.self.now.declarations.now)) c.question-question.ensures.asked
    ∙ c.requires.rules

pub returns : goal.returns
returns c =
    let items = items_in c.args.self.now.declarations.now in
    let old = c.args.code.now in
    is_so c.emit_question.result c.emit_question.new.code
    (append old (condition_fragment items (question_meant c.question-question.result) old))
    (append old (condition_fragment items (selection_condition items c.args.subject.now c.args.choice.now) old))
    c.emit_question.ensures
    (ap (λ (one : Condition). append old (condition_fragment items one old)) c.question-question.ensures.asked)
