use Rattle.std.proofs.Common.{true, false, ap, ◌∙◌}
use Rattle.source_tree.specs.ConditionRules.{condition_rules}
use Rattle.declarations.specs.declared.resolved.Question.{Question}
use Rattle.declarations.specs.Named.{items_in}
use Rattle.declarations.specs.Resolved.{question_meant}
use Rattle.check_rules.proofs.QuestionLayers.{constant_is}
use Rattle.check_rules.proofs.checker.Checker.question_rules.Goals as goal

pub returns-in-Nothing : goal.returns-in-Nothing
returns-in-Nothing c =
    let items = items_in c.args.self.now.declarations.now in
    ap (λ (one : Question). condition_rules items (question_meant one)) c.in-Nothing.is ∙ constant_is items true

pub returns-in-Unfit : goal.returns-in-Unfit
returns-in-Unfit c =
    let items = items_in c.args.self.now.declarations.now in
    ap (λ (one : Question). condition_rules items (question_meant one)) c.in-Unfit.is ∙ constant_is items false
