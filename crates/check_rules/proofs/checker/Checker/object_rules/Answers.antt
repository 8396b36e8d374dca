use Rattle.std.proofs.Common.{not, ◌∙◌, ap}
use Rattle.declarations.specs.Named.{items_in}
use Rattle.check_rules.proofs.QuestionLayers.{object_found}
use Rattle.check_rules.proofs.checker.Checker.object_rules.Goals as goal

pub returns : goal.returns
returns c =
    object_found (items_in c.args.self.now.declarations.now) c.args.subject.now c.args.object.now c.is_unfit.result _
    c.question_rules.result c.told_at.result (c.is_unfit.ensures ∙ ap not c.question-question.ensures.fit)
    c.in_ok-broken_if.ensures c.question-question.ensures.asked c.question_rules.ensures c.told_at.ensures
