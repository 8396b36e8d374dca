use Rattle.std.proofs.lemmas.Result.{err_from_is_err_and}
use Rattle.entry_rules.specs.Checks.{broken_of}
use Rattle.declarations.specs.Named.{items_in}
use Rattle.check_rules.proofs.QuestionLayers.{within_front}
use Rattle.check_rules.proofs.checker.Checker.within_rules.Goals as goal

pub returns-in_err-relation_rules : goal.returns-in_err-relation_rules
returns-in_err-relation_rules c =
    let p = err_from_is_err_and c.from_residual.result c.from_residual.ensures.1 in
    rw (p.1, p.2)
    (within_front (items_in c.args.self.now.declarations.now) c.args.value.now c.args.first.now c.args.last.now
    (broken_of c.in_err-relation_rules.field-0.0) c.in_err-relation_rules.ensures)
