use Rattle.std.proofs.Common.{sym, subst}
use Rattle.std.proofs.lemmas.Result.{err_from_is_err_and}
use Rattle.source_tree.specs.declared.condition.Condition.{Condition}
use Rattle.source_tree.specs.ConditionRules.{condition_rules}
use Rattle.entry_rules.specs.Checks.{IsFirstBreach, broken_of}
use Rattle.declarations.specs.Named.{items_in}
use Rattle.check_rules.proofs.ConditionLayers.{class_is}
use Rattle.check_rules.proofs.InOrder.{kept_next, broken_here, kept_all}
use Rattle.check_rules.proofs.checker.Checker.+condition.Goals as goal

pub condition_rules-returns-in-Class : goal.condition_rules-returns-in-Class
condition_rules-returns-in-Class t c =
    let items = items_in c.args.self.now.declarations.now in
    let result = c.item_rules.result in
    subst (λ (one : Condition). IsFirstBreach result (condition_rules items one)) (sym c.in-Class.is)
    (subst (IsFirstBreach result) (sym (class_is items c.in-Class.item c.in-Class.negated c.in-Class.class))
    c.item_rules.ensures)

pub conditions_rules-loop-one-preserved : goal.conditions_rules-loop-one-preserved
conditions_rules-loop-one-preserved t c =
    kept_next (condition_rules (items_in c.args.self.now.declarations.now)) c.args.all.now c.loop-one.one-index
    c.loop-one.invariant
    c.one-item.result c.loop-one-test.true c.one-item.is c.in_ok-condition_rules.ensures

pub conditions_rules-returns : goal.conditions_rules-returns
conditions_rules-returns t c =
    kept_all (condition_rules (items_in c.args.self.now.declarations.now)) c.args.all.now c.loop-one.one-index
    c.loop-one.invariant
    c.loop-one-test.false

pub conditions_rules-returns-in_err-condition_rules : goal.conditions_rules-returns-in_err-condition_rules
conditions_rules-returns-in_err-condition_rules t c =
    let p = err_from_is_err_and c.from_residual.result c.from_residual.ensures.1 in
    rw (p.1, p.2) (broken_here (condition_rules (items_in c.args.self.now.declarations.now)) c.args.all.now
    c.loop-one.one-index c.loop-one.invariant
    c.one-item.result (broken_of c.in_err-condition_rules.field-0.0) c.loop-one-test.true c.one-item.is
    c.in_err-condition_rules.ensures)
