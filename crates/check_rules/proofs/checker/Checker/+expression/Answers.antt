use Rattle.std.proofs.lemmas.Result.{err_from_is_err_and}
use Rattle.entry_rules.specs.Checks.{broken_of}
use Rattle.declarations.specs.Chains.{further_rules}
use Rattle.declarations.specs.Named.{items_in}
use Rattle.check_rules.proofs.InOrder.{kept_next, broken_here, kept_all}
use Rattle.check_rules.proofs.checker.Checker.+expression.Goals as goal

pub further_rules-loop-one-preserved : goal.further_rules-loop-one-preserved
further_rules-loop-one-preserved t c =
    kept_next (further_rules (items_in c.args.self.now.declarations.now)) c.args.all.now c.loop-one.one-index
    c.loop-one.invariant
    c.loop-one-item.result c.loop-one-test.true c.loop-one-item.is c.in_ok-expression_rules.ensures

pub further_rules-returns : goal.further_rules-returns
further_rules-returns t c =
    kept_all (further_rules (items_in c.args.self.now.declarations.now)) c.args.all.now c.loop-one.one-index
    c.loop-one.invariant
    c.loop-one-test.false

pub further_rules-returns-in_err-expression_rules : goal.further_rules-returns-in_err-expression_rules
further_rules-returns-in_err-expression_rules t c =
    let p = err_from_is_err_and c.from_residual.result c.from_residual.ensures.1 in
    rw (p.1, p.2) (broken_here (further_rules (items_in c.args.self.now.declarations.now)) c.args.all.now
    c.loop-one.one-index c.loop-one.invariant
    c.loop-one-item.result (broken_of c.in_err-expression_rules.field-0.0) c.loop-one-test.true c.loop-one-item.is
    c.in_err-expression_rules.ensures)
