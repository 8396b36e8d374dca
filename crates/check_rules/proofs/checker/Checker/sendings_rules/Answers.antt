use Rattle.std.proofs.lemmas.Result.{err_from_is_err_and}
use Rattle.source_tree.specs.StringRules.{sending_rules}
use Rattle.declarations.specs.Named.{items_in}
use Rattle.entry_rules.specs.Checks.{broken_of}
use Rattle.check_rules.proofs.InOrder.{kept_next, broken_here, kept_all}
use Rattle.check_rules.proofs.checker.Checker.sendings_rules.Goals as goal

pub loop-one-preserved : goal.loop-one-preserved
loop-one-preserved c =
    kept_next (sending_rules (items_in c.args.self.now.declarations.now)) c.args.all.now c.loop-one.one-index
    c.loop-one.invariant
    c.one-item.result c.loop-one-test.true c.one-item.is c.in_ok-sending_rules.ensures

pub returns : goal.returns
returns c =
    kept_all (sending_rules (items_in c.args.self.now.declarations.now)) c.args.all.now c.loop-one.one-index
    c.loop-one.invariant
    c.loop-one-test.false

pub returns-in_err-sending_rules : goal.returns-in_err-sending_rules
returns-in_err-sending_rules c =
    let p = err_from_is_err_and c.from_residual.result c.from_residual.ensures.1 in
    rw (p.1, p.2) (broken_here (sending_rules (items_in c.args.self.now.declarations.now)) c.args.all.now
    c.loop-one.one-index c.loop-one.invariant
    c.one-item.result (broken_of c.in_err-sending_rules.field-0.0) c.loop-one-test.true c.one-item.is
    c.in_err-sending_rules.ensures)
