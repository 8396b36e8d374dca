use Rattle.std.proofs.Common.{arith}
use Rattle.std.proofs.lemmas.Result.{err_from_is_err_and}
use Rattle.source_tree.specs.EvaluateRules.{selected_rules}
use Rattle.source_tree.specs.Rules.{statement_rules, all_permitted}
use Rattle.entry_rules.specs.Checks.{broken_of}
use Rattle.declarations.specs.Named.{items_in, scope_in}
use Rattle.check_rules.proofs.InnerFalls.{first_falls, second_falls}
use Rattle.check_rules.proofs.InOrder.{kept_next, broken_here, kept_all}
use Rattle.check_rules.proofs.StatementBreaches.{found_first, found_chosen, found_front, found_back}
use Rattle.check_rules.proofs.checker.Checker.+statement.Goals as goal

pub statement_rules-returns-in_err-own_rules : goal.statement_rules-returns-in_err-own_rules
statement_rules-returns-in_err-own_rules t c =
    let p = err_from_is_err_and c.from_residual.result c.from_residual.ensures.1 in
    rw (p.1, p.2) (found_first (scope_in c.args.self.now.declarations.now) c.args.one.now
    (broken_of c.in_err-own_rules.field-0.0) c.in_err-own_rules.ensures)

pub statement_rules-returns-in_err-selections_rules : goal.statement_rules-returns-in_err-selections_rules
statement_rules-returns-in_err-selections_rules t c =
    let p = err_from_is_err_and c.from_residual-in_err-selections_rules.result
    c.from_residual-in_err-selections_rules.ensures.1 in
    rw (p.1, p.2) (found_chosen (scope_in c.args.self.now.declarations.now) c.args.one.now
    c.inner_statements.result c.inner_statements.ensures c.in_ok-own_rules.ensures
    (broken_of c.in_err-selections_rules.field-0.0) c.in_err-selections_rules.ensures)

pub statement_rules-returns-in_err-statements_rules : goal.statement_rules-returns-in_err-statements_rules
statement_rules-returns-in_err-statements_rules t c =
    let p = err_from_is_err_and c.from_residual-in_err-statements_rules.result
    c.from_residual-in_err-statements_rules.ensures.1 in
    rw (p.1, p.2) (found_front (scope_in c.args.self.now.declarations.now) c.args.one.now
    c.inner_statements.result c.inner_statements.ensures c.in_ok-own_rules.ensures
    (broken_of c.in_err-statements_rules.field-0.0) c.in_ok-selections_rules.ensures
    c.in_err-statements_rules.ensures)

pub statement_rules-returns : goal.statement_rules-returns
statement_rules-returns t c =
    found_back (scope_in c.args.self.now.declarations.now) c.args.one.now c.inner_statements.result
    c.inner_statements.ensures c.in_ok-own_rules.ensures c.statements_rules-2.result
    c.in_ok-selections_rules.ensures c.in_ok-statements_rules.ensures c.statements_rules-2.ensures

pub statements_rules-loop-one-preserved : goal.statements_rules-loop-one-preserved
statements_rules-loop-one-preserved t c =
    kept_next (statement_rules (scope_in c.args.self.now.declarations.now) all_permitted) c.args.all.now
    c.loop-one.one-index c.loop-one.invariant
    c.one-item.result c.loop-one-test.true c.one-item.is c.in_ok-statement_rules.ensures

pub statements_rules-returns : goal.statements_rules-returns
statements_rules-returns t c =
    kept_all (statement_rules (scope_in c.args.self.now.declarations.now) all_permitted) c.args.all.now
    c.loop-one.one-index c.loop-one.invariant
    c.loop-one-test.false

pub statements_rules-returns-in_err-statement_rules : goal.statements_rules-returns-in_err-statement_rules
statements_rules-returns-in_err-statement_rules t c =
    let p = err_from_is_err_and c.from_residual.result c.from_residual.ensures.1 in
    rw (p.1, p.2) (broken_here (statement_rules (scope_in c.args.self.now.declarations.now) all_permitted)
    c.args.all.now c.loop-one.one-index c.loop-one.invariant
    c.one-item.result (broken_of c.in_err-statement_rules.field-0.0) c.loop-one-test.true c.one-item.is
    c.in_err-statement_rules.ensures)

pub selections_rules-loop-one-preserved : goal.selections_rules-loop-one-preserved
selections_rules-loop-one-preserved t c =
    kept_next (selected_rules (items_in c.args.self.now.declarations.now)
    (statement_rules (scope_in c.args.self.now.declarations.now) all_permitted) c.args.subjects.now) c.args.all.now
    c.loop-one.one-index c.loop-one.invariant
    c.one-item.result c.loop-one-test.true c.one-item.is c.in_ok-selected_rules.ensures

pub selections_rules-returns : goal.selections_rules-returns
selections_rules-returns t c =
    kept_all (selected_rules (items_in c.args.self.now.declarations.now)
    (statement_rules (scope_in c.args.self.now.declarations.now) all_permitted) c.args.subjects.now) c.args.all.now
    c.loop-one.one-index c.loop-one.invariant
    c.loop-one-test.false

pub selections_rules-returns-in_err-selected_rules : goal.selections_rules-returns-in_err-selected_rules
selections_rules-returns-in_err-selected_rules t c =
    let p = err_from_is_err_and c.from_residual.result c.from_residual.ensures.1 in
    rw (p.1, p.2) (broken_here (selected_rules (items_in c.args.self.now.declarations.now)
    (statement_rules (scope_in c.args.self.now.declarations.now) all_permitted) c.args.subjects.now) c.args.all.now
    c.loop-one.one-index c.loop-one.invariant
    c.one-item.result (broken_of c.in_err-selected_rules.field-0.0) c.loop-one-test.true c.one-item.is
    c.in_err-selected_rules.ensures)

pub statement_rules-statements_rules-requires : goal.statement_rules-statements_rules-requires
statement_rules-statements_rules-requires t c =
    (omega (arith, c.decreases, first_falls c.args.one.now c.inner_statements.result c.inner_statements.ensures), tt)

pub statement_rules-statements_rules-requires-2 : goal.statement_rules-statements_rules-requires-2
statement_rules-statements_rules-requires-2 t c =
    (omega (arith, c.decreases, second_falls c.args.one.now c.inner_statements.result c.inner_statements.ensures), tt)
