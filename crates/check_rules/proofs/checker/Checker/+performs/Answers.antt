use Rattle.std.proofs.Common.{List, subst}
use Rattle.source_tree.specs.declared.statement.Statement.{Statement}
use Rattle.source_tree.specs.Recursion.{each_performs, selected_performs, statement_performs}
use Rattle.declarations.specs.Named.{procedures_in}
use Rattle.check_rules.specs.Performs.{AppendsPerforms, in_paragraph}
use Rattle.check_rules.proofs.Adding.{adds_next, adds_all, adds_lists}
use Rattle.check_rules.proofs.checker.Checker.+performs.Goals as goal

pub statement_performs-returns : goal.statement_performs-returns
statement_performs-returns t c =
    adds_lists c.args.all.now c.own_performs.new.all c.selections_performs.new.all c.statements_performs.new.all
    c.statements_performs-2.new.all (procedures_in c.args.self.now.declarations.now) c.args.number c.args.one.now
    c.inner_statements.result c.statements_performs-2.result c.inner_statements.ensures c.in_ok-own_performs.ensures
    c.in_ok-selections_performs.ensures c.in_ok-statements_performs.ensures c.statements_performs-2.ensures

pub statements_performs-loop-one-preserved : goal.statements_performs-loop-one-preserved
statements_performs-loop-one-preserved t c =
    adds_next (statement_performs (procedures_in c.args.self.now.declarations.now)) c.args.number c.args.statements.now
    c.loop-one.one-index c.one-item.result c.loop-one-test.true c.one-item.is
    c.loop-one.invariant c.in_ok-statement_performs.ensures

pub selections_performs-loop-one-preserved : goal.selections_performs-loop-one-preserved
selections_performs-loop-one-preserved t c =
    let performs = statement_performs (procedures_in c.args.self.now.declarations.now) in
    adds_next (selected_performs performs) c.args.number c.args.selections.now c.loop-one.one-index c.one-item.result
    c.loop-one-test.true c.one-item.is
    c.loop-one.invariant
    (subst (λ (l : List Statement). AppendsPerforms c.loop-one.all c.statements_performs.new.all
    (in_paragraph c.args.number (each_performs performs l))) c.as_slice.ensures
    c.in_ok-statements_performs.ensures)

pub statements_performs-returns : goal.statements_performs-returns
statements_performs-returns t c =
    adds_all (statement_performs (procedures_in c.args.self.now.declarations.now)) c.args.number c.args.statements.now
    c.loop-one.one-index c.loop-one-test.false c.loop-one.invariant

pub selections_performs-returns : goal.selections_performs-returns
selections_performs-returns t c =
    adds_all (selected_performs (statement_performs (procedures_in c.args.self.now.declarations.now))) c.args.number
    c.args.selections.now c.loop-one.one-index c.loop-one-test.false c.loop-one.invariant
