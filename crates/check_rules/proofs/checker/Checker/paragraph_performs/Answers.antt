use Rattle.std.proofs.Common.{List, subst}
use Rattle.source_tree.specs.declared.statement.Statement.{Statement}
use Rattle.source_tree.specs.Recursion.{each_performs, statement_performs, sentence_performs}
use Rattle.declarations.specs.Named.{procedures_in}
use Rattle.check_rules.specs.Performs.{AppendsPerforms, in_paragraph}
use Rattle.check_rules.proofs.Adding.{adds_next, adds_all}
use Rattle.check_rules.proofs.checker.Checker.paragraph_performs.Goals as goal

pub loop-one-preserved : goal.loop-one-preserved
loop-one-preserved c =
    let procedures = procedures_in c.args.self.now.declarations.now in
    adds_next (sentence_performs procedures) c.args.number c.args.sentences.now c.loop-one.one-index c.one-item.result
    c.loop-one-test.true c.one-item.is
    c.loop-one.invariant
    (subst (λ (l : List Statement). AppendsPerforms c.loop-one.all c.statements_performs.new.all
    (in_paragraph c.args.number (each_performs (statement_performs procedures) l)))
    c.as_slice.ensures c.in_ok-statements_performs.ensures)

pub returns : goal.returns
returns c =
    adds_all (sentence_performs (procedures_in c.args.self.now.declarations.now)) c.args.number c.args.sentences.now
    c.loop-one.one-index c.loop-one-test.false c.loop-one.invariant
