use Rattle.declarations.specs.Named.{procedures_in}
use Rattle.check_rules.proofs.Adding.{section_next, walked_none, walked_all}
use Rattle.check_rules.proofs.checker.Checker.sections_performs.Goals as goal

pub loop-one-preserved : goal.loop-one-preserved
loop-one-preserved c =
    section_next (procedures_in c.args.self.now.declarations.now) c.args.sections.now c.loop-one.one-index
    c.loop-one.number c.in_ok-number.number c.one-item.result c.loop-one-test.true c.one-item.is
    c.loop-one.invariant c.in_ok-number.ensures.next c.in_ok-number.ensures.added

pub loop-one-init : goal.loop-one-init
loop-one-init c = walked_none (procedures_in c.args.self.now.declarations.now) c.args.all.now

pub returns-clause-count : goal.returns-clause-count
returns-clause-count c =
    (walked_all (procedures_in c.args.self.now.declarations.now) c.args.sections.now c.loop-one.one-index
    c.loop-one.number
    c.loop-one-test.false c.loop-one.invariant).count

pub returns-clause-added : goal.returns-clause-added
returns-clause-added c =
    (walked_all (procedures_in c.args.self.now.declarations.now) c.args.sections.now c.loop-one.one-index
    c.loop-one.number
    c.loop-one-test.false c.loop-one.invariant).added
