use Rattle.std.proofs.Common.{◌≡◌, None, rules}
use Rattle.std.specs.Prelude.{replicate}
use Rattle.perform_graph.proofs.Beginnings.{grouped_none, grouped_whole}
use Rattle.perform_graph.proofs.Groups.{grouped_next}
use Rattle.perform_graph.proofs.performs.Performs.new.Goals as goal

pub loop-number-preserved : goal.loop-number-preserved
loop-number-preserved c = grouped_next c.args.count c.args.performed.now c.loop-number.number c.loop-number.last.items
    c.loop-number.before.items _ c.index.result.now c.loop-number-test.true c.requires c.loop-number.invariant
    c.index.ensures c.in_ok-push.ensures.items

pub loop-number-init : goal.loop-number-init
loop-number-init c =
    let none : c.in_ok-last.last.items ≡ replicate c.args.count None = search rules in
    grouped_none c.args.count c.args.performed.now c.in_ok-last.last.items c.new-before.result.items none
    c.new-before.ensures.items

pub returns-clause-grouped : goal.returns-clause-grouped
returns-clause-grouped c =
    grouped_whole c.args.count c.loop-number.number c.args.performed.now c.loop-number.last.items
    c.loop-number.before.items c.loop-number-test.false c.loop-number.auto.number-end c.loop-number.invariant
