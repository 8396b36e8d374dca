use Rattle.std.proofs.lemmas.Grind.{common_steps}
use Rattle.std.proofs.Common.{arith}
use Rattle.perform_graph.proofs.Going.{walk_begun}
use Rattle.perform_graph.proofs.walk.Walk.cycle_from.Goals as goal

pub steps-init : goal.steps-init
steps-init c =
    let begun = walk_begun c.args.performs.now.performed.now c.args.self.now.states.items c.enter.new.self.states.items
    c.args.self.now.path.items c.enter.new.self.path.items c.args.self.now.placed c.enter.new.self.placed c.visit.result
    c.args.performs.now.last.items c.args.performs.now.before.items c.args.root c.requires.grouped c.requires.path
    c.requires.stands c.visit.ensures.paragraph c.requires.within c.requires.unseen c.visit.ensures.at
    c.visit.ensures.next c.in_ok-enter.ensures.states c.in_ok-enter.ensures.path c.enter.ensures.placed in
    record { stands = begun.0.stands; same = begun.0.on.same; root_seen = begun.1; seen = begun.0.on.seen }

pub steps-preserved : goal.steps-preserved
steps-preserved c = grind (arith, common_steps)

pub returns-in-Some-2 : goal.returns-in-Some-2
returns-in-Some-2 c = grind (arith, common_steps)

pub go_on-requires-clause-grouped : goal.go_on-requires-clause-grouped
go_on-requires-clause-grouped c = grind (arith, common_steps)
