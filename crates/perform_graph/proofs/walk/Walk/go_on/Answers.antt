use Rattle.std.proofs.Common.{length, drop, sym, subst, ◌∙◌}
use Rattle.std.proofs.lemmas.List.{get_or_read}
use Rattle.perform_graph.specs.declared.progress.Progress.TheVariants.{Unseen}
use Rattle.perform_graph.specs.Walk.{AllPlaced, HasGoneOver, HasNext, IsCycle}
use Rattle.perform_graph.proofs.Lists.{pushed_here}
use Rattle.perform_graph.proofs.Steps.{last_within, moved_stands, is_ring}
use Rattle.perform_graph.proofs.Going.{last_room, placed_on, walk_further}
use Rattle.perform_graph.proofs.walk.Walk.go_on.Goals as goal

pub moved-requires-clause-over : goal.moved-requires-clause-over
moved-requires-clause-over c =
    let path = c.args.self.now.path.items in
    subst (λ s. HasGoneOver c.args.performs.now.performed.now s c.args.visit) (sym c.deref.ensures.value)
    (c.requires.stands.on_path (length path) c.args.visit (pushed_here path c.args.visit)).over

pub place-requires-clause-within : goal.place-requires-clause-within
place-requires-clause-within c = last_within c.args.performs.now.performed.now c.args.self.now.states.items
    c.args.self.now.path.items c.args.self.now.placed c.args.visit c.requires.stands

pub place-requires-clause-room : goal.place-requires-clause-room
place-requires-clause-room c = last_room c.args.performs.now.performed.now c.args.self.now.states.items
    c.args.self.now.path.items c.args.self.now.placed c.args.visit c.requires.stands

pub returns-in_default : goal.returns-in_default
returns-in_default c =
    let all = subst (λ s. AllPlaced c.args.performs.now.performed.now s c.args.visit.paragraph) c.deref.ensures.value
    c.in_default.ensures in
    placed_on c.args.performs.now.performed.now c.args.self.now.states.items c.place.new.self.states.items
    c.args.self.now.path.items c.place.new.self.path.items
    c.args.self.now.placed c.place.new.self.placed c.args.visit c.requires.stands all c.place.ensures.states
    c.place.ensures.path c.place.ensures.placed

pub returns-in-Open : goal.returns-in-Open
returns-in-Open c =
    let performed = c.args.performs.now.performed.now in
    let states = c.args.self.now.states.items in
    let path = c.args.self.now.path.items in
    let next = c.in-Some.visit in
    let has = subst (λ s. HasNext performed s c.args.visit.paragraph next) c.deref.ensures.value c.in-Some.ensures in
    let moved =
    moved_stands performed states path c.args.self.now.placed c.args.visit next c.requires.stands has.same has.over in
    let back = sym (get_or_read states next.next c.index.result.now has.within c.index.ensures Unseen) ∙ c.in-Open.is in
    subst (λ p. IsCycle performed (length states) (drop c.in-Open.depth p)) (sym c.in_ok-push.ensures.items)
    (is_ring performed states path c.args.self.now.placed next c.in-Open.depth moved has.leads back)

pub returns : goal.returns
returns c =
    let performed = c.args.performs.now.performed.now in
    let states = c.args.self.now.states.items in
    let next = c.in-Some.visit in
    let has = subst (λ s. HasNext performed s c.args.visit.paragraph next) c.deref.ensures.value c.in-Some.ensures in
    let read = get_or_read states next.next c.index.result.now has.within c.index.ensures Unseen in
    walk_further performed states c.enter.new.self.states.items c.args.self.now.path.items c.push.new.self.items
    c.enter.new.self.path.items c.args.self.now.placed c.enter.new.self.placed c.args.visit next c.visit.result
    c.args.performs.now.last.items c.args.performs.now.before.items c.requires.grouped c.requires.stands has
    (λ depth e. c.in_default-index.not-Open depth (read ∙ e)) c.visit.ensures.paragraph c.visit.ensures.at
    c.visit.ensures.next c.in_ok-push.ensures.items c.in_ok-enter.ensures.states c.in_ok-enter.ensures.path
    c.enter.ensures.placed
