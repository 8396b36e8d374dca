use Rattle.std.proofs.Common.{get_or, refl, arith}
use Rattle.perform_graph.proofs.Groups.{nothing, at_within, at_before, at_range, has_next, gone_back, goes_down}
use Rattle.perform_graph.proofs.performs.Performs.moved.Goals as goal

pub bounds-self-at : goal.bounds-self-at
bounds-self-at c =
    let one = get_or c.args.self.now.performed.now c.in-Some.at nothing in
    at_within c.args.self.now.performed.now c.args.states.now c.args.self.now.last.items c.args.self.now.before.items
    c.performs.visit c.in-Some.at one
    c.requires.ranges c.requires.grouped c.performs.invariant.over c.in-Some.is refl

pub offset_bounds-self-at : goal.offset_bounds-self-at
offset_bounds-self-at c =
    let one = get_or c.args.self.now.performed.now c.in-Some.at nothing in
    let below =
    at_within c.args.self.now.performed.now c.args.states.now c.args.self.now.last.items c.args.self.now.before.items
    c.performs.visit c.in-Some.at one
    c.requires.ranges c.requires.grouped c.performs.invariant.over c.in-Some.is refl in
    omega (arith, below)

pub first_unplaced-requires : goal.first_unplaced-requires
first_unplaced-requires c =
    let one = get_or c.args.self.now.performed.now c.in-Some.at nothing in
    (at_range c.args.self.now.performed.now c.args.states.now c.args.self.now.last.items c.args.self.now.before.items
    c.performs.visit c.in-Some.at one
    c.requires.ranges c.requires.grouped c.performs.invariant.over c.in-Some.is refl).last

pub returns-in-Some-first_unplaced : goal.returns-in-Some-first_unplaced
returns-in-Some-first_unplaced c =
    let one = get_or c.args.self.now.performed.now c.in-Some.at nothing in
    let next =
    has_next c.args.self.now.performed.now c.args.states.now c.args.self.now.last.items c.args.self.now.before.items
    c.performs.visit c.in-Some.at one
    c.requires.ranges c.requires.grouped c.performs.invariant.over c.in-Some.is refl c.max.result
    c.in-Some-first_unplaced.next c.max.ensures c.in-Some-first_unplaced.ensures in
    record {
      same = c.performs.invariant.same;
      over = next.over;
      leads = next.leads;
      within = next.within;
      unplaced = next.unplaced;
    }

pub index-requires : goal.index-requires
index-requires c =
    let one = get_or c.args.self.now.performed.now c.in-Some.at nothing in
    let below =
    at_before c.args.self.now.performed.now c.args.states.now c.args.self.now.last.items c.args.self.now.before.items
    c.performs.visit c.in-Some.at one
    c.requires.ranges c.requires.grouped c.performs.invariant.over c.in-Some.is refl in
    omega (arith, below, c.args.self.now.before.ok.0)

pub performs-smaller : goal.performs-smaller
performs-smaller c =
    let one = get_or c.args.self.now.performed.now c.in-Some.at nothing in
    goes_down c.args.self.now.performed.now c.args.states.now c.args.self.now.last.items c.args.self.now.before.items
    c.performs.visit c.in-Some.at one
    c.requires.ranges c.requires.grouped c.performs.invariant.over c.in-Some.is refl c.max.result c.index.result.now
    c.max.ensures c.index.ensures c.in_default-first_unplaced.ensures

pub performs-preserved : goal.performs-preserved
performs-preserved c =
    let one = get_or c.args.self.now.performed.now c.in-Some.at nothing in
    record {
      same = c.performs.invariant.same;
      over =
          gone_back c.args.self.now.performed.now c.args.states.now c.args.self.now.last.items
          c.args.self.now.before.items c.performs.visit c.in-Some.at one
          c.requires.ranges c.requires.grouped c.performs.invariant.over c.in-Some.is refl c.max.result
          c.index.result.now c.max.ensures c.index.ensures c.in_default-first_unplaced.ensures;
    }
