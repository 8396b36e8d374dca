use Rattle.std.proofs.Common.{◌≡◌, List, ℕ, ◌<◌, ◌-◌, true, length, drop, take, map, sym, ap, subst, ◌∙◌}
use Rattle.std.proofs.Common.{arith, rules}
use Rattle.std.specs.Prelude.{All}
use Rattle.std.proofs.lemmas.List.{take_rest, get_or_read}
use Rattle.std.proofs.lemmas.Option.{MatchOption-at_some, MatchOption-at_none}
use Rattle.perform_graph.specs.declared.progress.Progress.TheVariants.{Unseen}
use Rattle.perform_graph.specs.declared.visit.Visit.{Visit}
use Rattle.perform_graph.specs.Order.{AreRanks, IsRange, PerformOneAnother, marks}
use Rattle.perform_graph.specs.Walk.{IsCycle, IsWalked, IsWalkState, is_seen, state, rank_of}
use Rattle.perform_graph.proofs.Ends.{are_heights, perform_one_another, ring_within}
use Rattle.perform_graph.proofs.Beginnings.{walk_new, length_new, seen_next, not_seen, ranges_as, grouped_as}
use Rattle.perform_graph.proofs.Beginnings.{begins_within}
use Rattle.perform_graph.proofs.order.order_of.Goals as goal
use Rattle.perform_graph.proofs.order.order_of.Goals.{In-Some}

-- the visits that are marked, from what the walk answers
the_ring : (c : In-Some) → IsCycle c.in_ok-performs.performs.performed.now (length c.loop-paragraph.walk.states.items)
    (drop c.in-Some.depth c.cycle_from.new.self.path.items)
the_ring c =
    MatchOption-at_some
    (IsWalked c.in_ok-performs.performs.performed.now c.loop-paragraph.paragraph c.loop-paragraph.walk.states.items
    c.cycle_from.new.self.states.items c.cycle_from.new.self.path.items c.cycle_from.new.self.placed)
    (λ from. IsCycle c.in_ok-performs.performs.performed.now (length c.loop-paragraph.walk.states.items)
    (drop from c.cycle_from.new.self.path.items)) c.in-Some.depth c.in-Some.is
    c.in_ok-depth.ensures

cut_off : (path whole : List Visit) (depth : ℕ) → whole ≡ path
    → drop depth path ≡ take (length whole - depth) (drop depth whole)
cut_off path whole depth e = ap (drop depth) (sym e) ∙ sym (take_rest whole depth)

pub marks_of-requires : goal.marks_of-requires
marks_of-requires c =
    let performed = c.in_ok-performs.performs.performed.now in
    let size = length c.loop-paragraph.walk.states.items in
    let whole = c.deref.result.now in
    let cut = cut_off c.cycle_from.new.self.path.items whole c.in-Some.depth c.deref.ensures.value in
    ring_within performed c.args.count size (take (length whole - c.in-Some.depth) (drop c.in-Some.depth whole))
    c.loop-paragraph.invariant.same
    (subst (IsCycle performed size) cut (the_ring (goal.at.marks_of-requires c).In-Some))

pub returns-in-Some : goal.returns-in-Some
returns-in-Some c =
    let performed = c.in_ok-performs.performs.performed.now in
    let size = length c.loop-paragraph.walk.states.items in
    let whole = c.deref.result.now in
    let cut = cut_off c.cycle_from.new.self.path.items whole c.in-Some.depth c.deref.ensures.value in
    subst (PerformOneAnother (marks c.in_ok-marks_of.field-0)) c.in_ok-performs.ensures.performed
    (perform_one_another performed size (take (length whole - c.in-Some.depth) (drop c.in-Some.depth whole))
    c.in_ok-marks_of.field-0
    (subst (IsCycle performed size) cut (the_ring (goal.at.returns-in-Some c).In-Some)) c.in_ok-marks_of.ensures)

pub returns : goal.returns
returns c =
    let performed = c.in_ok-performs.performs.performed.now in
    let states = c.loop-paragraph.walk.states.items in
    let same = c.in_ok-performs.ensures.performed in
    let end = c.loop-paragraph-test.false in
    let is = c.in_ok-ranks_of.ensures ∙ ap (map rank_of) c.deref-2.ensures.value in
    let ranges = subst (All (IsRange c.args.count)) (sym same) c.requires in
    let seen =
    λ (paragraph : ℕ) (below : paragraph < c.args.count). c.loop-paragraph.invariant.seen paragraph (omega arith) in
    subst (AreRanks c.args.count c.args.performed.now) (sym is)
    (subst (λ p. AreRanks c.args.count p (map rank_of states)) same
    (are_heights c.args.count performed states c.loop-paragraph.walk.placed c.loop-paragraph.invariant.stands
    c.loop-paragraph.invariant.same seen ranges))

pub loop-paragraph-init : goal.loop-paragraph-init
loop-paragraph-init c =
    let walk = c.in_ok-walk.walk in
    record {
      stands = walk_new c.in_ok-performs.performs.performed.now c.args.count walk.states.items walk.placed
          c.in_ok-walk.ensures.states c.in_ok-walk.ensures.placed;
      path = c.in_ok-walk.ensures.path;
      same = length_new c.args.count walk.states.items c.in_ok-walk.ensures.states;
      seen = λ paragraph lt. absurd (omega arith);
    }

pub loop-paragraph-preserved : goal.loop-paragraph-preserved
loop-paragraph-preserved c =
    let performed = c.in_ok-performs.performs.performed.now in
    let paragraph = c.loop-paragraph.paragraph in
    let states = c.loop-paragraph.walk.states.items in
    let new = c.cycle_from.new.self in
    let walked : IsWalked performed paragraph states new.states.items new.path.items new.placed =
    MatchOption-at_none (IsWalked performed paragraph states new.states.items new.path.items new.placed)
    (λ from. IsCycle performed (length states) (drop from new.path.items)) (search rules) c.in_ok-depth.ensures in
    record {
      stands = subst (λ p. IsWalkState performed new.states.items p new.placed) walked.done walked.stands;
      path = walked.done;
      same = walked.same ∙ c.loop-paragraph.invariant.same;
      seen = seen_next paragraph states new.states.items c.loop-paragraph.invariant.seen walked.seen walked.root_seen;
    }

pub loop-paragraph-preserved-then-is_seen : goal.loop-paragraph-preserved-then-is_seen
loop-paragraph-preserved-then-is_seen c =
    let states = c.loop-paragraph.walk.states.items in
    let one = c.index.result.now in
    let within : c.loop-paragraph.paragraph < length states = omega (arith, c.loop-paragraph.invariant.same) in
    let seen : is_seen (state states c.loop-paragraph.paragraph) ≡ true =
    ap is_seen (sym (get_or_read states c.loop-paragraph.paragraph one within c.index.ensures Unseen))
    ∙ sym c.is_seen.ensures ∙ c.if-is_seen.true in
    record {
      stands = c.loop-paragraph.invariant.stands;
      path = c.loop-paragraph.invariant.path;
      same = c.loop-paragraph.invariant.same;
      seen = seen_next c.loop-paragraph.paragraph states states c.loop-paragraph.invariant.seen (λ p h. h) seen;
    }

pub loop-paragraph-smaller : goal.loop-paragraph-smaller
loop-paragraph-smaller c = omega arith

pub loop-paragraph-smaller-then-is_seen : goal.loop-paragraph-smaller-then-is_seen
loop-paragraph-smaller-then-is_seen c = omega arith

pub cycle_from-requires-clause-ranges : goal.cycle_from-requires-clause-ranges
cycle_from-requires-clause-ranges c =
    ranges_as c.args.count (length c.loop-paragraph.walk.states.items) c.in_ok-performs.performs.performed.now
    c.args.performed.now c.loop-paragraph.invariant.same c.in_ok-performs.ensures.performed c.requires

pub cycle_from-requires-clause-grouped : goal.cycle_from-requires-clause-grouped
cycle_from-requires-clause-grouped c =
    let performs = c.in_ok-performs.performs in
    grouped_as c.args.count (length c.loop-paragraph.walk.states.items) performs.performed.now c.args.performed.now
    performs.last.items performs.before.items c.loop-paragraph.invariant.same c.in_ok-performs.ensures.performed
    c.in_ok-performs.ensures.grouped

pub cycle_from-requires-clause-stands : goal.cycle_from-requires-clause-stands
cycle_from-requires-clause-stands c = c.loop-paragraph.invariant.stands

pub cycle_from-requires-clause-within : goal.cycle_from-requires-clause-within
cycle_from-requires-clause-within c = omega (arith, c.loop-paragraph.invariant.same)

pub cycle_from-requires-clause-unseen : goal.cycle_from-requires-clause-unseen
cycle_from-requires-clause-unseen c =
    let states = c.loop-paragraph.walk.states.items in
    let one = c.index.result.now in
    let within : c.loop-paragraph.paragraph < length states = omega (arith, c.loop-paragraph.invariant.same) in
    sym (get_or_read states c.loop-paragraph.paragraph one within c.index.ensures Unseen)
    ∙ not_seen one (sym c.is_seen.ensures ∙ c.if-is_seen.false)

pub slice_bounds-marks_of-start : goal.slice_bounds-marks_of-start
slice_bounds-marks_of-start c =
    begins_within c.cycle_from.new.self.path.items c.deref.result.now c.in-Some.depth c.deref.ensures.value
    (the_ring (goal.at.slice_bounds-marks_of-start c).In-Some).some

pub slice_bounds-marks_of-end : goal.slice_bounds-marks_of-end
slice_bounds-marks_of-end c = omega arith

pub slice_bounds-marks_of-count : goal.slice_bounds-marks_of-count
slice_bounds-marks_of-count c =
    let within = begins_within c.cycle_from.new.self.path.items c.deref.result.now c.in-Some.depth
    c.deref.ensures.value (the_ring (goal.at.slice_bounds-marks_of-count c).In-Some).some in
    omega arith
