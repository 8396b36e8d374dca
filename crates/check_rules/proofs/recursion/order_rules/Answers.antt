use Rattle.std.proofs.Common.{◌<◌, List, length, refl, sym, subst, ◌∙◌, arith}
use Rattle.std.specs.Prelude.{All}
use Rattle.std.proofs.lemmas.Option.{slice_get_within}
use Rattle.perform_graph.specs.declared.performed.PerformedRange.{PerformedRange}
use Rattle.perform_graph.specs.Order.{IsRange, marks}
use Rattle.check_rules.specs.Performs.{HasNext}
use Rattle.check_rules.proofs.PerformedRanges.{ranges_end}
use Rattle.check_rules.proofs.Back.{some_leads, ring_at, refuses_back}
use Rattle.check_rules.proofs.recursion.order_rules.Goals as goal

pub order_of-requires : goal.order_of-requires
order_of-requires c = subst (All (IsRange c.args.count)) (sym c.deref.ensures.value) c.requires.ranges

pub first_back-requires : goal.first_back-requires
first_back-requires c =
    subst (All HasNext) (sym c.deref-2.ensures.value)
    (ranges_end c.args.count c.args.all.now.ranges.items (omega arith) c.requires.ranges)

pub unreachable-requires : goal.unreachable-requires
unreachable-requires c =
    some_leads (marks c.as_slice.result.now) c.deref-2.result.now c.in-None.ensures
    (ring_at c.args.count c.deref.result.now c.deref-2.result.now c.in_ok-order_of.field-0 c.in-Recursive.marked
    c.as_slice.result.now c.in_ok-order_of.ensures c.in-Recursive.is c.as_slice.ensures
    (c.deref.ensures.value ∙ sym c.deref-2.ensures.value))

pub index-requires : goal.index-requires
index-requires c =
    let found = c.in-Some.ensures in
    let there = slice_get_within c.deref-2.result.now c.in-Some.number found.one found.stands in
    let among = subst (λ (l : List PerformedRange). c.in-Some.number < length l) c.deref-2.ensures.value there in
    let long = c.requires.places in
    let same = c.args.all.now.places.ok.0 in
    omega (arith, among, long, same)

pub returns-clause-back : goal.returns-clause-back
returns-clause-back c = (
  refl,
  refuses_back c.args.all.now c.args.count c.in-Some.number c.deref.result.now c.deref-2.result.now
      c.in_ok-order_of.field-0 c.in-Recursive.marked c.as_slice.result.now c.index.result.now
      c.in_ok-order_of.ensures c.in-Recursive.is c.as_slice.ensures c.deref.ensures.value c.deref-2.ensures.value
      c.in-Some.ensures c.index.ensures,
)
