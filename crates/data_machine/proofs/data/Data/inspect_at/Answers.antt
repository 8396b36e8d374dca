use Rattle.std.proofs.Common.{◌≡◌, ◌+◌, length, drop, ◌++◌, ◌∙◌, ap, arith}
use Rattle.std.proofs.lemmas.Grind.{common_steps}
use Rattle.std.specs.Prelude.{reverse}
use Rattle.source_tree.specs.Computed.{ArithmeticValue}
use Rattle.data_instructions.specs.declared.place.Place.{Place}
use Rattle.data_machine.specs.Held.{StackView}
use Rattle.data_machine.specs.Filled.{BufferView}
use Rattle.data_machine.specs.Data.{scratch_of}
use Rattle.data_machine.specs.Inspecting.{StandEach}
use Rattle.data_machine.proofs.Inspects.{enough_places, counters_stand}
use Rattle.data_machine.proofs.InspectEnds.{inspect_ended}
use Rattle.data_machine.proofs.data.Data.inspect_at.Goals as goal
use Rattle.data_machine.proofs.data.Data.inspect_at.Goals.{After-newest-places, After-leave-2}

-- the places of the counters, as they were read
counters_many : (c : After-newest-places) → length c.newest-places.result.now ≡ length c.args.one.now.counters
counters_many c = c.newest-places.ensures.length ∙ c.len.ensures

counters_first : (c : After-newest-places) → c.args.self.now.places.newest_first
    ≡ reverse c.newest-places.result.now
    ++ drop (length c.args.one.now.counters) c.args.self.now.places.newest_first
counters_first c = c.newest-places.ensures.value
    ∙ ap (λ n. reverse c.newest-places.result.now ++ drop n c.args.self.now.places.newest_first) c.len.ensures

counters_found : (c : After-newest-places)
    → StandEach c.args.tables.now c.args.self.now.areas c.newest-places.result.now
counters_found c = counters_stand c.args.tables.now c.args.self.now.areas c.newest-places.result.now
    c.args.self.now.places.newest_first (length c.args.one.now.counters) (counters_many c) (counters_first c)
    c.requires.places

places_left : (c : After-leave-2)
    → c.leave-2.new.self.newest_first ≡ drop (length c.args.one.now.counters + 1) c.args.self.now.places.newest_first
places_left c = ap (λ (h : StackView Place). h.newest_first) c.leave-2.ensures
    ∙ ap (λ n. drop (n + 1) c.args.self.now.places.newest_first) c.len-2.ensures

pub newest-places-requires : goal.newest-places-requires
newest-places-requires c =
    let many = enough_places c.args.tables.now c.args.self.now.areas (length c.args.one.now.counters)
    c.args.self.now.places.newest_first c.requires.places in
    omega (arith, many, c.len.ensures)

pub leave-requires-2 : goal.leave-requires-2
leave-requires-2 c =
    let many = enough_places c.args.tables.now c.args.self.now.areas (length c.args.one.now.counters)
    c.args.self.now.places.newest_first c.requires.places in
    omega (arith, many, c.len-2.ensures)

pub inspect-requires-clause-text : goal.inspect-requires-clause-text
inspect-requires-clause-text c = omega (arith, c.requires.text, c.bytes-bytes.ensures.of.size)

pub add_and_store-done-requires-clause-stand : goal.add_and_store-done-requires-clause-stand
add_and_store-done-requires-clause-stand c =
    counters_found (goal.at.add_and_store-done-requires-clause-stand c).After-newest-places

pub returns-clause-does : goal.returns-clause-does
returns-clause-does c =
    let p = (goal.at.returns-clause-does c).After-newest-places in
    inspect_ended c.args.tables.now c.args.one.now c.args.numbers c.newest-found.result.now c.newest-places.result.now
    c.args.subject c.args.whole.now c.args.to.now (scratch_of c.args.self.now) _ _
    c.requires.seen
    (c.bytes.ensures ∙ ap (λ (f : BufferView). f.bytes) c.fit.ensures) c.bytes-bytes.ensures.value
    c.as_slice-counts.result.now _ c.bytes-text.result.now _ _ _ _ c.add_and_store-done.result
    c.add_and_store-done.new.areas c.newest-found.ensures.length c.requires.numbers c.newest-found.ensures.value
    (counters_many p) (counters_first p) (counters_found p)
    c.requires.subject
    c.requires.whole c.as_slice-counts.ensures.value c.inspect.ensures.counts c.requires.form.counters
    c.bytes-text.ensures c.inspect.ensures.text c.add_and_store-done.ensures.adds
    (ap (λ (f : BufferView). f.bytes) c.clear.ensures) (places_left (goal.at.returns-clause-does c).After-leave-2)
    (ap (λ (h : StackView ArithmeticValue). h.newest_first) c.leave.ensures)

pub returns-clause-keeps : goal.returns-clause-keeps
returns-clause-keeps c = grind (arith, common_steps)

pub inspect-requires-clause-size : goal.inspect-requires-clause-size
inspect-requires-clause-size c = grind (arith, common_steps)
