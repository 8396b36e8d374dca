use Rattle.std.proofs.Common.{◌≡◌, length, ◌∙◌, sym, ap, subst, refl, arith, Some}
use Rattle.std.specs.Prelude.{slice_get}
use Rattle.data_instructions.specs.declared.tables.DataItem.{DataItem}
use Rattle.data_instructions.specs.Tables.{shortened_item, IsEditing}
use Rattle.data_machine.specs.Finds.{IsAtOffset, IsItemAt}
use Rattle.data_machine.proofs.Inspects.{index_within, stands_one, whole_one, enough_places, subject_stands}
use Rattle.data_machine.proofs.data.Data.inspect_by.Goals as goal
use Rattle.data_machine.proofs.data.Data.inspect_by.Goals.{After-below-subject, After-seen}

-- the subject's place is below those of the counters
subject_at : (c : After-below-subject)
    → slice_get c.args.self.now.places.newest_first (length c.args.one.now.counters) ≡ Some c.below-subject.result
subject_at c = ap (slice_get c.args.self.now.places.newest_first) (sym c.len.ensures) ∙ c.below-subject.ensures

subject_is : (c : After-below-subject) → IsItemAt c.args.tables.now c.args.self.now.areas c.below-subject.result
subject_is c = subject_stands c.args.tables.now c.args.self.now.areas (length c.args.one.now.counters)
    c.args.self.now.places.newest_first c.below-subject.result c.requires.places (subject_at c)

-- the item as the place shows it
seen_is : (c : After-seen) → c.seen.result.now ≡ shortened_item c.item_of-to.result.now c.below-subject.result.length
seen_is c =
    c.seen.ensures
    ∙ ap (λ (d : DataItem). shortened_item c.item_of-to.result.now d.item.length) c.part_of-part.ensures

pub below-subject-requires : goal.below-subject-requires
below-subject-requires c =
    let many = enough_places c.args.tables.now c.args.self.now.areas (length c.args.one.now.counters)
    c.args.self.now.places.newest_first c.requires.places in
    omega (arith, many, c.len.ensures)

pub item_of-to-requires : goal.item_of-to-requires
item_of-to-requires c = index_within c.args.tables.now c.args.self.now.areas c.below-subject.result
    c.args.tables.now.items refl (subject_is (goal.at.item_of-to-requires c).After-below-subject)

pub seen-requires-clause-whole : goal.seen-requires-clause-whole
seen-requires-clause-whole c = whole_one c.args.tables.now c.args.self.now.areas c.below-subject.result
    c.args.tables.now.items c.item_of-to.result.now refl c.item_of-to.ensures
    (subject_is (goal.at.seen-requires-clause-whole c).After-below-subject)

pub seen-requires-clause-shortened : goal.seen-requires-clause-shortened
seen-requires-clause-shortened c =
    let to = c.item_of-to.result.now in
    subst (λ n. IsEditing (shortened_item to n).item to.editing)
    (sym (ap (λ (d : DataItem). d.item.length) c.part_of-part.ensures))
    (stands_one c.args.tables.now c.args.self.now.areas c.below-subject.result c.args.tables.now.items to
    refl
    c.item_of-to.ensures (subject_is (goal.at.seen-requires-clause-shortened c).After-below-subject)).editing

pub inspect_at-requires-clause-subject : goal.inspect_at-requires-clause-subject
inspect_at-requires-clause-subject c = subject_at (goal.at.inspect_at-requires-clause-subject c).After-below-subject

pub inspect_at-requires-clause-seen : goal.inspect_at-requires-clause-seen
inspect_at-requires-clause-seen c = seen_is (goal.at.inspect_at-requires-clause-seen c).After-seen

pub inspect_at-requires-clause-item : goal.inspect_at-requires-clause-item
inspect_at-requires-clause-item c =
    subst (λ (o : DataItem). IsAtOffset o c.args.self.now.areas c.below-subject.result.offset)
    (sym (seen_is (goal.at.inspect_at-requires-clause-item c).After-seen))
    (stands_one c.args.tables.now c.args.self.now.areas c.below-subject.result c.args.tables.now.items
    c.item_of-to.result.now refl c.item_of-to.ensures
    (subject_is (goal.at.inspect_at-requires-clause-item c).After-below-subject))

pub inspect_at-requires-clause-text : goal.inspect_at-requires-clause-text
inspect_at-requires-clause-text c =
    let stands = subject_is (goal.at.inspect_at-requires-clause-text c).After-below-subject in
    let room = c.requires.text c.below-subject.result.item.number stands.one stands.here in
    let size : c.seen.result.now.item.length ≡ c.below-subject.result.length =
    ap (λ (d : DataItem). d.item.length) (seen_is (goal.at.inspect_at-requires-clause-text c).After-seen) in
    omega (arith, room, stands.short, size)
