use Rattle.std.proofs.Common.{◌≡◌, ◌∙◌, List, length, sym, ap, inl, Ok, Err}
use Rattle.std.specs.Prelude.{slice_set}
use Rattle.records.specs.Files.{Files}
use Rattle.records.specs.Steps.{Step}
use Rattle.records.specs.FileStep.{makes_file, has_changed}
use Rattle.records.specs.Connector.{Entry, Connector}
use Rattle.source_tree.specs.ProgramFiles.{FilePlaces, digits_at}
use Rattle.source_tree.specs.FileStatements.{step_by, area_of}
use Rattle.file_image.specs.Files.{places_of, place_at}
use Rattle.machine.proofs.Counters.{now_has}
use Rattle.machine.proofs.Table.{StaysOrFits}
use Rattle.machine.proofs.Stored.{status_as_long, number_as_long, taken_back, back_lengths, step_of}
use Rattle.machine.proofs.Stored.{item_number_fits, step_done, never_err, never_lacks}
use Rattle.machine.proofs.FileCalls.{change_known}
use Rattle.machine.proofs.file_statement.perform.Given.{Over}
use Rattle.machine.proofs.file_statement.perform.Goals as goal
use Rattle.machine.proofs.file_statement.perform.Goals.{After-exchange-2, After-perform-performed}

pub returns-in-Err-clause-lengths : goal.returns-in-Err-clause-lengths
returns-in-Err-clause-lengths g c =
    let long = c.perform-performed.auto.bytes ∙ ap length c.as_mut_slice.ensures.value in
    let takes : c.exchange-2.new.self
    ≡ slice_set c.exchange.new.self c.args.one.now.area c.perform-performed.new.bytes =
    c.exchange-2.ensures.area ∙ ap (slice_set c.exchange.new.self c.args.one.now.area)
    (now_has c.exchange.new.bytes c.perform-performed.new.bytes long) in
    back_lengths c.args.areas.now c.exchange.new.self c.exchange-2.new.self c.args.one.now.area c.args.bytes.now.items
    c.as_mut_slice.result.now
    c.perform-performed.new.bytes c.exchange.ensures.area takes
    (c.as_mut_slice.ensures.value ∙ c.exchange.ensures.bytes) c.perform-performed.auto.bytes

pub returns-in-Err-clause-turns : goal.returns-in-Err-clause-turns
returns-in-Err-clause-turns g c = λ files stands.
    change_known g.F.Keeps g.D.Device (Err c.in-Err.fault) (makes_file c.args.operation.verb) files c.args.verbs.now
    c.args.device.now c.perform-performed.new.self c.perform-performed.new.device
    (ap (λ (e : Entry). e.name) c.requires.entry)
    (ap (λ (s : Step). s.files) (step_of (g.F.FileVerbs.entries c.args.verbs.now)
    (places_of c.args.tables.now c.args.operation.file.number c.args.one.now) c.args.operation.verb files
    (g.F.FileVerbs.connectors c.args.verbs.now) c.args.areas.now c.as_mut_slice.result.now c.relative_number-old.result
    (c.as_mut_slice.ensures.value ∙ c.exchange.ensures.bytes) c.relative_number-old.ensures))
    (c.in-Err.ensures.turns files stands)

pub leave-requires-clause-relative_key : goal.leave-requires-clause-relative_key
leave-requires-clause-relative_key g c =
    let long = c.perform-performed.auto.bytes ∙ ap length c.as_mut_slice.ensures.value in
    let takes : c.exchange-2.new.self
    ≡ slice_set c.exchange.new.self c.args.one.now.area c.perform-performed.new.bytes =
    c.exchange-2.ensures.area ∙ ap (slice_set c.exchange.new.self c.args.one.now.area)
    (now_has c.exchange.new.bytes c.perform-performed.new.bytes long) in
    number_as_long c.args.tables.now c.args.areas.now c.exchange-2.new.self c.args.one.now.relative_key
    (back_lengths c.args.areas.now c.exchange.new.self c.exchange-2.new.self c.args.one.now.area c.args.bytes.now.items
    c.as_mut_slice.result.now
    c.perform-performed.new.bytes c.exchange.ensures.area takes
    (c.as_mut_slice.ensures.value ∙ c.exchange.ensures.bytes) c.perform-performed.auto.bytes)
    c.requires.places.relative_key

pub leave-requires-clause-status : goal.leave-requires-clause-status
leave-requires-clause-status g c =
    let long = c.perform-performed.auto.bytes ∙ ap length c.as_mut_slice.ensures.value in
    let takes : c.exchange-2.new.self
    ≡ slice_set c.exchange.new.self c.args.one.now.area c.perform-performed.new.bytes =
    c.exchange-2.ensures.area ∙ ap (slice_set c.exchange.new.self c.args.one.now.area)
    (now_has c.exchange.new.bytes c.perform-performed.new.bytes long) in
    status_as_long c.args.tables.now c.args.areas.now c.exchange-2.new.self c.args.one.now.status
    (back_lengths c.args.areas.now c.exchange.new.self c.exchange-2.new.self c.args.one.now.area c.args.bytes.now.items
    c.as_mut_slice.result.now
    c.perform-performed.new.bytes c.exchange.ensures.area takes
    (c.as_mut_slice.ensures.value ∙ c.exchange.ensures.bytes) c.perform-performed.auto.bytes)
    c.requires.places.status

pub returns-in-Ok-clause-lengths : goal.returns-in-Ok-clause-lengths
returns-in-Ok-clause-lengths g c =
    let long = c.perform-performed.auto.bytes ∙ ap length c.as_mut_slice.ensures.value in
    let takes : c.exchange-2.new.self
    ≡ slice_set c.exchange.new.self c.args.one.now.area c.perform-performed.new.bytes =
    c.exchange-2.ensures.area ∙ ap (slice_set c.exchange.new.self c.args.one.now.area)
    (now_has c.exchange.new.bytes c.perform-performed.new.bytes long) in
    c.leave.ensures.lengths
    ∙ back_lengths c.args.areas.now c.exchange.new.self c.exchange-2.new.self c.args.one.now.area c.args.bytes.now.items
    c.as_mut_slice.result.now
    c.perform-performed.new.bytes c.exchange.ensures.area takes
    (c.as_mut_slice.ensures.value ∙ c.exchange.ensures.bytes) c.perform-performed.auto.bytes

-- the areas after the record area was taken back
area_back : (g : Over) (c : After-exchange-2 g) → c.exchange-2.new.self
    ≡ slice_set c.exchange.new.self c.args.one.now.area c.perform-performed.new.bytes
area_back g c =
    let long = c.perform-performed.auto.bytes ∙ ap length c.as_mut_slice.ensures.value in
    c.exchange-2.ensures.area ∙ ap (slice_set c.exchange.new.self c.args.one.now.area)
    (now_has c.exchange.new.bytes c.perform-performed.new.bytes long)

-- the number after the step
number_after : (g : Over) (c : After-perform-performed g) (files : Files)
    → StaysOrFits (digits_at (place_at c.args.tables.now c.args.one.now.relative_key))
    (area_of (places_of c.args.tables.now c.args.operation.file.number c.args.one.now) c.args.areas.now).number
    (step_by (g.F.FileVerbs.entries c.args.verbs.now)
    (places_of c.args.tables.now c.args.operation.file.number c.args.one.now) c.args.operation.verb files
    (g.F.FileVerbs.connectors c.args.verbs.now) c.args.areas.now).area.number
number_after g c files = item_number_fits c.args.tables.now (g.F.FileVerbs.entries c.args.verbs.now) c.args.one.now
    c.args.operation.file.number c.args.operation.verb files (g.F.FileVerbs.connectors c.args.verbs.now)
    c.args.areas.now c.requires.entry c.requires.spec c.requires.verb

pub returns-in-Ok-clause-did : goal.returns-in-Ok-clause-did
returns-in-Ok-clause-did g c = λ files stands.
    let to = goal.at.returns-in-Ok-clause-did g c in
    step_done (step_of (g.F.FileVerbs.entries c.args.verbs.now)
    (places_of c.args.tables.now c.args.operation.file.number c.args.one.now) c.args.operation.verb files
    (g.F.FileVerbs.connectors c.args.verbs.now) c.args.areas.now c.as_mut_slice.result.now c.relative_number-old.result
    (c.as_mut_slice.ensures.value ∙ c.exchange.ensures.bytes) c.relative_number-old.ensures)
    (c.in-Ok.ensures.step files (inl stands)) c.relative_number-old.ensures
    (taken_back c.args.areas.now c.exchange.new.self c.exchange-2.new.self c.args.one.now.area c.args.bytes.now.items
    c.as_mut_slice.result.now c.perform-performed.new.bytes c.exchange.ensures.area (area_back g to.After-exchange-2))
    c.leave.ensures.stores (number_after g to.After-perform-performed files)

pub returns-in-Ok-clause-turns : goal.returns-in-Ok-clause-turns
returns-in-Ok-clause-turns g c = λ files stands.
    change_known g.F.Keeps g.D.Device (Ok c.in-Ok.status) (makes_file c.args.operation.verb) files c.args.verbs.now
    c.args.device.now c.perform-performed.new.self c.perform-performed.new.device
    (ap (λ (e : Entry). e.name) c.requires.entry)
    (ap (λ (s : Step). s.files) (step_of (g.F.FileVerbs.entries c.args.verbs.now)
    (places_of c.args.tables.now c.args.operation.file.number c.args.one.now) c.args.operation.verb files
    (g.F.FileVerbs.connectors c.args.verbs.now) c.args.areas.now c.as_mut_slice.result.now c.relative_number-old.result
    (c.as_mut_slice.ensures.value ∙ c.exchange.ensures.bytes) c.relative_number-old.ensures))
    (c.in-Ok.ensures.turns files stands)

pub returns-in-Err-clause-full : goal.returns-in-Err-clause-full
returns-in-Err-clause-full g c = λ files stands full.
    let entries : List Entry = g.F.FileVerbs.entries c.args.verbs.now in
    let connectors : List Connector = g.F.FileVerbs.connectors c.args.verbs.now in
    let places : FilePlaces = places_of c.args.tables.now c.args.operation.file.number c.args.one.now in
    let is = step_of entries places c.args.operation.verb files connectors c.args.areas.now c.as_mut_slice.result.now
    c.relative_number-old.result
    (c.as_mut_slice.ensures.value ∙ c.exchange.ensures.bytes) c.relative_number-old.ensures in
    sym (ap (λ (s : Step). has_changed c.args.operation.verb s.status) is) ∙ c.in-Err.ensures.full files stands full

pub returns-in-Ok-clause-changes : goal.returns-in-Ok-clause-changes
returns-in-Ok-clause-changes g c = c.in-Ok.ensures.store.changes

pub returns-in-Err-clause-changes : goal.returns-in-Err-clause-changes
returns-in-Err-clause-changes g c = c.in-Err.ensures.store.changes

pub returns-in-Err-clause-old : goal.returns-in-Err-clause-old
returns-in-Err-clause-old g c = c.in-Err.ensures.lacks.old

pub returns-in-Ok-clause-full : goal.returns-in-Ok-clause-full
returns-in-Ok-clause-full g c = λ files stands full. never_lacks full

pub returns-in-Ok-clause-old : goal.returns-in-Ok-clause-old
returns-in-Ok-clause-old g c = λ is. never_err is
