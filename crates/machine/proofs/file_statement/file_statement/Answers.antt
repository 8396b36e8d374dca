use Rattle.std.proofs.Common.{◌∙◌, List, length, ap, refl, arith, Err}
use Rattle.std.proofs.lemmas.Option.{slice_get_within}
use Rattle.records.specs.Connector.{Entry}
use Rattle.records.specs.FileStep.{entry_at}
use Rattle.file_image.specs.Files.{entries_of}
use Rattle.code_image.specs.declared.instruction.Instruction.TheVariants as instruction
use Rattle.machine.proofs.Standing.{stands_behind_stored}
use Rattle.machine.proofs.Placed.{on_ok, at_file, entry_here, entries_many, finds_places}
use Rattle.machine.proofs.FileCalls.{moments_under_way, moments_noted, goes_on_noted, given_up_by}
use Rattle.machine.proofs.Ending.{kept_by_both, serves_after, never_true, caused_later, caused_by_store, unheard_over}
use Rattle.machine.proofs.file_statement.file_statement.Goals as goal

pub perform-performed-requires-clause-places : goal.perform-performed-requires-clause-places
perform-performed-requires-clause-places g c =
    let w = at_file c.args.code.now c.requires.verified c.args.address c.args.file c.args.verb c.requires.here
    c.as_slice.result.now c.index-as_slice-file.result
    c.as_slice.ensures c.index-as_slice-file.is in
    let s = c.requires.stands in
    finds_places c.args.code.now.tables c.args.registers.now.scratch s.shape s.equipped.at c.index-as_slice-file.result
    w.names w.sound

pub perform-performed-requires-clause-file : goal.perform-performed-requires-clause-file
perform-performed-requires-clause-file g c =
    let w = at_file c.args.code.now c.requires.verified c.args.address c.args.file c.args.verb c.requires.here
    c.as_slice.result.now c.index-as_slice-file.result
    c.as_slice.ensures c.index-as_slice-file.is in
    let within = slice_get_within c.args.code.now.files c.args.file.number c.index-as_slice-file.result w.there in
    let many = ap length c.requires.serves.entries_are ∙ entries_many c.args.code.now.tables c.args.code.now.files in
    omega (arith, within, many)

pub perform-performed-requires-clause-entry : goal.perform-performed-requires-clause-entry
perform-performed-requires-clause-entry g c =
    let w = at_file c.args.code.now c.requires.verified c.args.address c.args.file c.args.verb c.requires.here
    c.as_slice.result.now c.index-as_slice-file.result
    c.as_slice.ensures c.index-as_slice-file.is in
    ap (λ (es : List Entry). entry_at es c.args.file.number) c.requires.serves.entries_are
    ∙ entry_here c.args.code.now.tables c.args.code.now.files c.args.file.number c.index-as_slice-file.result w.there

pub perform-performed-requires-clause-spec : goal.perform-performed-requires-clause-spec
perform-performed-requires-clause-spec g c =
    let w = at_file c.args.code.now c.requires.verified c.args.address c.args.file c.args.verb c.requires.here
    c.as_slice.result.now c.index-as_slice-file.result
    c.as_slice.ensures c.index-as_slice-file.is in
    w.sound.spec

pub perform-performed-requires-clause-verb : goal.perform-performed-requires-clause-verb
perform-performed-requires-clause-verb g c =
    let w = at_file c.args.code.now c.requires.verified c.args.address c.args.file c.args.verb c.requires.here
    c.as_slice.result.now c.index-as_slice-file.result
    c.as_slice.ensures c.index-as_slice-file.is in
    w.suits

pub returns-in-Ok-clause-within : goal.returns-in-Ok-clause-within
returns-in-Ok-clause-within g c =
    let w = at_file c.args.code.now c.requires.verified c.args.address c.args.file c.args.verb c.requires.here
    c.as_slice.result.now c.index-as_slice-file.result
    c.as_slice.ensures c.index-as_slice-file.is in
    w.next

pub returns-in-Ok-clause-file : goal.returns-in-Ok-clause-file
returns-in-Ok-clause-file g c =
    let w = at_file c.args.code.now c.requires.verified c.args.address c.args.file c.args.verb c.requires.here
    c.as_slice.result.now c.index-as_slice-file.result
    c.as_slice.ensures c.index-as_slice-file.is in
    slice_get_within c.args.code.now.files c.args.file.number c.index-as_slice-file.result w.there

pub returns-in-Ok-clause-stands : goal.returns-in-Ok-clause-stands
returns-in-Ok-clause-stands g c = on_ok c.note.result _
    (stands_behind_stored c.args.code.now c.args.registers.now c.args.address c.requires.stands
    (instruction.File c.args.file c.args.verb) c.requires.here (λ shape. refl) refl
    _ c.perform-performed.new.areas c.args.registers.now.scratch.truth refl c.in-Ok.ensures.lengths refl refl refl)

pub returns-in-Ok-clause-moments : goal.returns-in-Ok-clause-moments
returns-in-Ok-clause-moments g c = λ day run before left files stands so_far.
    let w = at_file c.args.code.now c.requires.verified c.args.address c.args.file c.args.verb c.requires.here
    c.as_slice.result.now c.index-as_slice-file.result
    c.as_slice.ensures c.index-as_slice-file.is in
    moments_noted g.F.Keeps g.S.Device c.args.code.now day run before files
    (g.F.FileVerbs.connectors c.args.verbs.now) c.args.address left c.args.registers.now c.args.station.now so_far
    c.args.file c.args.verb c.index-as_slice-file.result c.requires.here w.there
    (g.F.FileVerbs.entries c.args.verbs.now) c.requires.serves.entries_are c.args.verbs.now
    c.perform-performed.new.verbs c.perform-performed.new.device c.in-Ok.status (c.in-Ok.ensures.turns files stands)
    (c.in-Ok.ensures.did files stands) c.in-Ok.ensures.changes.only stands.honest c.note.new.station c.note.result
    c.note.ensures.noted c.note.ensures.moves c.note.ensures.unheard
    (g.met.F.FileVerbs.held c.perform-performed.new.verbs)

pub returns-in-Ok-clause-on : goal.returns-in-Ok-clause-on
returns-in-Ok-clause-on g c = λ day run before left files stands so_far.
    let w = at_file c.args.code.now c.requires.verified c.args.address c.args.file c.args.verb c.requires.here
    c.as_slice.result.now c.index-as_slice-file.result
    c.as_slice.ensures c.index-as_slice-file.is in
    goes_on_noted g.F.Keeps g.S.Device c.args.code.now day run before files
    (g.F.FileVerbs.connectors c.args.verbs.now) c.args.address left c.args.registers.now c.args.station.now so_far
    c.args.file c.args.verb c.index-as_slice-file.result c.requires.here w.there
    (g.F.FileVerbs.entries c.args.verbs.now) c.requires.serves.entries_are c.args.verbs.now
    c.perform-performed.new.verbs c.perform-performed.new.device c.in-Ok.status (c.in-Ok.ensures.turns files stands)
    (c.in-Ok.ensures.did files stands) c.in-Ok.ensures.changes.only stands.honest c.note.new.station c.note.result
    c.note.ensures.noted c.note.ensures.honest.0 _ refl refl refl refl refl

pub returns-in-Err-clause-within : goal.returns-in-Err-clause-within
returns-in-Err-clause-within g c =
    let w = at_file c.args.code.now c.requires.verified c.args.address c.args.file c.args.verb c.requires.here
    c.as_slice.result.now c.index-as_slice-file.result
    c.as_slice.ensures c.index-as_slice-file.is in
    w.next

pub returns-in-Err-clause-file : goal.returns-in-Err-clause-file
returns-in-Err-clause-file g c =
    let w = at_file c.args.code.now c.requires.verified c.args.address c.args.file c.args.verb c.requires.here
    c.as_slice.result.now c.index-as_slice-file.result
    c.as_slice.ensures c.index-as_slice-file.is in
    slice_get_within c.args.code.now.files c.args.file.number c.index-as_slice-file.result w.there

pub returns-in-Err-clause-moments : goal.returns-in-Err-clause-moments
returns-in-Err-clause-moments g c = λ day run before left files stands so_far.
    let w = at_file c.args.code.now c.requires.verified c.args.address c.args.file c.args.verb c.requires.here
    c.as_slice.result.now c.index-as_slice-file.result
    c.as_slice.ensures c.index-as_slice-file.is in
    moments_under_way g.F.Keeps g.S.Device c.args.code.now day run before files
    (g.F.FileVerbs.connectors c.args.verbs.now) c.args.address left c.args.registers.now c.args.station.now so_far
    c.args.file c.args.verb c.index-as_slice-file.result c.requires.here w.there
    (g.F.FileVerbs.entries c.args.verbs.now) c.requires.serves.entries_are c.args.verbs.now
    c.perform-performed.new.verbs c.perform-performed.new.device (Err c.in-Err.fault)
    (c.in-Err.ensures.turns files stands)

pub returns-in-Err-clause-over : goal.returns-in-Err-clause-over
returns-in-Err-clause-over g c = λ day run before left files stands so_far.
    let w = at_file c.args.code.now c.requires.verified c.args.address c.args.file c.args.verb c.requires.here
    c.as_slice.result.now c.index-as_slice-file.result
    c.as_slice.ensures c.index-as_slice-file.is in
    given_up_by g.F.Keeps g.S.Device c.args.code.now day run before files
    (g.F.FileVerbs.connectors c.args.verbs.now) c.args.address left c.args.registers.now c.args.station.now so_far
    c.args.file c.args.verb c.index-as_slice-file.result c.requires.here w.there
    (g.F.FileVerbs.entries c.args.verbs.now) c.requires.serves.entries_are c.args.verbs.now
    c.perform-performed.new.verbs c.perform-performed.new.device c.in-Err.fault (c.in-Err.ensures.turns files stands)
    c.in-Err.ensures.changes stands.honest c.refusal_of.result c.refusal_of.ensures c.in-Err.ensures.asks
    (c.in-Err.ensures.full files stands) c.in-Err.ensures.old

pub refusal_of-requires-clause-whole : goal.refusal_of-requires-clause-whole
refusal_of-requires-clause-whole g c = λ is.
    never_true c.requires.serves.whole (c.in-Err.ensures.changes.spent (ap Err is))

pub refusal_of-requires-clause-layout : goal.refusal_of-requires-clause-layout
refusal_of-requires-clause-layout g c = λ is. c.in-Err.ensures.changes.own_layout (ap Err is)

pub returns-in-Ok-clause-sectors : goal.returns-in-Ok-clause-sectors
returns-in-Ok-clause-sectors g c = c.note.ensures.sectors ∙ c.in-Ok.ensures.changes.only.sectors

pub returns-in-Ok-clause-honest : goal.returns-in-Ok-clause-honest
returns-in-Ok-clause-honest g c = kept_by_both c.in-Ok.ensures.changes.only.honest c.note.ensures.honest

pub returns-in-Ok-clause-cause : goal.returns-in-Ok-clause-cause
returns-in-Ok-clause-cause g c =
    caused_later c.note.result _ _ _ c.in-Ok.ensures.changes.only.failures.no_fewer c.note.ensures.cause

pub returns-in-Ok-clause-serves : goal.returns-in-Ok-clause-serves
returns-in-Ok-clause-serves g c = on_ok c.note.result _
    (serves_after c.in-Ok.ensures.changes.needs c.in-Ok.ensures.entries c.in-Ok.ensures.changes.same
    (c.note.ensures.sectors ∙ c.in-Ok.ensures.changes.only.sectors) c.requires.serves)

pub returns-in-Ok-clause-over : goal.returns-in-Ok-clause-over
returns-in-Ok-clause-over g c = λ day run before left files stands so_far.
    let only = c.in-Ok.ensures.changes.only in
    unheard_over g.F.Keeps.holds g.F.Keeps.lacks (entries_of c.args.code.now.tables c.args.code.now.files) run
    c.note.result before (g.S.Device.state c.args.station.now) _ _ c.note.ensures.device
    (c.note.ensures.unheard (only.honest.0 stands.honest)) (only.console stands.honest).lines so_far.console

pub returns-in-Err-clause-cause : goal.returns-in-Err-clause-cause
returns-in-Err-clause-cause g c = caused_by_store c.refusal_of.ensures c.in-Err.ensures.changes.only.failures
