use Rattle.std.proofs.Common.{◌≡◌, ◌+◌, ◌++◌, Some, length, ap, ◌∙◌, arith, length-append}
use Rattle.std.specs.Prelude.{slice_get}
use Rattle.std.proofs.lemmas.Option.{slice_get_within}
use Rattle.declarations.specs.Entries.{items_among, items_of_files}
use Rattle.declarations.specs.Named.{data_in}
use Rattle.declarations.proofs.EntryNumbers.{in_front, past_front, same_level}
use Rattle.declarations.proofs.ItemEntries.{entry_at}
use Rattle.declarations.proofs.declarations.Declarations.is_record.Goals as goal

pub returns-in-Ok : goal.returns-in-Ok
returns-in-Ok c = λ one there.
    let program = data_in c.args.self.now in
    let storage = items_among program.storage in
    let all = storage ++ items_of_files program.files in
    let here : slice_get storage c.args.number ≡ Some c.in-Ok.one.now = c.in-Ok.ensures in
    same_level c.in-Ok.one.now one.entry c.is_outermost.result all c.args.number
    (in_front storage (items_of_files program.files) c.args.number c.in-Ok.one.now here)
    (entry_at program c.args.number one there) c.is_outermost.ensures

pub returns-in-Ok-record_among : goal.returns-in-Ok-record_among
returns-in-Ok-record_among c = λ one there.
    let program = data_in c.args.self.now in
    let storage = items_among program.storage in
    let records = items_of_files program.files in
    let passed : c.args.number ≡ length storage + c.in-Err.behind = c.in-Err.ensures in
    let here : slice_get records c.in-Err.behind ≡ Some c.in-Ok-record_among.one.now = c.in-Ok-record_among.ensures in
    same_level c.in-Ok-record_among.one.now one.entry c.is_outermost-in-Ok-record_among.result (storage ++ records)
    c.args.number
    (ap (slice_get (storage ++ records)) passed ∙ past_front storage records c.in-Err.behind ∙ here)
    (entry_at program c.args.number one there) c.is_outermost-in-Ok-record_among.ensures

pub returns-in-Err-record_among : goal.returns-in-Err-record_among
returns-in-Err-record_among c = λ one there.
    let program = data_in c.args.self.now in
    let storage = items_among program.storage in
    let records = items_of_files program.files in
    let passed : c.args.number ≡ length storage + c.in-Err.behind = c.in-Err.ensures in
    let beyond : c.in-Err.behind ≡ length records + c.in-Err-record_among.field-0 = c.in-Err-record_among.ensures in
    let within =
    slice_get_within (storage ++ records) c.args.number one.entry (entry_at program c.args.number one there) in
    let both = length-append storage records in
    absurd (omega (arith, within, both, passed, beyond))
