use Rattle.std.proofs.Common.{◌≡◌, ◌<◌, ◌∙◌, true, length, get_or, refl, sym, ap, rules, arith}
use Rattle.std.specs.Prelude.{IfErr}
use Rattle.std.proofs.lemmas.List.{get_or_read}
use Rattle.records.specs.Files.{File, with_file}
use Rattle.records.specs.declared.fault.StoreFault.TheVariants.{Memory}
use Rattle.records.specs.Rows.{same_bytes}
use Rattle.file_bytes.specs.Stored.{files_of}
use Rattle.file_bytes.specs.declared.stored.StoredFile.{StoredFile}
use Rattle.half_store.specs.Changing.{IsMemoryCause}
use Rattle.half_store.proofs.Passed.{passed, on_refused, memory_change, memory_never_full, memory_never_damaged}
use Rattle.half_store.proofs.Placed.{passed_there, put_here}
use Rattle.half_store.proofs.creating.create_in.Goals as goal

pub returns-then-is_eq-clause-after : goal.returns-then-is_eq-clause-after
returns-then-is_eq-clause-after c =
    let files = c.args.files.now.items in
    let name = c.args.spec.now.name.items in
    let place = c.place_of_name-place.result in
    let old = c.index.result.now in
    let lt : place < length files = omega (arith, c.if-place-len.true, c.len.ensures) in
    let here : get_or files place old ≡ old = sym (get_or_read files place old lt c.index.ensures old) in
    let passed = passed_there place c.deref.ensures.value c.deref-2.ensures.value c.place_of_name-place.ensures.place in
    let same : same_bytes old.spec.name.items name ≡ true = search rules in
    put_here name files place old c.in_ok-files.field-0 lt passed
    (ap (λ (f : StoredFile). same_bytes f.spec.name.items name) here ∙ same) c.in_ok-files.ensures.file.0
    ∙ ap (λ (f : File). with_file name f (files_of files)) c.in_ok-files.ensures.file.1

pub returns-in_err-files-clause-after : goal.returns-in_err-files-clause-after
returns-in_err-files-clause-after c =
    on_refused c.from_residual.result c.in_err-files.field-0.0 c.from_residual.ensures.1 _

pub returns-in_err-files-clause-count : goal.returns-in_err-files-clause-count
returns-in_err-files-clause-count c =
    λ held. on_refused c.from_residual.result c.in_err-files.field-0.0 c.from_residual.ensures.1 _

pub returns-in_err-files-clause-full : goal.returns-in_err-files-clause-full
returns-in_err-files-clause-full c =
    memory_never_full c.from_residual.result c.in_err-files.field-0.0 c.from_residual.ensures.1
    c.in_err-files.ensures.memory

pub returns-in_err-files-clause-cause : goal.returns-in_err-files-clause-cause
returns-in_err-files-clause-cause c =
    passed c.from_residual.result c.in_err-files.field-0.0 c.from_residual.ensures.1
    (λ r. IfErr r IsMemoryCause) (memory_change _ c.in_err-files.ensures.memory)

pub returns-in_err-files-clause-sound : goal.returns-in_err-files-clause-sound
returns-in_err-files-clause-sound c =
    memory_never_damaged c.from_residual.result c.in_err-files.field-0.0 c.from_residual.ensures.1
    c.in_err-files.ensures.memory

pub returns-in_err-file-clause-after : goal.returns-in_err-file-clause-after
returns-in_err-file-clause-after c =
    on_refused c.from_residual-in_err-file.result c.in_err-file.field-0.0 c.from_residual-in_err-file.ensures.1 _

pub returns-in_err-file-clause-count : goal.returns-in_err-file-clause-count
returns-in_err-file-clause-count c =
    λ held.
    on_refused c.from_residual-in_err-file.result c.in_err-file.field-0.0 c.from_residual-in_err-file.ensures.1 _

pub returns-in_err-file-clause-full : goal.returns-in_err-file-clause-full
returns-in_err-file-clause-full c =
    memory_never_full c.from_residual-in_err-file.result c.in_err-file.field-0.0 c.from_residual-in_err-file.ensures.1
    c.in_err-file.ensures.memory

pub returns-in_err-file-clause-cause : goal.returns-in_err-file-clause-cause
returns-in_err-file-clause-cause c =
    passed c.from_residual-in_err-file.result c.in_err-file.field-0.0 c.from_residual-in_err-file.ensures.1
    (λ r. IfErr r IsMemoryCause) (memory_change _ c.in_err-file.ensures.memory)

pub returns-in_err-file-clause-sound : goal.returns-in_err-file-clause-sound
returns-in_err-file-clause-sound c =
    memory_never_damaged c.from_residual-in_err-file.result c.in_err-file.field-0.0
    c.from_residual-in_err-file.ensures.1
    c.in_err-file.ensures.memory

pub returns-in_err-insert-clause-after : goal.returns-in_err-insert-clause-after
returns-in_err-insert-clause-after c =
    on_refused c.from_residual-in_err-insert.result Memory c.from_residual-in_err-insert.ensures.1 _

pub returns-in_err-insert-clause-count : goal.returns-in_err-insert-clause-count
returns-in_err-insert-clause-count c =
    λ held. on_refused c.from_residual-in_err-insert.result Memory c.from_residual-in_err-insert.ensures.1 _

pub returns-in_err-insert-clause-full : goal.returns-in_err-insert-clause-full
returns-in_err-insert-clause-full c =
    memory_never_full c.from_residual-in_err-insert.result Memory c.from_residual-in_err-insert.ensures.1
    refl

pub returns-in_err-insert-clause-cause : goal.returns-in_err-insert-clause-cause
returns-in_err-insert-clause-cause c =
    passed c.from_residual-in_err-insert.result Memory c.from_residual-in_err-insert.ensures.1
    (λ r. IfErr r IsMemoryCause) (memory_change _ refl)

pub returns-in_err-insert-clause-sound : goal.returns-in_err-insert-clause-sound
returns-in_err-insert-clause-sound c =
    memory_never_damaged c.from_residual-in_err-insert.result Memory c.from_residual-in_err-insert.ensures.1
    refl
