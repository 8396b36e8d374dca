use Rattle.std.proofs.Common.{◌≡◌, List, ℕ, sym, ap, subst, ◌∙◌}
use Rattle.std.specs.Prelude.{Some}
use Rattle.records.specs.Files.{file_at}
use Rattle.file_bytes.specs.declared.stored.StoredFile.{StoredFile}
use Rattle.file_bytes.specs.Stored.{file_of, files_of}
use Rattle.volume_copies.proofs.LoadsOfVolumes.{volume_as}
use Rattle.volume_copies.proofs.load_command.load_file.Goals as goal

pub returns-clause-loads : goal.returns-clause-loads
returns-clause-loads g c = λ honest holds.
    let d = g.D.Device in
    let old = c.args.device.now in
    let new = c.load_into.new.device in
    let files = files_of c.args.files.now in
    let file = c.index-files-place.result in
    let same : file.spec.name.items ≡ c.args.name.now =
    ap (λ (f : StoredFile). f.spec.name.items) c.index-files-place.is ∙ c.in-Some.ensures.name file in
    let there : file_at file.spec.name.items files ≡ Some (file_of file) =
    subst (λ (n : List ℕ). file_at n files ≡ Some (file_of file)) (sym same)
    (c.in-Some.ensures.found file ∙ ap (λ (f : StoredFile). Some (file_of f)) (sym c.index-files-place.is)) in
    volume_as file.spec.name.items c.args.name.now c.args.text.now files c.load_into.result.rows c.load_into.result.end
    (d.history old) (d.history new) (d.state old) (d.state new) same
    (c.load_into.ensures.loads honest files holds there)
