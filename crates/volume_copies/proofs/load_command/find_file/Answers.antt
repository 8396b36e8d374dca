use Rattle.std.proofs.Common.{◌≡◌, true, get_or, ℕ, List, ap, sym, subst, ◌∙◌}
use Rattle.std.specs.Ordering.{is_eq}
use Rattle.std.proofs.lemmas.List.{get_or_default}
use Rattle.records.specs.Rows.{bytes_cmp, same_bytes}
use Rattle.records.proofs.Maps.{bytes_same}
use Rattle.file_bytes.specs.declared.stored.StoredFile.{StoredFile}
use Rattle.volume_copies.proofs.load_command.find_file.Goals as goal

pub returns-then-is_eq-clause-name : goal.returns-then-is_eq-clause-name
returns-then-is_eq-clause-name c = λ d.
    let files = c.args.files.now in
    let place = c.loop-place.place in
    let name = c.args.name.now in
    let same : is_eq (bytes_cmp c.as_slice.result.now name) ≡ true =
    ap is_eq (sym c.cmp.ensures) ∙ sym c.is_eq.ensures ∙ c.if-is_eq.true in
    let here : same_bytes (get_or files place c.index-files-place.result).spec.name.items name ≡ true =
    subst (λ (l : List ℕ). same_bytes l name ≡ true) c.as_slice.ensures.value same in
    bytes_same _ _ (subst (λ (f : StoredFile). same_bytes f.spec.name.items name ≡ true)
    (get_or_default files place c.index-files-place.result d c.loop-place-test.true) here)
