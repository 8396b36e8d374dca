use Rattle.std.proofs.Common.{◌≡◌, ℕ, List, bytes_eq, sym, ap, subst, ◌∙◌}
use Rattle.indexmap.specs.IndexMap.{get_by}
use Rattle.source_tree.specs.ProgramFiles.{files_of}
use Rattle.name_table.specs.Files.{first_file, IsFileNamed}
use Rattle.name_table.proofs.NamedFiles.{first_named}
use Rattle.name_table.proofs.files.FileNames.file_named.Goals as goal

pub returns : goal.returns
returns c = λ items program h.
    let name = c.args.name.now in
    let found : c.copied.result ≡ first_file name.characters 0 program.selects =
    c.copied.ensures ∙ c.get.ensures.value ∙ ap (λ (l : List ℕ). get_by (λ k. bytes_eq l k.now) c.args.self.now.numbers)
    c.as_slice.ensures ∙ h.numbered name.characters in
    subst (λ o. IsFileNamed (files_of items program) name o) (sym found) (first_named items program name)
