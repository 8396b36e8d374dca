use Rattle.std.proofs.Common.{◌≡◌, ◌<◌, ◌↔◌, IsTrue, List, length, ap, sym, subst, ◌∙◌}
use Rattle.std.specs.Prelude.{slice_index_or}
use Rattle.records.specs.Connector.{Entry}
use Rattle.records.specs.FileStep.{Suits, entry_at}
use Rattle.file_image.specs.declared.file.CodeFile.{CodeFile}
use Rattle.file_image.specs.Files.{entry_of, entries_of}
use Rattle.code_image.specs.declared.instruction.Instruction.{Instruction}
use Rattle.code_image.specs.Demands.{NamesFile, SuitsFile}
use Rattle.code_image.proofs.WellFormed.{entry_within}
use Rattle.code_image.proofs.verified.suits_file.Goals as goal

pub returns-in-File : goal.returns-in-File
returns-in-File c =
    let tables = c.args.code.now.tables in
    let files = c.args.code.now.files in
    let number = c.in-File.file.number in
    let within : number < length files = subst (NamesFile (length files)) c.in-File.is c.requires in
    let one = c.index-as_slice-file.result in
    let is : one ≡ slice_index_or files number one =
    c.index-as_slice-file.is ∙ ap (λ (all : List CodeFile). slice_index_or all number one) c.as_slice.ensures in
    let e : entry_of tables one ≡ entry_at (entries_of tables files) number =
    entry_within tables files number one within is in
    subst (λ (i : Instruction). IsTrue c.suits.result ↔ SuitsFile (entries_of tables files) i) (sym c.in-File.is)
    (subst (λ (entry : Entry). IsTrue c.suits.result ↔ Suits entry c.in-File.verb) e (c.suits.ensures tables))
