-- The data of a program in place of the program.
use Rattle.std.proofs.Common.{◌≡◌, ℕ, ◌<◌, ◌+◌, List, [], ◌∷◌, ◌++◌, length, get_or, drop, subst, sym, ap, ◌∙◌}
use Rattle.std.proofs.Common.{append_assoc}
use Rattle.std.specs.Prelude.{Option, map}
use Rattle.std.specs.List.{AllByRecursion}
use Rattle.std.proofs.lemmas.List.{map-append}
use Rattle.source_tree.specs.declared.entry.Entry.{Entry}
use Rattle.source_tree.specs.declared.program.Program.{Program}
use Rattle.source_tree.specs.declared.select.FileDescription.{FileDescription}
use Rattle.source_tree.specs.declared.select.Select.{Select}
use Rattle.source_tree.specs.Places.{LocatedItem}
use Rattle.source_tree.specs.ProgramFiles as meaning
use Rattle.source_tree.specs.ProgramFiles.{file_by, files_of}
use Rattle.source_tree.specs.Records.{program_items}
use Rattle.file_descriptions.specs.declared.file.ProgramFile.{ProgramFile}
use Rattle.file_descriptions.specs.Clauses.{KeepsClauses}
use Rattle.file_descriptions.specs.Descriptions.{KeepsDescriptions, data_with, described_in}
use Rattle.file_descriptions.specs.Files.{file_in, numbers_in, clause_numbers, files_after}
use Rattle.file_descriptions.proofs.FoundDescription.{rest_at}

module _ (program : Program) (storage : List Entry) (files : List FileDescription) (entries : storage ≡ program.storage)
    (descriptions : files ≡ program.files) where
  same : data_with storage files ≡ data_with program.storage program.files
  same = ap (λ (l : List Entry). data_with l files) entries
      ∙ ap (λ (l : List FileDescription). data_with program.storage l) descriptions

  pub same_items : program_items program ≡ program_items (data_with storage files)
  same_items = sym (ap program_items same)

  pub data_kept : KeepsDescriptions program → KeepsDescriptions (data_with storage files)
  data_kept h =
      let own : KeepsDescriptions (data_with program.storage program.files) =
      record { storage = h.storage; each_one = h.each_one; few = h.few } in
      subst KeepsDescriptions (sym same) own

  pub clauses_kept : (selects : List Select) → selects ≡ program.selects
      → AllByRecursion (KeepsClauses (program_items program)) program.selects
      → AllByRecursion (KeepsClauses (program_items (data_with storage files))) selects
  clauses_kept selects e h =
      subst (λ (l : List LocatedItem). AllByRecursion (KeepsClauses l) selects) same_items
      (subst (AllByRecursion (KeepsClauses (program_items program))) (sym e) h)

  pub files_are : (old new : List ProgramFile) (selects : List Select) → old ≡ [] → selects ≡ program.selects
      → map (file_in (program_items (data_with storage files))) new
      ≡ map (file_in (program_items (data_with storage files))) old ++ files_after (data_with storage files) 0 selects
      → map (file_in (program_items program)) new ≡ files_of (program_items program) program
  files_are old new selects none e h =
      subst (λ (d : Program). map (file_in (program_items d)) new
      ≡ map (file_in (program_items d)) old ++ files_after d 0 selects) same h
      ∙ ap (λ (l : List ProgramFile). map (file_in (program_items program)) l ++ files_after program 0 selects) none
      ∙ ap (λ (l : List Select). files_after program 0 l) e

  pub numbers_are : (old new : List ProgramFile) (selects : List Select) → old ≡ [] → selects ≡ program.selects
      → map numbers_in new
      ≡ map numbers_in old ++ map (clause_numbers (program_items (data_with storage files))) selects
      → map numbers_in new ≡ map (clause_numbers (program_items program)) program.selects
  numbers_are old new selects none e h =
      subst (λ (d : Program). map numbers_in new
      ≡ map numbers_in old ++ map (clause_numbers (program_items d)) selects) same h
      ∙ ap (λ (l : List ProgramFile). map numbers_in l ++ map (clause_numbers (program_items program)) selects) none
      ∙ ap (map (clause_numbers (program_items program))) e

-- ---- one file more

module _ (given : Program) (selects : List Select) (i : ℕ) (one : Select) (lt : i < length selects)
    (is : one ≡ get_or selects i one) where
  rest : drop i selects ≡ one ∷ drop (i + 1) selects
  rest = rest_at selects i one lt is

  pub clauses_next : AllByRecursion (KeepsClauses (program_items given)) (drop i selects)
      → AllByRecursion (KeepsClauses (program_items given)) (drop (i + 1) selects)
  clauses_next h = (subst (AllByRecursion (KeepsClauses (program_items given))) rest h).1

  pub files_next : (old new : List ProgramFile) (file : ProgramFile) (all : List meaning.ProgramFile)
      → new ≡ old ++ file ∷ []
      → file_in (program_items given) file
      ≡ file_by (program_items given) i one (described_in given one.name)
      → map (file_in (program_items given)) old ++ files_after given i (drop i selects) ≡ all
      → map (file_in (program_items given)) new ++ files_after given (i + 1) (drop (i + 1) selects) ≡ all
  files_next old new file all pushed made before =
      let items = program_items given in
      let more = files_after given (i + 1) (drop (i + 1) selects) in
      ap (λ (l : List ProgramFile). map (file_in items) l ++ more) pushed
      ∙ ap (λ (l : List meaning.ProgramFile). l ++ more) (map-append (file_in items) old (file ∷ []))
      ∙ append_assoc (map (file_in items) old) (file_in items file ∷ []) more
      ∙ ap (λ (x : meaning.ProgramFile). map (file_in items) old ++ (x ∷ more)) made
      ∙ ap (λ (l : List Select). map (file_in items) old ++ files_after given i l) (sym rest) ∙ before

  pub numbers_next : (old new : List ProgramFile) (file : ProgramFile) (all : List (Option ℕ × Option ℕ))
      → new ≡ old ++ file ∷ [] → numbers_in file ≡ clause_numbers (program_items given) one
      → map numbers_in old ++ map (clause_numbers (program_items given)) (drop i selects) ≡ all
      → map numbers_in new ++ map (clause_numbers (program_items given)) (drop (i + 1) selects) ≡ all
  numbers_next old new file all pushed made before =
      let numbers = clause_numbers (program_items given) in
      let more = map numbers (drop (i + 1) selects) in
      ap (λ (l : List ProgramFile). map numbers_in l ++ more) pushed
      ∙ ap (λ (l : List (Option ℕ × Option ℕ)). l ++ more) (map-append numbers_in old (file ∷ []))
      ∙ append_assoc (map numbers_in old) (numbers_in file ∷ []) more
      ∙ ap (λ (x : Option ℕ × Option ℕ). map numbers_in old ++ (x ∷ more)) made
      ∙ ap (λ (l : List Select). map numbers_in old ++ map numbers l) (sym rest) ∙ before
