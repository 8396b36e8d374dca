-- Record areas at the start of a run, where the rules of files are kept; and programs without files.
use Rattle.std.proofs.Common.{◌≡◌, ℕ, suc, ◌+◌, ◌<◌, List, [], ◌∷◌, ◌++◌, refl, sym, ap, ◌∙◌, arith}
use Rattle.std.specs.Prelude.{Bool, true, false, ◌||◌, if◌then◌else◌, length, slice_index_or}
use Rattle.std.specs.List.{AllByRecursion}
use Rattle.std.proofs.lemmas.List.{append-nil, length-append, length-map, length-take, length-replicate}
use Rattle.std.proofs.lemmas.List.{get_or-append-add}
use Rattle.items.specs.Texts.{padded_text}
use Rattle.source_tree.specs.declared.name.Name.{Name}
use Rattle.source_tree.specs.declared.entry.Entry.{Entry}
use Rattle.source_tree.specs.declared.select.Select.{Select}
use Rattle.source_tree.specs.declared.select.FileDescription.{FileDescription}
use Rattle.source_tree.specs.declared.program.Program.{Program}
use Rattle.source_tree.specs.Names.{same}
use Rattle.source_tree.specs.Levels.{Forest, End, Tree, forest_of}
use Rattle.source_tree.specs.Rooms.{redefines, area_length, area_lengths}
use Rattle.source_tree.specs.Clauses.{nothing_around}
use Rattle.source_tree.specs.Places.{LocatedItem, items_of}
use Rattle.source_tree.specs.Starts as starts
use Rattle.source_tree.specs.Starts.{areas_from, areas_at_start}
use Rattle.source_tree.specs.Records.{storage_areas, record_length, program_items, spaces_for, record_areas}
use Rattle.source_tree.specs.Records.{program_areas}
use Rattle.source_tree.specs.ProgramFiles.{DescribedFile, described_file, file_by, files_from, files_of}
use Rattle.source_tree.specs.SoundFiles.{HasRecordArea}
use Rattle.source_tree.specs.Broken.{each}
use Rattle.source_tree.specs.PerformRules.{is_among}
use Rattle.source_tree.specs.FileRules.{select_names, description_names, broken_match_rule, file_name_rules}
use Rattle.source_tree.specs.FileRules.{descriptions_rules, select_rules, program_file_rules}
use Rattle.source_tree.proofs.SoundFiles.{left_none, right_none, kept, names_matched}

-- ---- as many areas as working storage has

as_long : {A B : Type 0} (test : Bool) (x : A) (xs : List A) (y : B) (ys : List B) → length xs ≡ length ys
    → length (if test then xs else x ∷ xs) ≡ length (if test then ys else y ∷ ys)
as_long true x xs y ys e = e
as_long false x xs y ys e = ap suc e

count_areas : (forest : Forest) → length (areas_from forest) ≡ length (area_lengths forest)
count_areas End = refl
count_areas (Tree one conditions inner next) =
    as_long (redefines one)
    (padded_text (area_length one conditions inner next) (starts.start nothing_around (Tree one conditions inner End)))
    (areas_from next) (area_length one conditions inner next) (area_lengths next) (count_areas next)

-- ---- a record area

spaces_length : (n : ℕ) → length (padded_text n []) ≡ n
spaces_length n = grind (arith, length-append, length-take, length-replicate)

record Found (start : ℕ) (descriptions : List FileDescription) (there : DescribedFile) : Type 0 where
  place : ℕ
  area_is : there.area ≡ start + place
  low : place < length descriptions
  holds : length (slice_index_or (record_areas descriptions) place []) ≡ record_length there.entries

found_by : (start : ℕ) (name : Name) (one : FileDescription) (more : List FileDescription) (test : Bool)
    → (test || is_among name (description_names more)) ≡ true
    → (is_among name (description_names more) ≡ true → Found (start + 1) more (described_file (start + 1) name more))
    → Found start (one ∷ more)
    (if test then record { area = start; entries = one.entries } else described_file (start + 1) name more)
found_by start name one more true among rest =
    record { place = 0; area_is = omega arith; low = omega arith; holds = spaces_length (record_length one.entries) }
found_by start name one more false among rest =
    let behind = rest among in
    let at = behind.area_is in
    let below = behind.low in
    record { place = suc behind.place; area_is = omega arith; low = omega arith; holds = behind.holds }

found : (start : ℕ) (name : Name) (descriptions : List FileDescription)
    → is_among name (description_names descriptions) ≡ true
    → Found start descriptions (described_file start name descriptions)
found start name [] among = absurd cc
found start name (one ∷ more) among =
    found_by start name one more (same name one.name) among (λ rest. found (start + 1) name more rest)

module _ (items : List LocatedItem) (storage : List Entry) (descriptions : List FileDescription) where
  has_area : (number : ℕ) (one : Select) → is_among one.name (description_names descriptions) ≡ true
      → HasRecordArea (storage_areas storage) (areas_at_start storage ++ record_areas descriptions)
      (file_by items number one (described_file (storage_areas storage) one.name descriptions))
  has_area number one among =
      let there = described_file (storage_areas storage) one.name descriptions in
      let at = found (storage_areas storage) one.name descriptions among in
      let count : storage_areas storage ≡ length (areas_at_start storage) = sym (count_areas (forest_of storage)) in
      let place : there.area ≡ length (areas_at_start storage) + at.place =
      at.area_is ∙ ap (λ (n : ℕ). n + at.place) count in
      let low = at.low in
      let is = at.area_is in
      record {
        behind = omega arith;
        there = let total = length-append (areas_at_start storage) (record_areas descriptions) in let each_one =
            length-map descriptions spaces_for in omega arith;
        long = ap (λ (n : ℕ). length (slice_index_or (areas_at_start storage ++ record_areas descriptions) n [])) place
            ∙ ap (λ (bytes : List ℕ). length bytes)
            (get_or-append-add (areas_at_start storage) (record_areas descriptions) at.place []) ∙ at.holds;
      }

  have_areas : (number : ℕ) (selects : List Select)
      → each (broken_match_rule (description_names descriptions)) (select_names selects) ≡ []
      → AllByRecursion (HasRecordArea (storage_areas storage) (areas_at_start storage ++ record_areas descriptions))
      (files_from items (storage_areas storage) descriptions number selects)
  have_areas number [] e = tt
  have_areas number (one ∷ more) e = (
    has_area number one
        (kept (is_among one.name (description_names descriptions))
        57 one.name.place (left_none (broken_match_rule (description_names descriptions) one.name)
        (each (broken_match_rule (description_names descriptions)) (select_names more)) e)),
    have_areas (number + 1) more (right_none (broken_match_rule (description_names descriptions) one.name)
        (each (broken_match_rule (description_names descriptions)) (select_names more)) e),
  )

pub record_areas_there : (items : List LocatedItem) (program : Program) → program_file_rules items program ≡ []
    → AllByRecursion (HasRecordArea (storage_areas program.storage) (program_areas program)) (files_of items program)
record_areas_there items program e =
    let names = file_name_rules (select_names program.selects) (description_names program.files) in
    let entries = descriptions_rules program.storage program.files in
    let selects = each (select_rules items (storage_areas program.storage) program.files) program.selects in
    have_areas items program.storage program.files 0 program.selects (names_matched (select_names program.selects)
    (description_names program.files) (left_none names entries (left_none (names ++ entries) selects e)))

-- ---- programs without FDs and SELECTs

pub items_without_files : (program : Program) → program.files ≡ [] → program_items program ≡ items_of program.storage
items_without_files program e =
    ap (λ (files : List FileDescription). program_items (record program { files = files })) e
    ∙ append-nil (items_of program.storage)

pub areas_without_files : (program : Program) → program.files ≡ []
    → program_areas program ≡ areas_at_start program.storage
areas_without_files program e =
    ap (λ (files : List FileDescription). program_areas (record program { files = files })) e
    ∙ append-nil (areas_at_start program.storage)

pub rules_without_files : (items : List LocatedItem) (program : Program) → program.files ≡ [] → program.selects ≡ []
    → program_file_rules items program ≡ []
rules_without_files items program e f =
    ap (λ (files : List FileDescription). program_file_rules items (record program { files = files })) e
    ∙ ap (λ (selects : List Select). program_file_rules items (record program { files = []; selects = selects })) f
    ∙ nothing_broken program
  where
    nothing_broken : (program : Program) → program_file_rules items (record program { files = []; selects = [] }) ≡ []
    nothing_broken program = grind (arith)
