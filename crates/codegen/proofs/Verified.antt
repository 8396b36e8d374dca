-- A machine can run the code of a program that keeps the rules.
use Rattle.std.proofs.Common.{◌≡◌, ℕ, zero, suc, ◌+◌, ◌-◌, ◌*◌, ◌≤◌, ◌<◌, List, [], ◌∷◌, ◌++◌, length, map, Option}
use Rattle.std.proofs.Common.{Some}
use Rattle.std.proofs.Common.{None, refl, sym, ap, ◌∙◌, subst, ⊎_elim, inl, inr, arith, length-append}
use Rattle.std.specs.List.{AllByRecursion}
use Rattle.std.specs.Prelude.{◌⊎◌, Bool, true, slice_get, slice_index, slice_index_or}
use Rattle.std.proofs.lemmas.Option.{slice_get_within, slice_get-get_or, same_Some}
use Rattle.std.proofs.lemmas.List.{append-nil, length-map}
use Rattle.std.proofs.lemmas.List.Elements.{All-from_recursion, recursion_from_All}
use Rattle.picture.specs.declared.picture.Picture.{Picture}
use Rattle.items.specs.declared.item.Item.{Item}
use Rattle.perform_graph.specs.declared.performed.PerformedRange.{PerformedRange}
use Rattle.perform_graph.specs.Order.{IsRange, Decreases, rank_in, AreRanks}
use Rattle.source_tree.specs.declared.table.Dimension.{Dimension}
use Rattle.records.specs.Connector as connector
use Rattle.records.specs.FileStep.{entry_at, Suits}
use Rattle.source_tree.specs.declared.select.Select.{Select}
use Rattle.source_tree.specs.declared.program.Program.{Program}
use Rattle.source_tree.specs.declared.program.Section.{Section}
use Rattle.source_tree.specs.declared.program.Paragraph.{Paragraph}
use Rattle.source_tree.specs.Broken.{RuleBreach, each}
use Rattle.source_tree.specs.EntryRules.{entry_rules}
use Rattle.source_tree.specs.Places.{LocatedItem, items_of}
use Rattle.source_tree.specs.FileRules.{select_names, description_names, broken_match_rule, file_name_rules}
use Rattle.source_tree.specs.FileRules.{descriptions_rules, select_rules, program_file_rules}
use Rattle.source_tree.specs.ProgramFiles.{ProgramFile, entries_of}
use Rattle.source_tree.specs.Records.{storage_areas, program_items, program_areas}
use Rattle.source_tree.specs.SoundFiles.{IsSound, HasRecordArea}
use Rattle.source_tree.proofs.RecordAreas.{record_areas_there}
use Rattle.source_tree.proofs.SoundFiles as sound
use Rattle.source_tree.proofs.SoundFiles.{names_matched, sound_files}
use Rattle.source_tree.specs.PerformRules.{is_among, procedure_name_rules}
use Rattle.source_tree.specs.Procedures.{Range, paragraphs_or_one, paragraphs_in}
use Rattle.source_tree.specs.Recursion.{performed_by_program, HasOrder}
use Rattle.source_tree.specs.Rules.{paragraph_rules, section_rules, sections_rules, procedure_rules, all_permitted}
use Rattle.source_tree.specs.Rules.{program_rules}
use Rattle.source_tree.specs.Setting.{Scope, paragraphs, scope}
use Rattle.initial_storage.specs.Formed as formed
use Rattle.initial_storage.specs.Reach.{last_offset}
use Rattle.initial_storage.specs.Reach as reach
use Rattle.initial_storage.proofs.Areas.{small_areas, items_lie}
use Rattle.initial_storage.proofs.Formed.{all_formed}
use Rattle.initial_storage.proofs.Pictures.{some_bytes}
use Rattle.data_instructions.specs.declared.tables.DataItem.{DataItem}
use Rattle.data_instructions.specs.declared.tables.DataTables.{DataTables}
use Rattle.data_instructions.specs.declared.shape.Shape.{Shape}
use Rattle.data_instructions.specs.declared.gather.Gather.TheVariants as g
use Rattle.data_instructions.specs.declared.index.InspectionIndex.{InspectionIndex}
use Rattle.data_instructions.specs.declared.instruction.DataInstruction.{DataInstruction}
use Rattle.data_instructions.specs.declared.test.Test.TheVariants as t
use Rattle.data_instructions.specs.declared.instruction.DataInstruction.TheVariants as i
use Rattle.data_instructions.specs.Tables.{IsEditing, IsDataItem, IsInspection, IsTables}
use Rattle.data_instructions.specs.Codes.{data_item}
use Rattle.data_instructions.specs.Chains.{greatest, LiesWhole}
use Rattle.data_instructions.specs.Naming.{NamesEntries}
use Rattle.data_instructions.specs.Shapes.{empty, and_then, line_inspected, effect}
use Rattle.data_instructions.proofs.Known.{and_then_some, parts}
use Rattle.data_instructions.proofs.PartEntries.{part_in_order}
use Rattle.file_image.specs.declared.file.CodeFile.{CodeFile}
use Rattle.file_image.specs.Files as table
use Rattle.file_image.specs.Files.{places_of, NamesPlaces, IsCodeFile}
use Rattle.code_image.specs.declared.code.Code.{Code}
use Rattle.code_image.specs.declared.instruction.Instruction.{Instruction}
use Rattle.code_image.specs.declared.instruction.Instruction.TheVariants.{Tick, Show, Stop, Count, CountNumber, Turn}
use Rattle.code_image.specs.declared.instruction.Instruction.TheVariants.{Accept, Date, Branch, Jump, Join, Perform}
use Rattle.code_image.specs.declared.instruction.Instruction.TheVariants.{Back, File, TestStatus, Unheard, Data}
use Rattle.code_image.specs.Known.{known_after, known_along}
use Rattle.code_image.specs.Demands.{NamesData, NamesCounter, NamesParagraph, IsAddress, NamesFile, SuitsFile, StartsAt}
use Rattle.code_image.specs.Demands.{AllStart, performed_from, performed_by_code as performed_instructions}
use Rattle.code_image.specs.Demands.{HasOrder as HasOrderCode, IsVerified}
use Rattle.condition_codegen.specs.Fragments.{in_order}
use Rattle.statement_codegen.specs.FileCode.{sent_entry, code_file, code_files}
use Rattle.codegen.specs.Layout.{paragraph_fragment, section_fragment, end_fragment, storage_items, storage_code}
use Rattle.codegen.specs.Layout.{code_of}
use Rattle.codegen.proofs.Standing.{Stands, at_seam}
use Rattle.codegen.proofs.Flowing.{along_append, Flows}
use Rattle.codegen.proofs.CodeFiles.{every, each_at, kept_at, files_count, codes_count, file_there, all_numbered}
use Rattle.codegen.proofs.CodeFiles.{places_are, names_places, is_code_file, entries_are}
use Rattle.condition_codegen.proofs.ConditionValues.{AreFormed, descriptions_kept, each_description, conditions_formed}
use Rattle.codegen.proofs.FileTable.{file_of, file_at, NamesOne, clauses_named}
use Rattle.codegen.proofs.HasFiles.{IsFiled, HasFiles, IsNumbered}
use Rattle.codegen.proofs.SentItems.{IsInOrder, sent_is_item}
use Rattle.codegen.proofs.Inspections.{AreSized}
use Rattle.condition_codegen.proofs.Lists.{left_none, right_none, all_both}
use Rattle.condition_codegen.proofs.NewBytes.{all_at}
use Rattle.codegen.proofs.Fragments.{flat}
use Rattle.codegen.proofs.Straight.{IsSent, IsPartOf}
use Rattle.codegen.proofs.Leading.{all_weaker, more_counters, all_lead, both_lead, all_stay, Names}
use Rattle.codegen.proofs.Ranges.{EndsWithin, procedures_end}
use Rattle.codegen.proofs.Paragraphs.{IsSuitedAt, performed_append, starts_stay, start_at, starts_within, AreParagraphs}
use Rattle.codegen.proofs.Paragraphs.{paragraphs_lie}
use Rattle.codegen.proofs.Flows.{paragraphs_flows}

map_at : {A B : Type 0} (f : A → B) (xs : List A) (k : ℕ) (x : A) → slice_get xs k ≡ Some x
    → slice_get (map f xs) k ≡ Some (f x)
map_at f [] k x here = absurd cc
map_at f (y ∷ ys) zero x here = ap (λ z. Some (f z)) (same_Some y x here)
map_at f (y ∷ ys) (suc k) x here = map_at f ys k x here

-- what an entry of a mapped list comes from
mapped_from : {A B : Type 0} (f : A → B) (xs : List A) (k : ℕ) (y : B) → slice_get (map f xs) k ≡ Some y
    → (x : A) × (slice_get xs k ≡ Some x) × (f x ≡ y)
mapped_from f [] k y here = absurd cc
mapped_from f (x ∷ xs) zero y here = (x, refl, same_Some (f x) y here)
mapped_from f (x ∷ xs) (suc k) y here = mapped_from f xs k y here

-- ---- of two lists, one after the other

stays_at : {A : Type 0} (xs ys : List A) (k : ℕ) (x : A) → slice_get xs k ≡ Some x → slice_get (xs ++ ys) k ≡ Some x
stays_at [] ys k x here = absurd cc
stays_at (y ∷ xs) ys zero x here = here
stays_at (y ∷ xs) ys (suc k) x here = stays_at xs ys k x here

behind_at : {A : Type 0} (xs ys : List A) (j : ℕ) (x : A) → slice_get ys j ≡ Some x
    → slice_get (xs ++ ys) (length xs + j) ≡ Some x
behind_at [] ys j x here = let e : j ≡ 0 + j = omega arith in ap (slice_get ys) (sym e) ∙ here
behind_at (y ∷ xs) ys j x here =
    let e : length (y ∷ xs) + j ≡ suc (length xs + j) = omega arith in
    ap (slice_get (y ∷ (xs ++ ys))) e ∙ behind_at xs ys j x here

split_at : {A : Type 0} (xs ys : List A) (k : ℕ) (x : A) → slice_get (xs ++ ys) k ≡ Some x
    → (slice_get xs k ≡ Some x) ⊎ ((j : ℕ) × (slice_get ys j ≡ Some x))
split_at [] ys k x here = inr (k, here)
split_at (y ∷ xs) ys zero x here = inl here
split_at (y ∷ xs) ys (suc k) x here = split_at xs ys k x here

-- ---- entries that instructions name

-- The line has the texts of an inspection of the table.
inspection_there : (tables : DataTables) (index : InspectionIndex) (line after : ℕ)
    → line_inspected tables index line ≡ Some after → index.number < length tables.inspections
inspection_there tables index line after e =
    let found = and_then_some (slice_get tables.inspections index.number) _ after e in
    slice_get_within tables.inspections index.number found.0 found.1

named_by : (tables : DataTables) (one : DataInstruction) (s after : Shape) → effect tables one s ≡ Some after
    → NamesEntries tables one
named_by tables (i.Place item) s after e =
    let found =
    and_then_some (slice_get tables.items item.number) _ after.stacks (parts tables (i.Place item) s after e).0 in
    slice_get_within tables.items item.number found.0 found.1
named_by tables (i.Literal number) s after e =
    let found = and_then_some (slice_get tables.numbers number.number) _ after.stacks
    (parts tables (i.Literal number) s after e).0 in
    slice_get_within tables.numbers number.number found.0 found.1
named_by tables (i.TakeLiteral literal) s after e =
    let found = and_then_some (slice_get tables.senders literal.number) _ after.sender
    (parts tables (i.TakeLiteral literal) s after e).2 in
    slice_get_within tables.senders literal.number found.0 found.1
named_by tables (i.AppendLiteral text) s after e =
    let found =
    and_then_some (slice_get tables.texts text.number) _ after.line (parts tables (i.AppendLiteral text) s after e).1 in
    slice_get_within tables.texts text.number found.0 found.1
named_by tables (i.Index stride count) s after e = tt
named_by tables i.Push s after e = tt
named_by tables (i.Calculate one) s after e = tt
named_by tables (i.Store rounded keep) s after e = tt
named_by tables i.ClearTruth s after e = tt
named_by tables (i.Test (t.CompareLiteral one literal)) s after e =
    let found = and_then_some (slice_get tables.senders literal.number) _ after.sender
    (parts tables (i.Test (t.CompareLiteral one literal)) s after e).2 in
    slice_get_within tables.senders literal.number found.0 found.1
named_by tables (i.Test (t.OrEqual literal)) s after e =
    let found = and_then_some (slice_get tables.senders literal.number) _ after.sender
    (parts tables (i.Test (t.OrEqual literal)) s after e).2 in
    slice_get_within tables.senders literal.number found.0 found.1
named_by tables (i.Test (t.OrWithin first)) s after e =
    let front = and_then_some (slice_get tables.senders first.number) _ after.sender
    (parts tables (i.Test (t.OrWithin first)) s after e).2 in
    let found = and_then_some (slice_get tables.senders (first.number + 1)) _ after.sender front.2 in
    slice_get_within tables.senders (first.number + 1) found.0 found.1
named_by tables (i.Test (t.Compare one)) s after e = tt
named_by tables (i.Test (t.CompareNumbers one)) s after e = tt
named_by tables (i.Test (t.Class one)) s after e = tt
named_by tables (i.Test t.Invert) s after e = tt
named_by tables i.VoidIfTrue s after e = tt
named_by tables i.Take s after e = tt
named_by tables i.Move s after e = tt
named_by tables i.Append s after e = tt
named_by tables (i.Overlay text) s after e =
    let front =
    and_then_some (slice_get tables.texts text.number) _ after.stacks (parts tables (i.Overlay text) s after e).0 in
    let found = and_then_some (slice_get tables.texts (text.number + 1)) _ after.stacks front.2 in
    slice_get_within tables.texts (text.number + 1) found.0 found.1
named_by tables i.DropPlace s after e = tt
named_by tables (i.Gather g.Bytes) s after e = tt
named_by tables (i.Gather g.UpToPlace) s after e = tt
named_by tables (i.Gather (g.UpToText delimiter)) s after e =
    let found = and_then_some (slice_get tables.texts delimiter.number) _ after.stacks
    (parts tables (i.Gather (g.UpToText delimiter)) s after e).0 in
    slice_get_within tables.texts delimiter.number found.0 found.1
named_by tables (i.Gather (g.TextUpToPlace text)) s after e =
    let found = and_then_some (slice_get tables.texts text.number) _ after.stacks
    (parts tables (i.Gather (g.TextUpToPlace text)) s after e).0 in
    slice_get_within tables.texts text.number found.0 found.1
named_by tables (i.Gather g.Sized) s after e = tt
named_by tables (i.Gather g.Measured) s after e = tt
named_by tables (i.Part one) s after e = tt
named_by tables (i.String pointer) s after e = tt
named_by tables (i.Inspect inspection) s after e =
    inspection_there tables inspection s.line after.line (parts tables (i.Inspect inspection) s after e).1
named_by tables (i.Convert inspection) s after e =
    inspection_there tables inspection s.line after.line (parts tables (i.Convert inspection) s after e).1
named_by tables (i.InspectMeasured inspection numbers) s after e = inspection_there tables inspection s.line after.line
    (parts tables (i.InspectMeasured inspection numbers) s after e).1
named_by tables (i.ConvertMeasured inspection numbers) s after e = inspection_there tables inspection s.line after.line
    (parts tables (i.ConvertMeasured inspection numbers) s after e).1

named_after : (tables : DataTables) (one : Instruction) (s after : Shape) → known_after tables one s ≡ Some after
    → NamesData tables one
named_after tables (Data one) s after e = named_by tables one s after e
named_after tables (Tick line) s after e = tt
named_after tables Show s after e = tt
named_after tables Stop s after e = tt
named_after tables (Count counter turns) s after e = tt
named_after tables (CountNumber counter) s after e = tt
named_after tables (Turn counter to) s after e = tt
named_after tables Accept s after e = tt
named_after tables Date s after e = tt
named_after tables (Branch to) s after e = tt
named_after tables (Jump to) s after e = tt
named_after tables Join s after e = tt
named_after tables (Perform line first last) s after e = tt
named_after tables (Back paragraph) s after e = tt
named_after tables (File file verb) s after e = tt
named_after tables (TestStatus class) s after e = tt
named_after tables Unheard s after e = tt

named_along : (tables : DataTables) (all : List Instruction) (s last : Shape) → known_along tables all s ≡ Some last
    → AllByRecursion (NamesData tables) all
named_along tables [] s last e = tt
named_along tables (one ∷ more) s last e =
    let found = and_then_some (known_after tables one s) (known_along tables more) last e in
    (named_after tables one s found.0 found.1, named_along tables more found.0 last found.2)

-- ---- tables

same_editing : (item : Item) (editing : Option Picture) → formed.IsEditing item editing → IsEditing item editing
same_editing item None h = h
same_editing item (Some picture) h = h

same_offset : (offset : ℕ) (all : List Dimension) → greatest offset all ≡ last_offset offset all
same_offset offset [] = refl
same_offset offset (one ∷ more) = same_offset (offset + (one.count - 1) * one.stride) more

behind_first : (offset : ℕ) (all : List Dimension) → offset ≤ last_offset offset all
behind_first offset [] = omega arith
behind_first offset (one ∷ more) = let h = behind_first (offset + (one.count - 1) * one.stride) more in omega (arith, h)

lies_whole : (tables : DataTables) (one : LocatedItem) → reach.Lies tables.areas one → LiesWhole tables one
lies_whole tables one h =
    record { area = h.area; here = h.here; within = omega (arith, h.within, same_offset one.offset one.dimensions) }

is_data_item : (areas : List (List ℕ)) (one : LocatedItem) → formed.IsFormed one → reach.Lies areas one
    → IsDataItem areas (data_item one)
is_data_item areas one f h = record {
  form = f.form;
  editing = same_editing one.item one.editing f.editing;
  lies =
      record { area = h.area; here = h.here; within = omega (arith, h.within, behind_first one.offset one.dimensions) };
}

-- ---- the whole code

each_append : {A : Type 0} (rules : A → List RuleBreach) (xs ys : List A) → each rules xs ≡ [] → each rules ys ≡ []
    → each rules (xs ++ ys) ≡ []
each_append rules [] ys a b = b
each_append rules (x ∷ xs) ys a b =
    ap (λ l. l ++ each rules (xs ++ ys)) (left_none (rules x) (each rules xs) a)
    ∙ each_append rules xs ys (right_none (rules x) (each rules xs) a) b

-- a section without paragraphs has one without sentences
section_keeps : (scope : Scope) (permits : Range → Bool) (all : List Paragraph)
    → each (paragraph_rules scope permits) all ≡ []
    → each (paragraph_rules scope permits) (paragraphs_or_one all) ≡ []
section_keeps scope permits [] e = refl
section_keeps scope permits (one ∷ more) e = e

pub paragraphs_keep : (scope : Scope) (permits : Range → Bool) (sections : List Section)
    → each (section_rules scope permits) sections ≡ []
    → each (paragraph_rules scope permits) (paragraphs_in sections) ≡ []
paragraphs_keep scope permits [] e = refl
paragraphs_keep scope permits (one ∷ more) e =
    each_append (paragraph_rules scope permits) (paragraphs_or_one one.paragraphs) (paragraphs_in more)
    (section_keeps scope permits one.paragraphs
    (left_none (section_rules scope permits one) (each (section_rules scope permits) more) e))
    (paragraphs_keep scope permits more
    (right_none (section_rules scope permits one) (each (section_rules scope permits) more) e))

-- the entries, the files and the sections of a program that keeps the rules
module _ (program : Program) (keep : program_rules program ≡ []) where
  abbrev of_entries : List RuleBreach
  of_entries = entry_rules program.storage

  abbrev of_files : List RuleBreach
  of_files = program_file_rules (program_items program) program

  abbrev of_names : List RuleBreach
  of_names = procedure_name_rules program.sections

  abbrev of_sections : List RuleBreach
  of_sections = sections_rules (scope program) all_permitted program.sections

  pub sections_kept : sections_rules (scope program) all_permitted program.sections ≡ []
  sections_kept =
      right_none (of_entries ++ of_files ++ of_names) of_sections
      (left_none (of_entries ++ of_files ++ of_names ++ of_sections) (procedure_rules program) keep)

  front_kept : of_entries ++ of_files ≡ []
  front_kept =
      left_none (of_entries ++ of_files) of_names
      (left_none (of_entries ++ of_files ++ of_names) of_sections
      (left_none (of_entries ++ of_files ++ of_names ++ of_sections) (procedure_rules program) keep))

  pub entries_kept : entry_rules program.storage ≡ []
  entries_kept = left_none of_entries of_files front_kept

  pub files_kept : program_file_rules (program_items program) program ≡ []
  files_kept = right_none of_entries of_files front_kept

-- the rules of the names of files, of FDs and of SELECTs
module _ (items : List LocatedItem) (program : Program) (keep : program_file_rules items program ≡ []) where
  abbrev of_matches : List RuleBreach
  of_matches = file_name_rules (select_names program.selects) (description_names program.files)

  abbrev of_descriptions : List RuleBreach
  of_descriptions = descriptions_rules program.storage program.files

  abbrev of_selects : List RuleBreach
  of_selects = each (select_rules items (storage_areas program.storage) program.files) program.selects

  pub selects_kept : each (select_rules items (storage_areas program.storage) program.files) program.selects ≡ []
  selects_kept = right_none (of_matches ++ of_descriptions) of_selects keep

  matches_kept : each (broken_match_rule (description_names program.files)) (select_names program.selects) ≡ []
  matches_kept =
      names_matched (select_names program.selects) (description_names program.files)
      (left_none of_matches of_descriptions (left_none (of_matches ++ of_descriptions) of_selects keep))

  -- each SELECT has its FD
  pub is_described : (k : ℕ) (one : Select) → slice_get program.selects k ≡ Some one
      → is_among one.name (description_names program.files) ≡ true
  is_described k one here =
      sound.kept (is_among one.name (description_names program.files)) 57 one.name.place
      (kept_at (broken_match_rule (description_names program.files)) (select_names program.selects) k one.name
      matches_kept
      (map_at (λ (select : Select). select.name) program.selects k one here))

all_so : (all : List PerformedRange) → AllByRecursion (λ (one : PerformedRange). Unit {0}) all
all_so [] = tt
all_so (one ∷ more) = (tt, all_so more)

module _ (program : Program) (keep : program_rules program ≡ []) where
  abbrev found : Scope
  found = scope program

  abbrev items : List LocatedItem
  items = found.items

  abbrev code : Code
  code = code_of program

  abbrev storage : Code
  storage = storage_code program

  abbrev body : Code
  body = in_order (section_fragment found) program.sections storage

  -- the same, by paragraphs
  abbrev paragraphs_code : Code
  paragraphs_code = in_order (paragraph_fragment found) (paragraphs program) storage

  abbrev count : ℕ
  count = length (paragraphs program)

  abbrev files : List ProgramFile
  files = found.files

  abbrev areas : ℕ
  areas = storage_areas program.storage

  entries_keep : entry_rules program.storage ≡ []
  entries_keep = entries_kept program keep

  files_keep : program_file_rules items program ≡ []
  files_keep = files_kept program keep

  descriptions_keep : descriptions_rules program.storage program.files ≡ []
  descriptions_keep = descriptions_kept items program files_keep

  selects_keep : each (select_rules items areas program.files) program.selects ≡ []
  selects_keep = selects_kept items program files_keep

  -- its paragraphs keep the rules
  pub all_keep : each (paragraph_rules found all_permitted) (paragraphs program) ≡ []
  all_keep = paragraphs_keep found all_permitted program.sections (sections_kept program keep)

  -- procedures lie among its paragraphs
  pub within : AllByRecursion (EndsWithin count) found.procedures
  within = procedures_end count 0 program.sections (omega arith)

  pub items_sized : AreSized items
  items_sized n one here = some_bytes one.item
      (all_at formed.IsFormed items (all_formed program entries_keep descriptions_keep) n one here).form

  pub formed_conditions : AreFormed items
  formed_conditions = conditions_formed program entries_keep descriptions_keep

  pub numbered : AllByRecursion (IsNumbered files) files
  numbered = all_numbered items areas program.files program.selects

  pub is_flat : body ≡ paragraphs_code
  is_flat = flat found program.sections storage

  met : (P : PerformedRange → Type 0) → AllByRecursion P (performed_by_program program)
      → AreParagraphs items files count P count storage body
  met P q =
      subst (AreParagraphs items files count P count storage) (sym is_flat)
      (paragraphs_lie found count P all_permitted formed_conditions items_sized within numbered (paragraphs program)
      storage
      (record { ends = refl; front = inl refl }) (omega arith) all_keep q)

  -- the names of its parts
  names : Names items storage body
  names = (met (λ one. Unit {0}) (all_so (performed_by_program program))).names

  pub areas_are : code.tables.areas ≡ program_areas program
  areas_are =
      append-nil (program_areas program ++ body.tables.areas) ∙ ap (λ l. program_areas program ++ l) names.areas
      ∙ append-nil (program_areas program)

  -- those of the storage, and parts of items
  items_are : code.tables.items ≡ storage_items items files ++ body.tables.items
  items_are = append-nil (storage_items items files ++ body.tables.items)

  pub files_are : code.files ≡ code_files items program.selects files
  files_are =
      append-nil (code_files items program.selects files ++ body.files)
      ∙ ap (λ l. code_files items program.selects files ++ l) names.files
      ∙ append-nil (code_files items program.selects files)

  senders_are : code.tables.senders ≡ body.tables.senders
  senders_are = append-nil body.tables.senders

  inspections_are : code.tables.inspections ≡ body.tables.inspections
  inspections_are = append-nil body.tables.inspections

  -- one file for each SELECT
  pub files_counted : length code.files ≡ length program.selects
  files_counted = ap length files_are ∙ codes_count items areas program.files 0 program.selects

  -- an item of the storage stays where it is
  storage_entry : (n : ℕ) (one : DataItem) → slice_get (storage_items items files) n ≡ Some one
      → slice_get code.tables.items n ≡ Some one
  storage_entry n one here =
      ap (λ l. slice_get l n) items_are ∙ stays_at (storage_items items files) body.tables.items n one here

  pub item_entries : (n : ℕ) (one : LocatedItem) → slice_get items n ≡ Some one
      → slice_get code.tables.items n ≡ Some (data_item one)
  item_entries n one here =
      storage_entry n (data_item one) (stays_at (map data_item items) (map (sent_entry items) files) n (data_item one)
      (map_at data_item items n one here))

  item_lies : (n : ℕ) (one : LocatedItem) → slice_get items n ≡ Some one → reach.Lies code.tables.areas one
  item_lies n one here =
      subst (λ all. reach.Lies all one) (sym areas_are)
      (all_at (reach.Lies (program_areas program)) items (items_lie program entries_keep descriptions_keep) n one here)

  item_in_order : (n : ℕ) (one : LocatedItem) → slice_get items n ≡ Some one → IsInOrder code.tables.areas items one
  item_in_order n one here =
      is_data_item code.tables.areas one
      (all_at formed.IsFormed items (all_formed program entries_keep descriptions_keep) n one here)
      (item_lies n one here)

  -- ---- files

  -- the area of a file's records
  record_area : (k : ℕ) (file : ProgramFile) → slice_get files k ≡ Some file
      → HasRecordArea areas code.tables.areas file
  record_area k file here =
      subst (λ all. HasRecordArea areas all file) (sym areas_are)
      (each_at (HasRecordArea areas (program_areas program)) files (record_areas_there items program files_keep) k file
      here)

  sent_in_order : (k : ℕ) (file : ProgramFile) → slice_get files k ≡ Some file
      → IsDataItem code.tables.areas (sent_entry items file)
  sent_in_order k file here =
      let at = file_at items areas program.files 0 program.selects k file here in
      let one : ProgramFile = file_of items areas program.files (0 + k) at.select in
      let area : HasRecordArea areas code.tables.areas one =
      subst (HasRecordArea areas code.tables.areas) at.is (record_area k file here) in
      subst (λ (f : ProgramFile). IsDataItem code.tables.areas (sent_entry items f)) (sym at.is)
      (sent_is_item code.tables.areas items (items_of program.storage) areas program.files at.select.name one refl
      (is_described items program files_keep k at.select at.here) (each_description program descriptions_keep)
      (every (IsInOrder code.tables.areas items) items item_in_order) refl refl area.there area.long)

  all_filed : (k : ℕ) (file : ProgramFile) → slice_get files k ≡ Some file → IsFiled code items file
  all_filed k file here =
      let at = file_at items areas program.files 0 program.selects k file here in
      let number : file.places.number ≡ 0 + k = ap (λ (f : ProgramFile). f.places.number) at.is in
      let same : k ≡ file.places.number = omega (arith, number) in
      let one = file_of items areas program.files (0 + k) at.select in
      let named = clauses_named items areas program.files at.select
      (kept_at (select_rules items areas program.files) program.selects k at.select selects_keep at.here) in
      let zero_is : 0 + k ≡ k = omega arith in
      record {
        code = code_file items at.select file;
        here = ap (slice_get code.files) (sym same) ∙ ap (λ l. slice_get l k) files_are ∙ at.code;
        places = ap (λ (n : ℕ). places_of code.tables n (code_file items at.select file)) number
            ∙ ap (λ (f : ProgramFile). places_of code.tables (0 + k) (code_file items at.select f)) at.is
            ∙ places_are items areas program.files code.tables item_entries (0 + k) at.select named
            ∙ sym (ap (λ (f : ProgramFile). f.places) at.is);
        sent = ap (λ (n : ℕ). slice_get code.tables.items (length items + n)) (sym same)
            ∙ storage_entry (length items + k) (sent_entry items file)
            (ap (λ (n : ℕ). slice_get (storage_items items files) (n + k)) (sym (length-map items data_item))
            ∙ behind_at (map data_item items) (map (sent_entry items) files) k (sent_entry items file)
            (map_at (sent_entry items) files k file here));
      }

  -- The table of files has the entries of the program's files.
  pub entries_same : table.entries_of code.tables code.files ≡ entries_of files
  entries_same =
      ap (table.entries_of code.tables) files_are
      ∙ entries_are items areas program.files code.tables item_entries program.selects selects_keep

  pub has_files : HasFiles code found
  has_files = record { entries = entries_same; each = every (IsFiled code items) files all_filed }

  -- one entry of the table of files
  pub record OfFile (k : ℕ) (one : CodeFile) : Type 0 where
    pub file : ProgramFile
    pub there : slice_get files k ≡ Some file
    pub select : Select
    pub selected : slice_get program.selects k ≡ Some select
    pub file_is : file ≡ file_of items areas program.files (0 + k) select
    pub is : one ≡ code_file items select (file_of items areas program.files (0 + k) select)

  of_file : (k : ℕ) (one : CodeFile) → slice_get code.files k ≡ Some one → OfFile k one
  of_file k one here =
      let listed : slice_get (code_files items program.selects files) k ≡ Some one =
      sym (ap (λ l. slice_get l k) files_are) ∙ here in
      let found_file = file_there items areas program.files 0 program.selects k one listed in
      let at = file_at items areas program.files 0 program.selects k found_file.0 found_file.1 in
      record {
        file = found_file.0;
        there = found_file.1;
        select = at.select;
        selected = at.here;
        file_is = at.is;
        is = same_Some one (code_file items at.select found_file.0) (sym listed ∙ at.code)
            ∙ ap (code_file items at.select) at.is;
      }

  abbrev names_of : (select : Select) → (k : ℕ) → slice_get program.selects k ≡ Some select
      → NamesOne items select.relative_key × NamesOne items select.status
  names_of select k here =
      clauses_named items areas program.files select
      (kept_at (select_rules items areas program.files) program.selects k select selects_keep here)

  file_names : (k : ℕ) (one : CodeFile) → slice_get code.files k ≡ Some one → NamesPlaces code.tables one
  file_names k one here =
      let of = of_file k one here in
      let file = file_of items areas program.files (0 + k) of.select in
      let area : HasRecordArea areas code.tables.areas file =
      subst (HasRecordArea areas code.tables.areas) of.file_is (record_area k of.file of.there) in
      subst (NamesPlaces code.tables) (sym of.is)
      (names_places items areas program.files code.tables item_entries (0 + k) of.select
      (names_of of.select k of.selected) area.there)

  file_sound : (k : ℕ) (one : CodeFile) → slice_get code.files k ≡ Some one → IsCodeFile code.tables one
  file_sound k one here =
      let of = of_file k one here in
      let file = file_of items areas program.files (0 + k) of.select in
      let area : HasRecordArea areas code.tables.areas file =
      subst (HasRecordArea areas code.tables.areas) of.file_is (record_area k of.file of.there) in
      let sound : IsSound areas file = subst (IsSound areas) of.file_is
      (each_at (IsSound areas) files (sound_files items program files_keep) k of.file of.there) in
      subst (IsCodeFile code.tables) (sym of.is)
      (is_code_file items areas program.files code.tables item_entries (0 + k) of.select
      (names_of of.select k of.selected) sound
      (slice_index_or code.tables.areas file.places.area [])
      (slice_get-get_or code.tables.areas file.places.area [] area.there) area.long)

  -- ---- the tables

  storage_so : (k : ℕ) (one : DataItem) → slice_get (storage_items items files) k ≡ Some one
      → IsDataItem code.tables.areas one
  storage_so k one here =
      ⊎_elim (λ first. let from = mapped_from data_item items k one first in
      subst (IsDataItem code.tables.areas) from.2 (item_in_order k from.0 from.1))
      (λ last. let from = mapped_from (sent_entry items) files last.0 one last.1 in
      subst (IsDataItem code.tables.areas) from.2 (sent_in_order last.0 from.0 from.1))
      (split_at (map data_item items) (map (sent_entry items) files) k one here)

  pub lies : (n : ℕ) (one : LocatedItem) → slice_get items n ≡ Some one → LiesWhole code.tables one
  lies n one here = lies_whole code.tables one (item_lies n one here)

  part_so : (one : DataItem) → IsPartOf items one → IsDataItem code.tables.areas one
  part_so one of =
      subst (IsDataItem code.tables.areas) (sym of.is)
      (part_in_order code.tables of.found (Some of.part) (item_in_order of.number of.found of.here)
      (lies of.number of.found of.here))

  item_so : (k : ℕ) (one : DataItem) → slice_get code.tables.items k ≡ Some one → IsDataItem code.tables.areas one
  item_so k one here =
      ⊎_elim (λ first. storage_so k one first)
      (λ last. part_so one (each_at (IsPartOf items) body.tables.items names.entries last.0 one last.1))
      (split_at (storage_items items files) body.tables.items k one (sym (ap (λ l. slice_get l k) items_are) ∙ here))

  pub order : IsTables code.tables
  order = record {
    areas = λ k area here.
        small_areas program entries_keep descriptions_keep k area (sym (ap (λ l. slice_get l k) areas_are) ∙ here);
    items = item_so;
    senders = λ k one here.
        each_at IsSent body.tables.senders names.senders k one (sym (ap (λ l. slice_get l k) senders_are) ∙ here);
    inspections = λ k one here.
        each_at IsInspection body.tables.inspections names.inspections k one
        (sym (ap (λ l. slice_get l k) inspections_are) ∙ here);
  }

  stands : Stands code storage paragraphs_code
  stands = subst (Stands code storage) is_flat (record { rest = end_fragment; is = refl })

  finds : known_along code.tables code.instructions empty ≡ Some empty
  finds =
      let flows = paragraphs_flows found all_permitted code has_files item_entries order lies (paragraphs program)
      storage all_keep stands in
      let flow = (subst (Flows code.tables) (sym is_flat) flows).by None in
      along_append code.tables body.instructions (Stop ∷ []) empty
      ∙ ap (λ o. and_then o (known_along code.tables (Stop ∷ []))) flow.1

  starts_are : code.starts ≡ body.starts
  starts_are = append-nil body.starts

  module _ (ordered : HasOrder program) where
    abbrev all_heights : List ℕ
    all_heights = ordered.0

    lying : AreParagraphs items files count (Decreases (rank_in all_heights)) count storage body
    lying = met (Decreases (rank_in all_heights))
        (recursion_from_All (Decreases (rank_in all_heights)) (performed_by_program program) ordered.1.fall)

    so_many : length code.starts ≡ count
    so_many = ap length starts_are ∙ lying.many_are

    performs_are : performed_instructions code.instructions ≡ performed_from 0 body.instructions
    performs_are = performed_append 0 body.instructions (Stop ∷ []) ∙ append-nil (performed_from 0 body.instructions)

    in_order_all : HasOrderCode code
    in_order_all = record {
      ranges = All-from_recursion (IsRange (length code.starts)) (performed_instructions code.instructions)
          (subst (λ n. AllByRecursion (IsRange n) (performed_instructions code.instructions)) (sym so_many)
          (subst (AllByRecursion (IsRange count)) (sym performs_are) lying.ranges));
      heights = all_heights;
      fall = subst (λ n. AreRanks n (performed_instructions code.instructions) all_heights) (sym so_many) (record {
        one_each = ordered.1.one_each;
        below = ordered.1.below;
        fall = All-from_recursion (Decreases (rank_in all_heights)) (performed_instructions code.instructions)
            (subst (AllByRecursion (Decreases (rank_in all_heights))) (sym performs_are) lying.performed);
      });
    }

    starts_lie : AllStart code
    starts_lie = λ number lt.
        let same = ap length starts_are in
        let lying_there = start_at code.instructions 0 body.starts
        (starts_stay body.instructions (Stop ∷ []) 0 body.starts lying.starts) number
        (omega (arith, lt, same)) in
        let e : 0 + number ≡ number = omega arith in
        subst (StartsAt code.instructions number) (ap (λ l. slice_index l number) (sym starts_are))
        (subst (λ n. StartsAt code.instructions n (slice_index body.starts number)) e lying_there)

    names_file : (one : Instruction) → IsSuitedAt files one → NamesFile (length code.files) one
    names_file (File file verb) h =
        let within = h.within in
        omega (
          arith,
          within,
          ap length files_are,
          codes_count items areas program.files 0 program.selects,
          files_count items areas program.files 0 program.selects,
        )
    names_file (Tick line) h = tt
    names_file Show h = tt
    names_file Stop h = tt
    names_file (Count counter turns) h = tt
    names_file (CountNumber counter) h = tt
    names_file (Turn counter to) h = tt
    names_file Accept h = tt
    names_file Date h = tt
    names_file (Branch to) h = tt
    names_file (Jump to) h = tt
    names_file Join h = tt
    names_file (Perform line first last) h = tt
    names_file (Back paragraph) h = tt
    names_file (TestStatus class) h = tt
    names_file Unheard h = tt
    names_file (Data one) h = tt

    suits_file : (one : Instruction) → IsSuitedAt files one → SuitsFile (table.entries_of code.tables code.files) one
    suits_file (File file verb) h =
        subst (λ (all : List connector.Entry). Suits (entry_at all file.number) verb) (sym entries_same) h.suits
    suits_file (Tick line) h = tt
    suits_file Show h = tt
    suits_file Stop h = tt
    suits_file (Count counter turns) h = tt
    suits_file (CountNumber counter) h = tt
    suits_file (Turn counter to) h = tt
    suits_file Accept h = tt
    suits_file Date h = tt
    suits_file (Branch to) h = tt
    suits_file (Jump to) h = tt
    suits_file Join h = tt
    suits_file (Perform line first last) h = tt
    suits_file (Back paragraph) h = tt
    suits_file (TestStatus class) h = tt
    suits_file Unheard h = tt
    suits_file (Data one) h = tt

    pub verified : IsVerified code
    verified =
        let n = length-append body.instructions (Stop ∷ []) in
        let one : length (Stop ∷ []) ≡ 1 = refl in
        let at_end : length code.instructions - 1 ≡ length body.instructions = omega (arith, n, one) in
        record {
          tables = order;
          within = record {
            entries = All-from_recursion (NamesData code.tables) code.instructions
                (named_along code.tables code.instructions empty empty finds);
            counters = All-from_recursion (NamesCounter (length code.instructions)) code.instructions
                (all_both (NamesCounter (length code.instructions)) body.instructions (Stop ∷ [])
                (all_weaker (NamesCounter (0 + length body.instructions)) (NamesCounter (length code.instructions))
                (λ one h. more_counters _ _ one (omega (arith, n)) h) body.instructions names.counters) (tt, tt));
            paragraphs = All-from_recursion (NamesParagraph (length code.starts)) code.instructions
                (subst (λ k. AllByRecursion (NamesParagraph k) code.instructions) (sym so_many)
                (all_both (NamesParagraph count) body.instructions (Stop ∷ []) lying.paragraphs (tt, tt)));
            files = All-from_recursion (NamesFile (length code.files)) code.instructions
                (all_both (NamesFile (length code.files)) body.instructions (Stop ∷ [])
                (all_weaker (IsSuitedAt files) (NamesFile (length code.files)) names_file body.instructions
                lying.suited) (tt, tt));
            places = All-from_recursion (NamesPlaces code.tables) code.files
                (every (NamesPlaces code.tables) code.files file_names);
            starts = All-from_recursion (IsAddress (length code.instructions)) code.starts
                (subst (AllByRecursion (IsAddress (length code.instructions))) (sym starts_are)
                (all_weaker (λ start. start ≤ length body.instructions) (IsAddress (length code.instructions))
                (λ start h. omega (arith, n, one, h)) body.starts
                (starts_within body.instructions 0 body.starts lying.starts)));
          };
          shape = record {
            leads = all_lead code.instructions
                (both_lead code.instructions 0 body.instructions (Stop ∷ [])
                (all_stay body.instructions (Stop ∷ []) 0 body.instructions (omega arith) lying.leads) (tt, tt));
            starts = starts_lie;
            order = in_order_all;
            stops = ap (slice_get code.instructions) at_end ∙ at_seam body.instructions Stop [];
            finds = record { last = empty; along = finds };
            files = record {
              sound = All-from_recursion (IsCodeFile code.tables) code.files
                  (every (IsCodeFile code.tables) code.files file_sound);
              suit = All-from_recursion (SuitsFile (table.entries_of code.tables code.files)) code.instructions
                  (all_both (SuitsFile (table.entries_of code.tables code.files)) body.instructions (Stop ∷ [])
                  (all_weaker (IsSuitedAt files) (SuitsFile (table.entries_of code.tables code.files)) suits_file
                  body.instructions lying.suited) (tt, tt));
            };
          };
        }
