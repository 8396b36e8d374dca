-- The table of files, and the code of file statements without the statements in their phrases (own choice).
use Rattle.std.specs.Prelude.{ℕ, ◌+◌, ◌==◌, ◌&&◌, Bool, true, false, filter, List, [], ◌∷◌, length, Option, Some, None}
use Rattle.std.specs.Option.{option_map}
use Rattle.picture.specs.declared.picture.Picture.{Picture}
use Rattle.items.specs.declared.item.Kind.{Kind}
use Rattle.items.specs.declared.item.Kind.TheVariants as kind
use Rattle.records.specs.declared.verb.Verb.{Verb}
use Rattle.source_tree.specs.declared.reference.Reference.{Reference}
use Rattle.source_tree.specs.declared.expression.Operand.TheVariants as operand
use Rattle.source_tree.specs.declared.name.Name.{Name}
use Rattle.source_tree.specs.declared.select.Select.{Select}
use Rattle.source_tree.specs.LookUp.{items_named, first}
use Rattle.source_tree.specs.Places.{LocatedItem}
use Rattle.source_tree.specs.ProgramFiles.{ProgramFile, files_named}
use Rattle.source_tree.specs.References.{ItemPlace}
use Rattle.source_tree.specs.Filing.{file_with_record}
use Rattle.data_instructions.specs.declared.index.ItemIndex.{ItemIndex}
use Rattle.data_instructions.specs.declared.tables.DataItem.{DataItem}
use Rattle.data_instructions.specs.declared.instruction.DataInstruction.TheVariants as i
use Rattle.file_image.specs.declared.class.StatusClass.{StatusClass}
use Rattle.file_image.specs.declared.file.CodeFile.{CodeFile}
use Rattle.code_image.specs.declared.instruction.Instruction.TheVariants.{File, TestStatus, Unheard}
use Rattle.file_descriptions.specs.Clauses.{clause_number}
use Rattle.condition_codegen.specs.Fragments.{Fragment, sequence, plain_code}
use Rattle.condition_codegen.specs.Meeting.{nothing_fragment}
use Rattle.condition_codegen.specs.DataCode.{works_fragment, receivers_fragment, move_fragment}

-- ---- the table of files

-- the only item that a clause names
abbrev pub index_at : ℕ → ItemIndex
index_at number = record { number = number }

abbrev pub clause_index : List LocatedItem → Option Reference → Option ItemIndex
clause_index items one = option_map index_at (clause_number items one)

abbrev pub code_file : List LocatedItem → Select → ProgramFile → CodeFile
code_file items select file = record {
  name = file.entry.name;
  organization = file.entry.spec.organization;
  record_length = file.entry.spec.record_length;
  alternates = file.entry.spec.alternates;
  access = file.entry.access;
  optional = file.entry.optional;
  area = file.places.area;
  relative_key = clause_index items select.relative_key;
  status = clause_index items select.status;
}

-- those of SELECTs
abbrev pub code_files : List LocatedItem → List Select → List ProgramFile → List CodeFile
code_files items (select ∷ selects) (file ∷ files) = code_file items select file ∷ code_files items selects files
code_files items selects files = []

-- ---- what READ INTO sends: one entry for each file, after the items

abbrev pub edited_alike : Kind → Kind → Bool
edited_alike kind.AlphanumericEdited kind.AlphanumericEdited = true
edited_alike (kind.NumericEdited true) (kind.NumericEdited true) = true
edited_alike (kind.NumericEdited false) (kind.NumericEdited false) = true
edited_alike one other = false

-- an item of the record area that is edited, as what is sent is
abbrev pub edits : ProgramFile → LocatedItem → Bool
edits file one = (one.area == file.places.area) && edited_alike one.item.kind file.sent.kind && (one.item.length == file.sent.length)

abbrev pub editing_in : Option LocatedItem → Option Picture
editing_in None = None
editing_in (Some one) = one.editing

abbrev pub sent_entry : List LocatedItem → ProgramFile → DataItem
sent_entry items file =
    record { item = file.sent; editing = editing_in (first (filter (edits file) items)); area = file.places.area; offset = 0 }

abbrev pub sent_index : List LocatedItem → ProgramFile → ItemIndex
sent_index items file = record { number = length items + file.places.number }

-- ---- file statements

abbrev pub file_fragment : Verb → ProgramFile → Fragment
file_fragment verb file before = plain_code (File (record { number = file.places.number }) verb ∷ [])

abbrev pub test_fragment : StatusClass → Fragment
test_fragment class before = plain_code (TestStatus class ∷ [])

-- what comes of a status that nothing takes, by the item of FILE STATUS
abbrev pub unheard_fragment : Option ItemPlace → Fragment
unheard_fragment (Some status) = nothing_fragment
unheard_fragment None = λ before. plain_code (Unheard ∷ [])

-- a file, if there is one
abbrev pub on_file_fragment : Option ProgramFile → (ProgramFile → Fragment) → Fragment
on_file_fragment None piece = nothing_fragment
on_file_fragment (Some file) piece = piece file

-- `items` are those of the table of items, in order.
module _ (items : List LocatedItem) where
  -- READ INTO: the record is taken, and moved.
  abbrev pub into_fragment : Option Reference → ProgramFile → Fragment
  into_fragment None file = nothing_fragment
  into_fragment (Some into) file = sequence (works_fragment (i.Place (sent_index items file) ∷ i.Take ∷ [])) (receivers_fragment items (into ∷ []))

  -- FROM of WRITE and REWRITE
  abbrev pub from_fragment : Reference → Option Reference → Fragment
  from_fragment to None = nothing_fragment
  from_fragment to (Some from) = move_fragment items (operand.Item from) (to ∷ [])

  module _ (files : List ProgramFile) where
    abbrev pub on_name_fragment : Name → (ProgramFile → Fragment) → Fragment
    on_name_fragment name piece = on_file_fragment (first (files_named files name)) piece

    abbrev pub on_record_fragment : Reference → (ProgramFile → Fragment) → Fragment
    on_record_fragment one piece = on_file_fragment (file_with_record files (first (items_named items one.item))) piece
