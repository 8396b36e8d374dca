-- What `layout` shows of a program: a line for each item, and a line for each file before the items of its records.
use Rattle.std.specs.Prelude.{◌≡◌, ℕ, ◌-◌, if◌then◌else◌, ⊤, Vec, Result, Ok, Err, List, [], ◌∷◌, ◌++◌, Option, None, Some, codes, decimal, length, map, replicate}
use Rattle.std.specs.List.{flat_map}
use Rattle.std.specs.declared.alloc.Global.{Global}
use Rattle.items.specs.declared.item.Kind.{Kind}
use Rattle.items.specs.declared.item.Kind.TheVariants as kind
use Rattle.items.specs.declared.usage.Usage.{Usage}
use Rattle.items.specs.declared.usage.Usage.TheVariants as usage
use Rattle.records.specs.declared.file_spec.KeyPlace.{KeyPlace}
use Rattle.records.specs.declared.file_spec.AlternateKey.{AlternateKey}
use Rattle.records.specs.declared.file_spec.Organization.{Organization}
use Rattle.records.specs.declared.file_spec.Organization.TheVariants as organization
use Rattle.source_tree.specs.declared.name.Name.{Name}
use Rattle.source_tree.specs.declared.table.Dimension.{Dimension}
use Rattle.source_tree.specs.declared.entry.PictureText.{PictureText}
use Rattle.source_tree.specs.declared.entry.ItemEntry.{ItemEntry}
use Rattle.source_tree.specs.declared.entry.Entry.{Entry}
use Rattle.source_tree.specs.declared.select.Select.{Select}
use Rattle.source_tree.specs.declared.select.FileDescription.{FileDescription}
use Rattle.source_tree.specs.declared.program.Program.{Program}
use Rattle.source_tree.specs.LookUp.{first}
use Rattle.source_tree.specs.Places.{LocatedItem, items_of}
use Rattle.source_tree.specs.ProgramFiles.{ProgramFile, files_from, files_named}
use Rattle.source_tree.specs.Records.{storage_areas, file_places}
use Rattle.layout.specs.declared.placed.PlacedItem.{PlacedItem}
use Rattle.layout.specs.Placing.{placed_item}
use Rattle.declarations.specs.Entries.{items_among}
use Rattle.compiler.specs.declared.fault.CompileError.{CompileError}
use Rattle.compiler.specs.declared.fault.CompileError.TheVariants.{Memory, Refused}
use Rattle.source_commands.specs.Report.{line_feed}

abbrev pub heading : List ℕ
heading = codes "level name                            offset  length  usage    picture\n"

-- ---- columns

abbrev pub at_left : ℕ → List ℕ → List ℕ
at_left width text = text ++ replicate (width - length text) 32

abbrev pub at_right : ℕ → ℕ → List ℕ
at_right width number = replicate (width - length (decimal number)) 32 ++ decimal number

-- ---- the line of an item

abbrev pub name_text : Option Name → List ℕ
name_text None = codes "FILLER"
name_text (Some name) = name.characters

abbrev pub usage_text : Usage → List ℕ
usage_text (usage.Display sign) = codes "display"
usage_text (usage.Binary signed) = codes "comp"
usage_text (usage.Packed signed) = codes "comp-3"

abbrev pub kind_text : Kind → List ℕ
kind_text kind.Group = codes "group"
kind_text (kind.Alphabetic justified) = codes "display"
kind_text (kind.Alphanumeric justified) = codes "display"
kind_text kind.AlphanumericEdited = codes "display"
kind_text (kind.NumericEdited blank_when_zero) = codes "display"
kind_text (kind.Numeric numeric) = usage_text numeric.usage

abbrev pub form_text : List ℕ → Option PictureText → List ℕ
form_text usage None = usage
form_text usage (Some picture) = at_left 9 usage ++ picture.characters

-- how many elements a table has, and the bytes from one to the next
abbrev pub dimension_text : Dimension → List ℕ
dimension_text one = codes " occurs " ++ decimal one.count ++ codes " stride " ++ decimal one.stride

abbrev pub redefined_text : Option Name → List ℕ
redefined_text None = []
redefined_text (Some name) = codes " redefines " ++ name.characters

-- The entry has the level, the name, the picture and REDEFINES; the layout has the place, the length and the tables.
abbrev pub item_line : PlacedItem → ItemEntry → List ℕ
item_line item entry =
    at_left 6 entry.level.digits ++ at_left 30 (name_text entry.name) ++ at_right 8 item.offset
    ++ at_right 8 item.item.length ++ codes "  " ++ form_text (kind_text item.item.kind) entry.picture
    ++ flat_map dimension_text item.dimensions ++ redefined_text entry.redefines ++ line_feed ∷ []

-- The lines of entries, of which each has its item in this order.
abbrev pub item_lines : List PlacedItem → List ItemEntry → List ℕ
item_lines [] entries = []
item_lines (item ∷ items) [] = []
item_lines (item ∷ items) (entry ∷ entries) = item_line item entry ++ item_lines items entries

-- the items after those of these entries
abbrev pub items_after : List PlacedItem → List ItemEntry → List PlacedItem
items_after [] entries = []
items_after (item ∷ items) [] = item ∷ items
items_after (item ∷ items) (entry ∷ entries) = items_after items entries

-- ---- the line of a file

abbrev pub organization_text : Organization → List ℕ
organization_text organization.Sequential = codes " sequential record "
organization_text organization.Relative = codes " relative record "
organization_text (organization.Indexed key) = codes " indexed record "

-- its first byte, counted from 0, and how many
abbrev pub key_text : List ℕ → KeyPlace → List ℕ
key_text word key = word ++ codes " offset " ++ decimal key.offset ++ codes " length " ++ decimal key.length

abbrev pub prime_key_text : Organization → List ℕ
prime_key_text organization.Sequential = []
prime_key_text organization.Relative = []
prime_key_text (organization.Indexed key) = key_text (codes " key") key

abbrev pub alternate_text : AlternateKey → List ℕ
alternate_text one = key_text (codes " alternate key") one.place ++ (if one.duplicates then codes " duplicates" else [])

abbrev pub assigned_text : List ℕ → List ℕ
assigned_text name = codes " as " ++ name

abbrev pub record_text : Organization → ℕ → List ℕ
record_text kind size = organization_text kind ++ decimal size

-- the name on the volume, the organization, the bytes of a record, and the keys
abbrev pub volume_text : List ℕ → Organization → ℕ → List AlternateKey → List ℕ
volume_text name kind size alternates =
    assigned_text name ++ record_text kind size ++ prime_key_text kind ++ flat_map alternate_text alternates

abbrev pub described_text : Option ProgramFile → List ℕ
described_text None = []
described_text (Some file) =
    volume_text file.entry.name file.entry.spec.organization file.entry.spec.record_length file.entry.spec.alternates

abbrev pub file_line : Name → Option ProgramFile → List ℕ
file_line name file = codes "file " ++ name.characters ++ described_text file ++ line_feed ∷ []

-- The files of FDs, each with the items of its records, among these files and items.
abbrev pub file_lines : List ProgramFile → List PlacedItem → List FileDescription → List ℕ
file_lines files items [] = []
file_lines files items (one ∷ more) =
    file_line one.name (first (files_named files one.name)) ++ item_lines items (items_among one.entries)
    ++ file_lines files (items_after items (items_among one.entries)) more

-- ---- the whole program

abbrev pub declared_items : List FileDescription → List Entry → List LocatedItem
declared_items files storage = items_of storage ++ file_places (storage_areas storage) files

abbrev pub declared_files : List Select → List FileDescription → List Entry → List ProgramFile
declared_files selects files storage = files_from (declared_items files storage) (storage_areas storage) files 0 selects

-- what is shown of a data division with these SELECTs
abbrev pub data_text : List Select → List FileDescription → List Entry → List ℕ
data_text selects files storage =
    let items : List PlacedItem = map placed_item (declared_items files storage) in
    heading ++ item_lines items (items_among storage)
    ++ file_lines (declared_files selects files storage) (items_after items (items_among storage)) files

abbrev pub layout_text : Program → List ℕ
layout_text tree = data_text tree.selects tree.files tree.storage

-- What may be answered of a source text with this tree: its table, or that memory ran out.
abbrev pub IsLayoutAnswer : Program → Result (Vec ℕ Global) CompileError → Type 0
IsLayoutAnswer tree (Ok text) = text.items ≡ layout_text tree
IsLayoutAnswer tree (Err Memory) = ⊤
IsLayoutAnswer tree (Err (Refused fault)) = ⊥
