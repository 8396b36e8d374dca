-- The tables of data that code names, in an image (own choice).
use Rattle.std.specs.Prelude.{ℕ, List, ◌++◌, Ok}
use Rattle.data_instructions.specs.declared.tables.DataItem.{DataItem}
use Rattle.data_instructions.specs.declared.tables.DataTables.{DataTables}
use Rattle.data_image.specs.Spelling.{short_bytes, text_bytes, table_bytes, FitsFourBytes, IsText, AreSpelled}
use Rattle.data_image.specs.Reading.{ReadResult, ◌>>=◌, short_at, text_at, table_at}
use Rattle.data_image.specs.Items.{item_bytes, item_at, IsItemSpelled}
use Rattle.data_image.specs.Pictures.{editing_bytes, editing_at, IsEditingSpelled}
use Rattle.data_image.specs.Fractions.{fraction_bytes, fraction_at, IsFractionSpelled}
use Rattle.data_image.specs.Senders.{sender_bytes, sender_at, IsSenderSpelled}
use Rattle.data_image.specs.Inspections.{inspection_bytes, inspection_at, IsInspectionSpelled}

abbrev pub data_item_bytes : DataItem → List ℕ
data_item_bytes one = item_bytes one.item ++ editing_bytes one.editing ++ short_bytes one.area ++ short_bytes one.offset

-- The tables of areas, items, numbers, literals that are sent, texts, and inspections.
abbrev pub tables_bytes : DataTables → List ℕ
tables_bytes tables =
    table_bytes text_bytes tables.areas ++ table_bytes data_item_bytes tables.items ++ table_bytes fraction_bytes tables.numbers ++ table_bytes sender_bytes tables.senders ++ table_bytes text_bytes tables.texts
    ++ table_bytes inspection_bytes tables.inspections

-- Its numbers fit their bytes, and its picture is that of some text.
pub record IsDataItemSpelled (one : DataItem) : Type 0 where
  pub item : IsItemSpelled one.item
  pub editing : IsEditingSpelled one.editing
  pub area : FitsFourBytes one.area
  pub offset : FitsFourBytes one.offset

-- Each number of the tables fits its bytes. This is so of each `DataTables` that a program holds.
pub record HasTables (tables : DataTables) : Type 0 where
  pub areas : AreSpelled IsText tables.areas
  pub items : AreSpelled IsDataItemSpelled tables.items
  pub numbers : AreSpelled IsFractionSpelled tables.numbers
  pub senders : AreSpelled IsSenderSpelled tables.senders
  pub texts : AreSpelled IsText tables.texts
  pub inspections : AreSpelled IsInspectionSpelled tables.inspections

-- ---- reading

unfoldable pub data_item_at : List ℕ → ReadResult DataItem
data_item_at bytes = do
  item ← item_at bytes
  editing ← editing_at item.1
  area ← short_at editing.1
  offset ← short_at area.1
  Ok (record { item = item.0; editing = editing.0; area = area.0; offset = offset.0 }, offset.1)

unfoldable pub tables_at : List ℕ → ReadResult DataTables
tables_at bytes = do
  areas ← table_at text_at bytes
  items ← table_at data_item_at areas.1
  numbers ← table_at fraction_at items.1
  senders ← table_at sender_at numbers.1
  texts ← table_at text_at senders.1
  inspections ← table_at inspection_at texts.1
  Ok (record { areas = areas.0; items = items.0; numbers = numbers.0; senders = senders.0; texts = texts.0; inspections = inspections.0 }, inspections.1)
