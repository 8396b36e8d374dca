-- The tables of data, read and spelled.
use Rattle.std.proofs.Common.{◌≡◌, ℕ, List, ◌++◌, Ok, ap, subst, ◌∙◌, append_assoc}
use Rattle.data_instructions.specs.declared.tables.DataItem.{DataItem}
use Rattle.data_instructions.specs.declared.tables.LiteralSender.{LiteralSender}
use Rattle.data_instructions.specs.declared.tables.Inspection.{Inspection}
use Rattle.data_instructions.specs.declared.tables.DataTables.{DataTables}
use Rattle.decimal18.specs.Fraction.{Fraction}
use Rattle.data_image.specs.Spelling.{IsBytes, short_bytes, table_bytes, text_bytes, IsText, AreSpelled}
use Rattle.data_image.specs.Reading.{ReadResult, ◌>>=◌, short_at, table_at, text_at}
use Rattle.data_image.specs.Items.{item_bytes}
use Rattle.data_image.specs.Pictures.{editing_bytes, editing_at}
use Rattle.data_image.specs.Fractions.{fraction_bytes, IsFractionSpelled, fraction_at}
use Rattle.data_image.specs.Senders.{sender_bytes, IsSenderSpelled, sender_at}
use Rattle.data_image.specs.Inspections.{inspection_bytes, IsInspectionSpelled, inspection_at}
use Rattle.data_image.specs.Tables.{data_item_bytes, tables_bytes, IsDataItemSpelled, HasTables, data_item_at}
use Rattle.data_image.specs.Tables.{tables_at}
use Rattle.data_image.proofs.Forms.{ok_is, takes_then, IsForm, part, part_again, Took, form_of}
use Rattle.data_image.proofs.Numbers.{short_form}
use Rattle.data_image.proofs.TableForms.{table_form, text_form}
use Rattle.data_image.proofs.Items.{item_form}
use Rattle.data_image.proofs.Pictures.{editing_form}
use Rattle.data_image.proofs.Fractions.{fraction_form}
use Rattle.data_image.proofs.Senders.{sender_form}
use Rattle.data_image.proofs.Inspections.{inspection_form}

regroup_4 : (a b c d e : List ℕ) → a ++ b ++ c ++ d ++ e ≡ a ++ (b ++ (c ++ (d ++ e)))
regroup_4 a b c d e = simp append_assoc

regroup_6 : (a b c d e f g : List ℕ) → a ++ b ++ c ++ d ++ e ++ f ++ g ≡ a ++ (b ++ (c ++ (d ++ (e ++ (f ++ g)))))
regroup_6 a b c d e f g = simp append_assoc

-- ---- an item that code names

data_item_took : (bytes : List ℕ) (x : DataItem × List ℕ) → IsBytes bytes → data_item_at bytes ≡ Ok x
    → Took data_item_bytes IsDataItemSpelled bytes x
unfolding data_item_at
data_item_took bytes x is e =
    let a = part item_form bytes _ x is e in
    let b = part editing_form a.rest _ x a.takes.rest_fits a.goes in
    let c = part short_form b.rest _ x b.takes.rest_fits b.goes in
    let d = part short_form c.rest _ x c.takes.rest_fits c.goes in
    let made : DataItem = record { item = a.value; editing = b.value; area = c.value; offset = d.value } in
    let two = takes_then bytes (item_bytes a.value) a.rest (editing_bytes b.value) b.rest a.takes b.takes in
    let three =
    takes_then bytes (item_bytes a.value ++ editing_bytes b.value) b.rest (short_bytes c.value) c.rest two c.takes in
    let four = takes_then bytes (item_bytes a.value ++ editing_bytes b.value ++ short_bytes c.value) c.rest
    (short_bytes d.value) d.rest three d.takes in
    let fits : IsDataItemSpelled made =
    record { item = a.sound; editing = b.sound; area = c.sound; offset = d.sound } in
    subst (Took data_item_bytes IsDataItemSpelled bytes) {x =
    (made, d.rest)} (ok_is (made, d.rest) x d.goes) (four, fits)

abbrev offset_from : DataItem → ℕ × List ℕ → ReadResult DataItem
offset_from one offset = Ok (record one { offset = offset.0 }, offset.1)

abbrev area_from : DataItem → ℕ × List ℕ → ReadResult DataItem
area_from one area = short_at area.1 >>= offset_from (record one { area = area.0 })

data_item_again : (one : DataItem) (rest : List ℕ) → IsDataItemSpelled one
    → data_item_at (data_item_bytes one ++ rest) ≡ Ok (one, rest)
unfolding data_item_at
data_item_again one rest h =
    let i = item_bytes one.item in
    let p = editing_bytes one.editing in
    let a = short_bytes one.area in
    let o = short_bytes one.offset in
    ap data_item_at (regroup_4 i p a o rest)
    ∙ part_again item_form one.item (p ++ (a ++ (o ++ rest))) (λ item. editing_at item.1 >>= λ editing.
    short_at editing.1 >>= area_from (record one { item = item.0; editing = editing.0 })) h.item
    ∙ part_again editing_form one.editing (a ++ (o ++ rest))
    (λ editing. short_at editing.1 >>= area_from (record one { editing = editing.0 })) h.editing
    ∙ part_again short_form one.area (o ++ rest) (area_from one) h.area
    ∙ part_again short_form one.offset rest (offset_from one) h.offset

data_item_form : IsForm data_item_at data_item_bytes IsDataItemSpelled
data_item_form = form_of data_item_at data_item_bytes IsDataItemSpelled data_item_took data_item_again

-- ---- the tables

pub text_table : IsForm (table_at text_at) (table_bytes text_bytes) (AreSpelled IsText)
text_table = table_form text_at text_bytes IsText text_form

item_table : IsForm (table_at data_item_at) (table_bytes data_item_bytes) (AreSpelled IsDataItemSpelled)
item_table = table_form data_item_at data_item_bytes IsDataItemSpelled data_item_form

number_table : IsForm (table_at fraction_at) (table_bytes fraction_bytes) (AreSpelled IsFractionSpelled)
number_table = table_form fraction_at fraction_bytes IsFractionSpelled fraction_form

sender_table : IsForm (table_at sender_at) (table_bytes sender_bytes) (AreSpelled IsSenderSpelled)
sender_table = table_form sender_at sender_bytes IsSenderSpelled sender_form

inspection_table : IsForm (table_at inspection_at) (table_bytes inspection_bytes) (AreSpelled IsInspectionSpelled)
inspection_table = table_form inspection_at inspection_bytes IsInspectionSpelled inspection_form

tables_took : (bytes : List ℕ) (x : DataTables × List ℕ) → IsBytes bytes → tables_at bytes ≡ Ok x
    → Took tables_bytes HasTables bytes x
unfolding tables_at
tables_took bytes x is e =
    let a = part text_table bytes _ x is e in
    let b = part item_table a.rest _ x a.takes.rest_fits a.goes in
    let c = part number_table b.rest _ x b.takes.rest_fits b.goes in
    let d = part sender_table c.rest _ x c.takes.rest_fits c.goes in
    let f = part text_table d.rest _ x d.takes.rest_fits d.goes in
    let g = part inspection_table f.rest _ x f.takes.rest_fits f.goes in
    let ta = table_bytes text_bytes a.value in
    let tb = table_bytes data_item_bytes b.value in
    let tc = table_bytes fraction_bytes c.value in
    let td = table_bytes sender_bytes d.value in
    let tf = table_bytes text_bytes f.value in
    let made : DataTables = record {
      areas = a.value;
      items = b.value;
      numbers = c.value;
      senders = d.value;
      texts = f.value;
      inspections = g.value;
    } in
    let two = takes_then bytes ta a.rest tb b.rest a.takes b.takes in
    let three = takes_then bytes (ta ++ tb) b.rest tc c.rest two c.takes in
    let four = takes_then bytes (ta ++ tb ++ tc) c.rest td d.rest three d.takes in
    let five = takes_then bytes (ta ++ tb ++ tc ++ td) d.rest tf f.rest four f.takes in
    let six =
    takes_then bytes (ta ++ tb ++ tc ++ td ++ tf) f.rest (table_bytes inspection_bytes g.value) g.rest five g.takes in
    let fits : HasTables made = record {
      areas = a.sound;
      items = b.sound;
      numbers = c.sound;
      senders = d.sound;
      texts = f.sound;
      inspections = g.sound;
    } in
    subst (Took tables_bytes HasTables bytes) {x = (made, g.rest)} (ok_is (made, g.rest) x g.goes) (six, fits)

abbrev inspections_from : DataTables → List Inspection × List ℕ → ReadResult DataTables
inspections_from tables inspections = Ok (record tables { inspections = inspections.0 }, inspections.1)

abbrev texts_from : DataTables → List (List ℕ) × List ℕ → ReadResult DataTables
texts_from tables texts = table_at inspection_at texts.1 >>= inspections_from (record tables { texts = texts.0 })

abbrev senders_from : DataTables → List LiteralSender × List ℕ → ReadResult DataTables
senders_from tables senders = table_at text_at senders.1 >>= texts_from (record tables { senders = senders.0 })

abbrev numbers_from : DataTables → List Fraction × List ℕ → ReadResult DataTables
numbers_from tables numbers = table_at sender_at numbers.1 >>= senders_from (record tables { numbers = numbers.0 })

abbrev items_from : DataTables → List DataItem × List ℕ → ReadResult DataTables
items_from tables items = table_at fraction_at items.1 >>= numbers_from (record tables { items = items.0 })

abbrev areas_from : DataTables → List (List ℕ) × List ℕ → ReadResult DataTables
areas_from tables areas = table_at data_item_at areas.1 >>= items_from (record tables { areas = areas.0 })

tables_again : (tables : DataTables) (rest : List ℕ) → HasTables tables
    → tables_at (tables_bytes tables ++ rest) ≡ Ok (tables, rest)
unfolding tables_at
tables_again tables rest h =
    let a = table_bytes text_bytes tables.areas in
    let b = table_bytes data_item_bytes tables.items in
    let c = table_bytes fraction_bytes tables.numbers in
    let d = table_bytes sender_bytes tables.senders in
    let e = table_bytes text_bytes tables.texts in
    let f = table_bytes inspection_bytes tables.inspections in
    ap tables_at (regroup_6 a b c d e f rest)
    ∙ part_again text_table tables.areas (b ++ (c ++ (d ++ (e ++ (f ++ rest))))) (areas_from tables) h.areas
    ∙ part_again item_table tables.items (c ++ (d ++ (e ++ (f ++ rest)))) (items_from tables) h.items
    ∙ part_again number_table tables.numbers (d ++ (e ++ (f ++ rest))) (numbers_from tables) h.numbers
    ∙ part_again sender_table tables.senders (e ++ (f ++ rest)) (senders_from tables) h.senders
    ∙ part_again text_table tables.texts (f ++ rest) (texts_from tables) h.texts
    ∙ part_again inspection_table tables.inspections rest (inspections_from tables) h.inspections

pub tables_form : IsForm tables_at tables_bytes HasTables
tables_form = form_of tables_at tables_bytes HasTables tables_took tables_again
