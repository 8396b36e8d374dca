-- Worked examples: parts of images as bytes, and bytes that are refused.
use Rattle.std.proofs.Common.{◌≡◌, true, false, [], ◌∷◌, ◌++◌, replicate, Ok, Err, refl}
use Rattle.std.specs.Prelude.{pos, negsuc, None, Some}
use Rattle.picture.specs.declared.symbol.Symbol.TheVariants as symbol
use Rattle.items.specs.declared.item.Kind.TheVariants as k
use Rattle.items.specs.declared.usage.Usage.TheVariants as u
use Rattle.items.specs.declared.usage.OperationalSign.TheVariants as s
use Rattle.items.specs.declared.taken.Taken.TheVariants as t
use Rattle.items.specs.declared.taken.Figurative.TheVariants as f
use Rattle.text_ops.specs.declared.entry.Fit.TheVariants as fit
use Rattle.data_instructions.specs.declared.tables.DataTables.{DataTables}
use Rattle.data_instructions.specs.declared.calculation.Calculation.TheVariants as c
use Rattle.data_instructions.specs.declared.test.Test.TheVariants as test
use Rattle.data_instructions.specs.declared.gather.Gather.TheVariants as gather
use Rattle.data_instructions.specs.declared.part.Part.TheVariants as part
use Rattle.data_instructions.specs.declared.instruction.DataInstruction.TheVariants as i
use Rattle.source_tree.specs.declared.condition.Relation.TheVariants as relation
use Rattle.source_tree.specs.declared.condition.Class.TheVariants as class
use Rattle.data_image.specs.declared.fault.ImageFault.TheVariants as faults
use Rattle.data_image.specs.Spelling.{count_bytes, short_bytes, wide_bytes, text_bytes}
use Rattle.data_image.specs.Reading.{count_at, short_at, wide_at, byte_at, told_at, flag_of, entries_at, table_at}
use Rattle.data_image.specs.Reading.{text_at}
use Rattle.data_image.specs.Items.{item_bytes, usage_of, plain_kind_of, numeric_at, kind_at, item_at}
use Rattle.picture.specs.Text as text_of
use Rattle.data_image.specs.Pictures.{run_bytes, symbol_of, run_at, editing_at}
use Rattle.data_image.specs.Fractions.{fraction_bytes, fraction_at}
use Rattle.data_image.specs.Senders.{sender_bytes, plain_taken_of, taken_at, sender_at}
use Rattle.data_image.specs.Inspections as inspections
use Rattle.data_image.specs.Tables.{data_item_bytes, tables_bytes, data_item_at, tables_at}
use Rattle.data_image.specs.Tests.{relation_of, class_of}
use Rattle.data_image.specs.Instructions.{data_instruction_bytes, plain_instruction_of, data_instruction_at}

text_spelt : text_bytes (65 ∷ 10 ∷ []) ≡ 0 ∷ 0 ∷ 0 ∷ 0 ∷ 0 ∷ 0 ∷ 0 ∷ 2 ∷ 65 ∷ 10 ∷ []
unfolding count_bytes
text_spelt = refl

-- PIC S9(5)V99 PACKED-DECIMAL, of four bytes
numeric_spelt :
    item_bytes (record { kind = k.Numeric (record { digits = 7; scale = 2; usage = u.Packed true }); length = 4 })
    ≡ 9 ∷ 7 ∷ 2 ∷ 9 ∷ 0 ∷ 0 ∷ 0 ∷ 4 ∷ []
unfolding short_bytes
numeric_spelt = refl

-- PIC X(300) JUSTIFIED, the second item of area 1
data_item_spelt :
    data_item_bytes
    (record { item = record { kind = k.Alphanumeric true; length = 300 }; editing = None; area = 1; offset = 7 })
    ≡ 5 ∷ 0 ∷ 0 ∷ 1 ∷ 44 ∷ 0 ∷ 0 ∷ 0 ∷ 0 ∷ 1 ∷ 0 ∷ 0 ∷ 0 ∷ 7 ∷ []
unfolding short_bytes
data_item_spelt = refl

-- Z(4) of a picture
run_spelt : run_bytes (record { symbol = symbol.Z; count = 4 }) ≡ 90 ∷ (replicate 15 0 ++ 4 ∷ [])
unfolding wide_bytes count_bytes
run_spelt = refl

-- -2.58
fraction_spelt : fraction_bytes (record { coefficient = negsuc 257; scale = 2 })
    ≡ 1 ∷ (replicate 14 0 ++ 1 ∷ 2 ∷ 2 ∷ [])
unfolding wide_bytes count_bytes
fraction_spelt = refl

-- the literal "A", and ZERO
sender_spelt :
    sender_bytes (record { taken = t.Item (record { kind = k.Alphanumeric false; length = 1 }); bytes = 65 ∷ [] })
    ≡ 7 ∷ 4 ∷ 0 ∷ 0 ∷ 0 ∷ 1 ∷ 0 ∷ 0 ∷ 0 ∷ 0 ∷ 0 ∷ 0 ∷ 0 ∷ 1 ∷ 65 ∷ []
unfolding short_bytes count_bytes
sender_spelt = refl

zero_spelt : sender_bytes (record { taken = t.Figurative f.Zero; bytes = [] }) ≡ 2 ∷ replicate 8 0
unfolding count_bytes
zero_spelt = refl

index_spelt : data_instruction_bytes (i.Index 12 258) ≡ 17 ∷ 0 ∷ 0 ∷ 0 ∷ 12 ∷ 0 ∷ 0 ∷ 1 ∷ 2 ∷ []
unfolding short_bytes
index_spelt = refl

-- ROUNDED, where SIZE ERROR keeps the item
store_spelt : data_instruction_bytes (i.Store true true) ≡ 31 ∷ []
store_spelt = refl

truncate_spelt : data_instruction_bytes (i.Calculate (c.Truncate 18)) ≡ 37 ∷ 18 ∷ []
truncate_spelt = refl

duplicate_spelt : data_instruction_bytes (i.Calculate (c.Duplicate 258)) ≡ 38 ∷ 0 ∷ 0 ∷ 1 ∷ 2 ∷ []
unfolding short_bytes
duplicate_spelt = refl

-- not equal to the literal 258
compare_literal_spelt : data_instruction_bytes
    (i.Test (test.CompareLiteral relation.NotEqual (record { number = 258 }))) ≡ 41 ∷ 0 ∷ 0 ∷ 1 ∷ 2 ∷ 4 ∷ []
unfolding short_bytes
compare_literal_spelt = refl

class_spelt : data_instruction_bytes (i.Test (test.Class class.AlphabeticLower)) ≡ 43 ∷ 3 ∷ []
class_spelt = refl

-- up to the text 258
up_to_text_spelt : data_instruction_bytes (i.Gather (gather.UpToText (record { number = 258 })))
    ≡ 64 ∷ 0 ∷ 0 ∷ 1 ∷ 2 ∷ []
unfolding short_bytes
up_to_text_spelt = refl

-- STRING with a pointer
string_spelt : data_instruction_bytes (i.String true) ≡ 67 ∷ []
string_spelt = refl

-- the inspection 258
inspect_spelt : data_instruction_bytes (i.Inspect (record { number = 258 })) ≡ 69 ∷ 0 ∷ 0 ∷ 1 ∷ 2 ∷ []
unfolding short_bytes
inspect_spelt = refl

-- a conversion by it
convert_spelt : data_instruction_bytes (i.Convert (record { number = 258 })) ≡ 73 ∷ 0 ∷ 0 ∷ 1 ∷ 2 ∷ []
unfolding short_bytes
convert_spelt = refl

-- a text that is measured, and both with the two numbers of a text
measured_spelt : data_instruction_bytes (i.Gather gather.Measured) ≡ 74 ∷ []
measured_spelt = refl

inspect_measured_spelt : data_instruction_bytes (i.InspectMeasured (record { number = 258 }) 2)
    ≡ 75 ∷ 0 ∷ 0 ∷ 1 ∷ 2 ∷ 0 ∷ 0 ∷ 0 ∷ 2 ∷ []
unfolding short_bytes
inspect_measured_spelt = refl

convert_measured_spelt : data_instruction_bytes (i.ConvertMeasured (record { number = 258 }) 2)
    ≡ 76 ∷ 0 ∷ 0 ∷ 1 ∷ 2 ∷ 0 ∷ 0 ∷ 0 ∷ 2 ∷ []
unfolding short_bytes
convert_measured_spelt = refl

-- a part of an item of 258 bytes, and one of a length that is counted
part_spelt : data_instruction_bytes (i.Part (part.Fixed 258)) ≡ 70 ∷ 0 ∷ 0 ∷ 1 ∷ 2 ∷ []
unfolding short_bytes
part_spelt = refl

counted_part_read : data_instruction_at (71 ∷ 9 ∷ []) ≡ Ok (i.Part part.Counted, 9 ∷ [])
unfolding data_instruction_at byte_at plain_instruction_of
counted_part_read = refl

-- ---- what is refused

-- zero isn't negative
minus_zero : fraction_at (1 ∷ replicate 17 0) ≡ Err faults.Value
unfolding fraction_at told_at flag_of wide_at count_at byte_at
minus_zero = refl

-- and is read without a sign
zero_read : fraction_at (replicate 18 0) ≡ Ok (record { coefficient = pos 0; scale = 0 }, [])
unfolding fraction_at told_at flag_of wide_at count_at byte_at
zero_read = refl

-- a scale of 19
scale_19 : fraction_at (replicate 17 0 ++ 19 ∷ []) ≡ Err faults.Value
unfolding fraction_at told_at flag_of wide_at count_at byte_at
scale_19 = refl

-- no kind has byte 10, and no usage 0
no_kind : item_at (10 ∷ 0 ∷ 0 ∷ 0 ∷ 1 ∷ []) ≡ Err faults.Value
unfolding item_at kind_at byte_at plain_kind_of
no_kind = refl

no_usage : item_at (9 ∷ 1 ∷ 0 ∷ 0 ∷ 0 ∷ 0 ∷ 0 ∷ 1 ∷ []) ≡ Err faults.Value
unfolding item_at kind_at numeric_at told_at usage_of byte_at
no_usage = refl

-- P is no symbol of a picture
no_symbol : run_at (80 ∷ replicate 16 0) ≡ Err faults.Value
unfolding run_at told_at symbol_of text_of.symbol_of byte_at
no_symbol = refl

-- an entry fits what 1 to 4 say
no_fit : inspections.fit_at (5 ∷ []) ≡ Err faults.Value
unfolding inspections.fit_at byte_at
no_fit = refl

-- whether there is a picture is told by 0 or 1
no_editing : editing_at (2 ∷ []) ≡ Err faults.Value
unfolding editing_at byte_at
no_editing = refl

-- 15 begins another instruction, and 27, 59 and 77 none
no_instruction : data_instruction_at (15 ∷ []) ≡ Err faults.Value
unfolding data_instruction_at byte_at plain_instruction_of
no_instruction = refl

between : data_instruction_at (27 ∷ []) ≡ Err faults.Value
unfolding data_instruction_at byte_at plain_instruction_of
between = refl

before_overlay : data_instruction_at (59 ∷ []) ≡ Err faults.Value
unfolding data_instruction_at byte_at plain_instruction_of
before_overlay = refl

behind_the_last : data_instruction_at (77 ∷ []) ≡ Err faults.Value
unfolding data_instruction_at byte_at plain_instruction_of
behind_the_last = refl

cut_instruction : data_instruction_at (16 ∷ 0 ∷ 0 ∷ 0 ∷ []) ≡ Err faults.Length
unfolding data_instruction_at byte_at short_at
cut_instruction = refl

-- no relation has byte 7, and no class 5
no_relation : data_instruction_at (40 ∷ 7 ∷ []) ≡ Err faults.Value
unfolding data_instruction_at byte_at told_at relation_of
no_relation = refl

no_class : data_instruction_at (43 ∷ 5 ∷ []) ≡ Err faults.Value
unfolding data_instruction_at byte_at told_at class_of
no_class = refl

-- without its relation
cut_compare : data_instruction_at (41 ∷ 0 ∷ 0 ∷ 0 ∷ 1 ∷ []) ≡ Err faults.Length
unfolding data_instruction_at byte_at told_at short_at
cut_compare = refl

-- without its text
cut_overlay : data_instruction_at (60 ∷ 0 ∷ 0 ∷ []) ≡ Err faults.Length
unfolding data_instruction_at byte_at short_at
cut_overlay = refl

-- without its scale
cut_truncate : data_instruction_at (37 ∷ []) ≡ Err faults.Length
unfolding data_instruction_at byte_at
cut_truncate = refl

-- ---- tables

-- an area of four bytes that is one item, the number 3, the literal ZERO, the text A, and an inspection with a counter
abbrev small : DataTables
small = record {
  areas = (48 ∷ 48 ∷ 48 ∷ 48 ∷ []) ∷ [];
  items = record {
    item = record { kind = k.Numeric (record { digits = 4; scale = 0; usage = u.Display s.Unsigned }); length = 4 };
    editing = None;
    area = 0;
    offset = 0;
  } ∷ [];
  numbers = record { coefficient = pos 3; scale = 0 } ∷ [];
  senders = record { taken = t.Figurative f.Zero; bytes = [] } ∷ [];
  texts = (65 ∷ []) ∷ [];
  inspections = record {
    size = 3;
    counters = 1 ∷ [];
    tallying = record {
      fit = fit.All (record { start = 0; length = 1 });
      before = None;
      after = Some (record { start = 1; length = 1 });
      by = None;
    } ∷ [];
    replacing =
        record { fit = fit.Characters; before = None; after = None; by = Some (record { start = 2; length = 1 }) } ∷ [];
  } ∷ [];
}

-- read again, with what comes after them
read_again : tables_at (tables_bytes small ++ 7 ∷ []) ≡ Ok (small, 7 ∷ [])
unfolding tables_at data_item_at item_at kind_at numeric_at usage_of editing_at fraction_at flag_of sender_at taken_at
    plain_taken_of inspections.inspection_at inspections.entry_at inspections.fit_at inspections.text_at
    inspections.span_at text_at table_at entries_at told_at byte_at wide_at short_at count_at count_bytes short_bytes
    wide_bytes
read_again = refl
