-- Tables that are in order and that aren't, and entries that are there.
use Rattle.std.proofs.Common.{◌≡◌, ◌<◌, ◌≤◌, ◌+◌, ◌^◌, ◌↔◌, ℕ, zero, suc, false, true, T, leb, Some}
use Rattle.std.proofs.Common.{List, [], ◌∷◌, ◌++◌, take, get_or, length, inl, refl, ap, subst, lit<, lit≤, arith}
use Rattle.std.specs.Prelude.{slice_get, codes}
use Rattle.std.specs.List.{AllByRecursion}
use Rattle.std.proofs.lemmas.Option.{same_Some}
use Rattle.std.proofs.lemmas.List.Elements.{All-from_recursion}
use Rattle.text_ops.specs.declared.entry.Entry.{Entry}
use Rattle.text_ops.specs.Entries.{AreWithin, IsEntry}
use Rattle.picture.specs.Symbols as symbols
use Rattle.picture.specs.Runs as runs
use Rattle.picture.specs.Forms as forms
use Rattle.picture.specs.Categories as categories
use Rattle.picture.specs.Deciding as deciding
use Rattle.picture.specs.Places as places
use Rattle.picture.specs.Text as pictured
use Rattle.picture.specs.Regions as regions
use Rattle.picture.specs.Pictures as pictures
use Rattle.items.specs.declared.numeric.Numeric.{Numeric}
use Rattle.items.specs.declared.taken.Taken.TheVariants as taken
use Rattle.items.specs.Items.{IsTaken}
use Rattle.items.specs.Numbers.{IsNumeric}
use Rattle.data_instructions.specs.declared.calculation.Calculation.TheVariants as calculation
use Rattle.data_instructions.specs.declared.test.Test.TheVariants as test
use Rattle.data_instructions.specs.declared.gather.Gather.TheVariants as gather
use Rattle.data_instructions.specs.declared.tables.DataItem.{DataItem}
use Rattle.data_instructions.specs.declared.tables.LiteralSender.{LiteralSender}
use Rattle.data_instructions.specs.declared.instruction.DataInstruction.{DataInstruction}
use Rattle.data_instructions.specs.declared.instruction.DataInstruction.TheVariants as i
use Rattle.data_instructions.specs.Naming.{NamesEntries}
use Rattle.data_instructions.specs.Tables.{IsTables, IsDataItem, IsInspection, Lies}
use Rattle.instruction_examples.proofs.SampleTables.{edited_item, areas, items, senders, tables}

-- what unfolds where a picture is looked at
unfoldable computing : Unit {0}
unfolding
    symbols.class_has runs.runs_past runs.past_one runs.from_first runs.occurrences runs.ends_in runs.size_of
    forms.suppression_of categories.kind_of deciding.category_of deciding.is_of deciding.is_edited
    deciding.is_arranged deciding.past_core deciding.has_one_sign deciding.begins_before_point
    deciding.has_digits deciding.is_numeric_picture deciding.is_only places.each_place places.repeated_places
    places.region_from pictured.runs_of pictured.runs_from pictured.run_at pictured.run_from pictured.pair_at
    pictured.character_at pictured.count_at pictured.count_before_parenthesis pictured.number_at
    pictured.symbol_of regions.digits_in pictures.picture_of pictures.of_form pictures.of_digits
    pictures.of_characters pictures.scale_of
computing = tt

-- ---- entries that instructions name

-- the instruction names an entry that is there exactly if its number is below this
abbrev IsNamedBelow : ℕ → (ℕ → DataInstruction) → Type 0
IsNamedBelow count one = (number : ℕ) → NamesEntries tables (one number) ↔ (number < count)

twelve_items : IsNamedBelow 12 (λ number. i.Place (record { number = number }))
twelve_items number = (λ h. h, λ h. h)

twelve_numbers : IsNamedBelow 12 (λ number. i.Literal (record { number = number }))
twelve_numbers number = (λ h. h, λ h. h)

seven_senders : IsNamedBelow 7 (λ number. i.TakeLiteral (record { number = number }))
seven_senders number = (λ h. h, λ h. h)

seven_values : IsNamedBelow 7 (λ number. i.Test (test.OrEqual (record { number = number })))
seven_values number = (λ h. h, λ h. h)

six_ranges : IsNamedBelow 6 (λ number. i.Test (test.OrWithin (record { number = number })))
six_ranges number = (λ h. omega (arith, h), λ h. omega (arith, h))

six_texts : IsNamedBelow 6 (λ number. i.AppendLiteral (record { number = number }))
six_texts number = (λ h. h, λ h. h)

five_overlays : IsNamedBelow 5 (λ number. i.Overlay (record { number = number }))
five_overlays number = (λ h. omega (arith, h), λ h. omega (arith, h))

six_delimiters : IsNamedBelow 6 (λ number. i.Gather (gather.UpToText (record { number = number })))
six_delimiters number = (λ h. h, λ h. h)

addition_names_none : NamesEntries tables (i.Calculate calculation.Add)
addition_names_none = tt

-- ---- tables in order

-- what holds of each member holds of the one at a place
each_at : {A : Type 0} (P : A → Type 0) (xs : List A) → AllByRecursion P xs → (k : ℕ) (x : A)
    → slice_get xs k ≡ Some x → P x
each_at P [] all k x here = absurd cc
each_at P (y ∷ ys) all zero x here = subst P (same_Some y x here) all.0
each_at P (y ∷ ys) all (suc k) x here = each_at P ys all.1 k x here

each_area : AllByRecursion (λ area. length area < 2 ^ 32) areas
each_area = search (lit<, tt)

form_of : (n : Numeric) → T (leb 1 n.digits) → T (leb n.digits 18) → T (leb n.scale n.digits) → IsNumeric n
form_of n some most decimals = record { some = lit≤ some; most = lit≤ most; decimals = lit≤ decimals }

lies_at : (one : DataItem) → slice_get areas one.area ≡ Some (get_or areas one.area [])
    → T (leb (one.offset + one.item.length) (length (get_or areas one.area []))) → Lies areas one one.offset
lies_at one here within = record { area = get_or areas one.area []; here = here; within = lit≤ within }

floating_item : IsDataItem areas (edited_item false (codes "-(3)9.99") 7 3)
unfolding computing
floating_item = record { form = (lit≤ tt, lit≤ tt); editing = (inl refl, refl); lies = lies_at _ refl tt }

blank_item : IsDataItem areas (edited_item true (codes "Z9.9") 4 9)
unfolding computing
blank_item = record { form = (lit≤ tt, lit≤ tt); editing = (inl refl, refl); lies = lies_at _ refl tt }

each_item : AllByRecursion (IsDataItem areas) items
each_item = search (form_of, lies_at, lit≤, tt, floating_item, blank_item) depth 20

each_sender : AllByRecursion (λ one. IsTaken one.taken one.bytes) senders
each_sender = search (form_of, lit≤, tt)

all_within : (entries : List Entry) → AllByRecursion (IsEntry 2) entries → AreWithin entries 2
all_within entries = All-from_recursion (IsEntry 2) entries

each_inspection : AllByRecursion IsInspection tables.inspections
each_inspection = search (all_within, lit≤, tt) depth 10

in_order : IsTables tables
in_order = record {
  areas = each_at (λ area. length area < 2 ^ 32) areas each_area;
  items = each_at (IsDataItem areas) items each_item;
  senders = each_at (λ one. IsTaken one.taken one.bytes) senders each_sender;
  inspections = each_at IsInspection tables.inspections each_inspection;
}

-- ---- tables that aren't in order

-- a literal for ALL without a character
abbrev empty_all : LiteralSender
empty_all = record { taken = taken.All; bytes = [] }

empty_literal_breaks_order : IsTables (record tables { senders = senders ++ empty_all ∷ [] }) → ⊥
empty_literal_breaks_order order = let one : 1 ≤ 0 = order.senders 7 empty_all refl in absurd (omega (arith, one))

-- an area of three bytes for B, which has four
ten_areas : length areas ≡ 10
ten_areas = refl

short_area_breaks_order : IsTables (record tables { areas = take 9 areas ++ codes "000" ∷ [] }) → ⊥
short_area_breaks_order order =
    let lies = (order.items 11 (edited_item true (codes "Z9.9") 4 9) refl).lies in
    let size : 3 ≡ length lies.area = ap length (same_Some _ _ lies.here) in
    absurd (omega (arith, size, lies.within))
