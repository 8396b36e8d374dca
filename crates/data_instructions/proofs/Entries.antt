-- Each entry of a table, one more at a time.
use Rattle.std.proofs.Common.{◌≡◌, ℕ, ◌+◌, ◌<◌, ◌≤◌, ◌^◌, length, List, refl, sym, ◌∙◌, ap, subst, arith, Some}
use Rattle.std.specs.Prelude.{slice_get, get_or, Bool, true, false, nat_lt, ◌↔◌, IsTrue}
use Rattle.std.proofs.lemmas.Bool.Decides.{nat_tests}
use Rattle.std.proofs.lemmas.Bool.{leb-true, le-leb}
use Rattle.std.proofs.lemmas.Bool.Decides.{Decides-ltb}
use Rattle.std.proofs.lemmas.Option.{same_Some, slice_get_read}
use Rattle.std.proofs.Math.Dec.{ltb, leb}
use Rattle.items.specs.Items.{IsTaken}
use Rattle.data_instructions.specs.declared.tables.DataItem.{DataItem}
use Rattle.data_instructions.specs.declared.tables.LiteralSender.{LiteralSender}
use Rattle.data_instructions.specs.declared.tables.Inspection.{Inspection}
use Rattle.data_instructions.specs.declared.tables.DataTables.{DataTables}
use Rattle.data_instructions.specs.Tables.{IsTables, IsDataItem, IsInspection, Lies}

pub more_entries : {X : Type 0} (P : X → Type 0) (xs : List X) (i : ℕ) (x : X) → slice_get xs i ≡ Some x → P x
    → ((k : ℕ) (one : X) → k < i → slice_get xs k ≡ Some one → P one)
    → (k : ℕ) (one : X) → k < i + 1 → slice_get xs k ≡ Some one → P one
more_entries P xs i x here holds before k one within found = by_test (nat_lt k i) refl
  where
    by_test : (b : Bool) → nat_lt k i ≡ b → P one
    by_test true test = let less : k < i = grind (arith, nat_tests) in before k one less found
    by_test false test =
        let least : i ≤ k = grind (arith, nat_tests) in
        let same : k ≡ i = omega (arith, least, within) in
        subst P (same_Some x one (sym here ∙ sym (ap (slice_get xs) same) ∙ found)) holds

abbrev pub EachArea : List (List ℕ) → Type 0
EachArea areas = (k : ℕ) (area : List ℕ) → slice_get areas k ≡ Some area → length area < 2 ^ 32

abbrev pub EachItem : List (List ℕ) → List DataItem → Type 0
EachItem areas items = (k : ℕ) (one : DataItem) → slice_get items k ≡ Some one → IsDataItem areas one

abbrev pub EachSender : List LiteralSender → Type 0
EachSender senders = (k : ℕ) (one : LiteralSender) → slice_get senders k ≡ Some one → IsTaken one.taken one.bytes

abbrev pub EachInspection : List Inspection → Type 0
EachInspection inspections = (k : ℕ) (one : Inspection) → slice_get inspections k ≡ Some one → IsInspection one

pub in_order : (tables : DataTables) (areas others : List (List ℕ)) (items : List DataItem)
    (senders : List LiteralSender) (inspections : List Inspection)
    → areas ≡ tables.areas → others ≡ tables.areas → items ≡ tables.items → senders ≡ tables.senders
    → inspections ≡ tables.inspections
    → EachArea areas → EachItem others items → EachSender senders → EachInspection inspections → IsTables tables
in_order tables areas others items senders inspections is_areas is_others is_items is_senders is_inspections a i s n =
    record {
      areas = subst EachArea is_areas a;
      items = subst (EachItem tables.areas) is_items (subst (λ xs. EachItem xs items) is_others i);
      senders = subst EachSender is_senders s;
      inspections = subst EachInspection is_inspections n;
    }

pub items_in_order : (tables : DataTables) (areas : List (List ℕ)) (items : List DataItem) → areas ≡ tables.areas
    → items ≡ tables.items → IsTables tables → EachItem areas items
items_in_order tables areas items is_areas is_items order =
    subst (λ xs. EachItem xs items) (sym is_areas) (subst (EachItem tables.areas) (sym is_items) order.items)

pub senders_in_order : (tables : DataTables) (senders : List LiteralSender) → senders ≡ tables.senders → IsTables tables
    → EachSender senders
senders_in_order tables senders is order = subst EachSender (sym is) order.senders

pub inspections_in_order : (tables : DataTables) (inspections : List Inspection) → inspections ≡ tables.inspections
    → IsTables tables → EachInspection inspections
inspections_in_order tables inspections is order = subst EachInspection (sym is) order.inspections

-- An item lies in the area that was found for it exactly if it ends within.
pub lies_there : (areas : List (List ℕ)) (one : DataItem) (area : List ℕ) (long : ℕ)
    → true ≡ ltb one.area (length areas) → area ≡ get_or areas one.area area → long ≡ length area
    → IsTrue (leb (one.offset + one.item.length) long) ↔ Lies areas one one.offset
lies_there areas one area long within there is =
    let end = one.offset + one.item.length in
    let here : slice_get areas one.area ≡ Some area =
    slice_get_read areas (length areas) one.area area refl ((Decides-ltb one.area (length areas)).0 (sym within))
    there in (
      λ t. record { area = area; here = here; within = subst (λ n. end ≤ n) is (leb-true end long t) },
      λ lies. le-leb end long
          (subst (λ n. end ≤ n) (ap length (same_Some lies.area area (sym lies.here ∙ here)) ∙ sym is) lies.within),
    )
