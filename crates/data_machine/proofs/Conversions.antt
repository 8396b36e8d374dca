-- A conversion with lengths of texts.
use Rattle.std.proofs.Common.{◌≡◌, ℕ, ◌≤◌, List, [], ◌∷◌, ◌++◌, length, take, drop, Some, ap, sym, cond, ◌∙◌}
use Rattle.std.specs.Prelude.{reverse, slice_get, nat_le}
use Rattle.items.specs.Texts.{padded_text}
use Rattle.text_ops.specs.Convert.{converted_subject}
use Rattle.source_tree.specs.Computed.{ArithmeticValue}
use Rattle.source_tree.specs.References.{ItemPlace, part_of, storage_with}
use Rattle.source_tree.specs.Storage.{Storage}
use Rattle.data_instructions.specs.declared.place.Place.{Place}
use Rattle.data_instructions.specs.declared.tables.DataItem.{DataItem}
use Rattle.data_instructions.specs.declared.tables.DataTables.{DataTables}
use Rattle.data_instructions.specs.declared.tables.Inspection.{Inspection}
use Rattle.data_instructions.specs.Scratch.{Scratch, Step, Continues, Stuck, step_at}
use Rattle.data_instructions.specs.Table.{at_newest, at_place, converted_at, at_numbers, measured_inspection}
use Rattle.data_instructions.specs.Tables.{shortened_item, item_place}
use Rattle.data_machine.proofs.TextLengths.{at_found}

-- a conversion of an item with numbers that were found
pub convert_comes : (one : Inspection) (n : ℕ) (found : List ArithmeticValue) (subject : ItemPlace) (s : Scratch)
    (texts line : List ℕ) (new : Storage) (numbers : List ArithmeticValue) → length found ≡ n → n ≤ length s.numbers
    → s.numbers ≡ reverse found ++ drop n s.numbers → texts ≡ padded_text one.size s.line
    → new ≡ storage_with subject (converted_subject texts (measured_inspection (reverse found) one).replacing
    (part_of s.storage subject)) s.storage
    → line ≡ [] → numbers ≡ drop n s.numbers
    → at_numbers n (λ ns. converted_at (measured_inspection ns one) subject) s
    ≡ Continues (record s { storage = new; line = line; numbers = numbers })
convert_comes one n found subject s texts line new numbers many within newest texts_are stores line_is numbers_are =
    let now = measured_inspection (reverse found) one in
    let put : Storage → List ℕ → List ArithmeticValue → Step = λ x l ns.
    Continues (record s { storage = x; line = l; numbers = ns }) in
    at_found n found s (λ ns. converted_at (measured_inspection ns one) subject) many within newest
    ∙ ap (λ ts. put (storage_with subject (converted_subject ts now.replacing (part_of s.storage subject)) s.storage) []
    (drop n s.numbers)) (sym texts_are)
    ∙ ap (λ x. put x [] (drop n s.numbers)) (sym stores)
    ∙ ap (λ l. put new l (drop n s.numbers)) (sym line_is)
    ∙ ap (put new line) (sym numbers_are)

-- Numbers and the newest place are taken in either order.
pub numbers_first : (tables : DataTables) (n : ℕ) (go : List ArithmeticValue → ItemPlace → Scratch → Step)
    (s : Scratch) (p : Place) (ps : List Place) (to : DataItem) → s.places ≡ p ∷ ps
    → slice_get tables.items p.item.number ≡ Some to
    → at_place tables (λ place. at_numbers n (λ ns. go ns place)) s ≡ at_numbers n (λ ns. at_place tables (go ns)) s
numbers_first tables n go s p ps to places here =
    let enough = nat_le n (length s.numbers) in
    let found = take n s.numbers in
    let left = drop n s.numbers in
    let t : Scratch = record s { numbers = left } in
    ap (λ xs. at_newest tables xs (λ place. at_numbers n (λ ns. go ns place)) s) places
    ∙ ap (λ o. step_at o (λ (it : DataItem). at_numbers n (λ ns.
    go ns (item_place (shortened_item it p.length) p.offset)) (record s { places = ps }))) here
    ∙ sym (ap (λ xs. cond enough (at_newest tables xs (go found) t) Stuck) places
    ∙ ap (λ o. cond enough (step_at o (λ (it : DataItem). go found (item_place (shortened_item it p.length) p.offset)
    (record t { places = ps }))) Stuck) here)
