-- The literals of condition names have the form of literals, where the rules of storage are kept.
use Rattle.std.proofs.Common.{◌≡◌, ℕ, ◌+◌, ◌-◌, ◌*◌, true, false, if◌then◌else◌, List, [], ◌∷◌, ◌++◌, Option, Some}
use Rattle.std.proofs.Common.{None}
use Rattle.std.specs.Prelude.{not, drop, length, sum}
use Rattle.std.specs.List.{AllByRecursion}
use Rattle.items.specs.declared.item.Item.{Item}
use Rattle.source_tree.specs.declared.literal.Literal.{Literal}
use Rattle.source_tree.specs.declared.entry.ValueRange.{ValueRange}
use Rattle.source_tree.specs.declared.entry.ConditionEntry.{ConditionEntry}
use Rattle.source_tree.specs.declared.name.Name.{Name}
use Rattle.source_tree.specs.declared.select.FileDescription.{FileDescription}
use Rattle.source_tree.specs.declared.program.Program.{Program}
use Rattle.source_tree.specs.Broken.{where_so, each}
use Rattle.source_tree.specs.Clauses.{occurrences}
use Rattle.source_tree.specs.EntryRules.{Position, most_entries, outermost, own_rules, below, level_rules, homeless}
use Rattle.source_tree.specs.EntryRules.{excess, forest_rules, entry_rules}
use Rattle.source_tree.specs.FileRules.{most_record_bytes, select_names, description_names, file_name_rules}
use Rattle.source_tree.specs.FileRules.{file_entries, description_rules, record_storage_rules, descriptions_rules}
use Rattle.source_tree.specs.FileRules.{select_rules, program_file_rules}
use Rattle.source_tree.specs.Levels.{Forest, End, Tree, leading_conditions, forest_of}
use Rattle.source_tree.specs.Literals.{literal_sender}
use Rattle.source_tree.specs.LookUp.{NamedCondition, conditions_of, all_conditions}
use Rattle.source_tree.specs.Places.{LocatedItem, Surroundings, within, places, top, storage_places, items_of}
use Rattle.source_tree.specs.RedefinitionRules.{Redefinable, redefinable_after}
use Rattle.source_tree.specs.Records.{storage_areas, record_length, record_places, file_places, program_items}
use Rattle.source_tree.specs.Rooms.{redefines, item_with, area_lengths}
use Rattle.source_tree.specs.ValueRules.{are_some, has_form, wrong_class, wrong_value, literals_order, is_greater}
use Rattle.source_tree.specs.ValueRules.{last_rules, range_rules, condition_rules}
use Rattle.initial_storage.proofs.Kept.{front_nil, back_nil, kept, first_false, true_where, rule_parts}
use Rattle.condition_codegen.specs.Values.{HasForms, AreFormedValues}
use Rattle.condition_codegen.proofs.Lists.{left_none, right_none, all_both}

-- Each literal of a condition name of these items has the form of literals.
abbrev pub AreFormed : List LocatedItem → Type 0
AreFormed items = AllByRecursion (λ (one : NamedCondition). AreFormedValues one.condition.values) (all_conditions items)

-- ---- what the rules say

formed : (item : Item) (one : Literal) → where_so (wrong_value item.kind item.length one.value) 47 one.place ≡ []
    → has_form one.value ≡ true
formed item one e =
    true_where (has_form one.value) (first_false (not (has_form one.value))
    (wrong_class item.kind item.length one.value) (kept (wrong_value item.kind item.length one.value) 47 one.place e))

range_formed : (item : Item) (from : Literal) (last : Option Literal)
    → where_so (wrong_value item.kind item.length from.value) 47 from.place ++ last_rules item from last ≡ []
    → HasForms from last
range_formed item from None e =
    formed item from (front_nil (where_so (wrong_value item.kind item.length from.value) 47 from.place) [] e)
range_formed item from (Some last) e =
    let rules = where_so (wrong_value item.kind item.length from.value) 47 from.place in
    let first_rules = where_so (wrong_value item.kind item.length last.value) 47 last.place in
    let order_rules =
    where_so (is_greater (literals_order (literal_sender from.value) (literal_sender last.value))) 55 from.place in (
      formed item from (front_nil rules (first_rules ++ order_rules) e),
      formed item last (front_nil first_rules order_rules (back_nil rules (first_rules ++ order_rules) e)),
    )

values_formed : (item : Item) (all : List ValueRange) → each (range_rules item) all ≡ [] → AreFormedValues all
values_formed item [] e = tt
values_formed item (one ∷ more) e =
    let rest = each (range_rules item) more in (
      range_formed item one.first one.last (front_nil (range_rules item one) rest e),
      values_formed item more (back_nil (range_rules item one) rest e),
    )

-- the condition names of one item
abbrev AreFormedEntries : List ConditionEntry → Type 0
AreFormedEntries = AllByRecursion (λ (one : ConditionEntry). AreFormedValues one.values)

entries_formed : (item : Item) (all : List ConditionEntry) → each (condition_rules item) all ≡ [] → AreFormedEntries all
entries_formed item [] e = tt
entries_formed item (one ∷ more) e =
    let rest = each (condition_rules item) more in (
      values_formed item one.values (front_nil (condition_rules item one) rest e),
      entries_formed item more (back_nil (condition_rules item one) rest e),
    )

abbrev ForestFormed : Forest → Type 0
ForestFormed End = Unit {0}
ForestFormed (Tree one conditions inner next) = AreFormedEntries conditions × ForestFormed inner × ForestFormed next

forest_formed : (at : Position) (last : Option Redefinable) (F : Forest) → forest_rules at last F ≡ [] → ForestFormed F
forest_formed at last End e = tt
forest_formed at last (Tree one conditions inner next) e =
    let item : Item = item_with at.around one inner in
    let after : Option Redefinable = redefinable_after one (occurrences one * item.length) last in
    let own = own_rules at one item inner last in
    let all = each (condition_rules item) conditions in
    let rest = forest_rules at after next in
    let deeper = forest_rules (below at one inner) None inner in
    let behind = back_nil own (all ++ rest) (back_nil deeper (own ++ (all ++ rest)) e) in (
      entries_formed item conditions (front_nil all rest behind),
      forest_formed (below at one inner) None inner (front_nil deeper (own ++ (all ++ rest)) e),
      forest_formed at after next (back_nil all rest behind),
    )

-- ---- where the items stand

-- the condition names of an item
abbrev IsFormedItem : LocatedItem → Type 0
IsFormedItem one = AreFormedEntries one.conditions

places_formed : (around : Surroundings) (last here : ℕ) (F : Forest) → ForestFormed F
    → AllByRecursion IsFormedItem (places around last here F)
places_formed around last here End h = tt
places_formed around last here (Tree one conditions inner next) h =
    let item : Item = item_with around.around one inner in
    let at : ℕ = if redefines one then last else here in
    let after : ℕ = here + (if redefines one then 0 else occurrences one * item.length) in (
      h.0,
      all_both IsFormedItem (places (within around one item) at at inner) (places around at after next)
          (places_formed (within around one item) at at inner h.1) (places_formed around at after next h.2),
    )

storage_formed : (areas : ℕ) (F : Forest) → ForestFormed F → AllByRecursion IsFormedItem (storage_places areas F)
storage_formed areas End h = tt
storage_formed areas (Tree one conditions inner next) h =
    let area : ℕ = if redefines one then areas - 1 else areas in
    all_both IsFormedItem (places (top area []) 0 0 (Tree one conditions inner End)) (storage_places (area + 1) next)
    (places_formed (top area []) 0 0 (Tree one conditions inner End) (h.0, h.1, tt))
    (storage_formed (area + 1) next h.2)

-- ---- all condition names

of_item : (item : LocatedItem) (all : List ConditionEntry) → AreFormedEntries all
    → AllByRecursion (λ (one : NamedCondition). AreFormedValues one.condition.values) (conditions_of item all)
of_item item [] h = tt
of_item item (one ∷ more) h = (h.0, of_item item more h.1)

of_items : (items : List LocatedItem) → AllByRecursion IsFormedItem items → AreFormed items
of_items [] h = tt
of_items (one ∷ more) h =
    all_both (λ (c : NamedCondition). AreFormedValues c.condition.values) (conditions_of one one.conditions)
    (all_conditions more) (of_item one one.conditions h.0) (of_items more h.1)

-- the records of a file
records_formed : (area : ℕ) (file : Name) (F : Forest) → ForestFormed F
    → AllByRecursion IsFormedItem (record_places area file F)
records_formed area file End h = tt
records_formed area file (Tree one conditions inner next) h =
    all_both IsFormedItem (places (top area (file ∷ [])) 0 0 (Tree one conditions inner End))
    (record_places area file next)
    (places_formed (top area (file ∷ [])) 0 0 (Tree one conditions inner End) (h.0, h.1, tt))
    (records_formed area file next h.2)

records_kept : (one : FileDescription) → description_rules one ≡ []
    → forest_rules (outermost true) None (forest_of one.entries) ≡ []
records_kept one e =
    let levels = each level_rules one.entries in
    let lost = each homeless (leading_conditions one.entries) in
    let forest = forest_rules (outermost true) None (forest_of one.entries) in
    let size = where_so (not (are_some most_record_bytes (record_length one.entries))) 69 one.name.place in
    right_none (levels ++ lost) forest (left_none (levels ++ lost ++ forest) size e)

files_formed : (area : ℕ) (files : List FileDescription) → each description_rules files ≡ []
    → AllByRecursion IsFormedItem (file_places area files)
files_formed area [] e = tt
files_formed area (one ∷ more) e =
    let forest = forest_of one.entries in
    all_both IsFormedItem (record_places area one.name forest) (file_places (area + 1) more)
    (records_formed area one.name forest
    (forest_formed (outermost true) None forest
    (records_kept one (left_none (description_rules one) (each description_rules more) e))))
    (files_formed (area + 1) more (right_none (description_rules one) (each description_rules more) e))

-- the rules of FDs
pub descriptions_kept : (items : List LocatedItem) (program : Program) → program_file_rules items program ≡ []
    → descriptions_rules program.storage program.files ≡ []
descriptions_kept items program e =
    let names = file_name_rules (select_names program.selects) (description_names program.files) in
    let descriptions = descriptions_rules program.storage program.files in
    let selects = each (select_rules items (storage_areas program.storage) program.files) program.selects in
    right_none names descriptions (left_none (names ++ descriptions) selects e)

-- the rules of each FD
pub each_description : (program : Program) → descriptions_rules program.storage program.files ≡ []
    → each description_rules program.files ≡ []
each_description program e =
    let entries = each excess (drop (most_entries - length program.storage) (file_entries program.files)) in
    let own = each description_rules program.files in
    let sizes = record_storage_rules (sum (area_lengths (forest_of program.storage))) program.files in
    right_none entries own (left_none (entries ++ own) sizes e)

pub conditions_formed : (program : Program) → entry_rules program.storage ≡ []
    → descriptions_rules program.storage program.files ≡ []
    → AreFormed (program_items program)
conditions_formed program e f =
    let parts = rule_parts program.storage e in
    let storage = storage_formed 0 (forest_of program.storage)
    (forest_formed (outermost false) None (forest_of program.storage) parts.1) in
    let files = files_formed (storage_areas program.storage) program.files (each_description program f) in
    of_items (program_items program)
    (all_both IsFormedItem (items_of program.storage) (file_places (storage_areas program.storage) program.files)
    storage files)
