-- Condition names of entries that keep the rules have values that their items take.
use Rattle.std.proofs.Common.{◌≡◌, ℕ, ◌+◌, ◌-◌, ◌*◌, true, false, if◌then◌else◌, List, [], ◌∷◌, ◌++◌, None, Some}
use Rattle.std.specs.Prelude.{Option}
use Rattle.std.specs.List.{All, AllByRecursion}
use Rattle.std.proofs.lemmas.List.Elements.{All-from_recursion}
use Rattle.items.specs.declared.item.Kind.{Kind}
use Rattle.items.specs.declared.item.Kind.TheVariants as kind
use Rattle.items.specs.declared.item.Item.{Item}
use Rattle.items.specs.Items.{IsOfLength}
use Rattle.source_tree.specs.declared.entry.Around.{Around}
use Rattle.source_tree.specs.declared.entry.ValueRange.{ValueRange}
use Rattle.source_tree.specs.declared.entry.ConditionEntry.{ConditionEntry}
use Rattle.source_tree.specs.declared.name.Name.{Name}
use Rattle.source_tree.specs.declared.program.Program.{Program}
use Rattle.source_tree.specs.Levels.{Forest, End, Tree, forest_of}
use Rattle.source_tree.specs.Clauses.{nothing_around, inside, occurrences}
use Rattle.source_tree.specs.Rooms.{redefines, item_with}
use Rattle.source_tree.specs.Places.{LocatedItem, Surroundings, within, places, top, storage_places, items_of}
use Rattle.source_tree.specs.Records.{storage_areas, record_places, file_places, program_items}
use Rattle.source_tree.specs.LookUp.{conditions_of, all_conditions}
use Rattle.source_tree.specs.Broken.{RuleBreach, where_so, each}
use Rattle.source_tree.specs.RedefinitionRules.{Redefinable, redefinable_after}
use Rattle.source_tree.specs.ValueRules.{wrong_value, last_rules, range_rules, condition_rules}
use Rattle.source_tree.specs.EntryRules.{Position, outermost, own_rules, below, forest_rules, entry_rules}
use Rattle.source_tree.specs.FileRules.{descriptions_rules}
use Rattle.initial_storage.specs.Fits.{IsKindOf}
use Rattle.initial_storage.specs.Formed.{IsFormed}
use Rattle.initial_storage.specs.Conditions.{HasFirst, CanBeSet}
use Rattle.initial_storage.proofs.Kept.{front_nil, back_nil, has_value, rule_parts}
use Rattle.initial_storage.proofs.KeptFiles.{descriptions, of_descriptions, of_files}
use Rattle.initial_storage.proofs.Groups.{all_append}
use Rattle.initial_storage.proofs.Formed.{formed_by_recursion}

-- ---- the values of an item's condition names

abbrev Takes : Item → ConditionEntry → Type 0
Takes item one = HasFirst item one.values

abbrev TakesAll : LocatedItem → Type 0
TakesAll one = AllByRecursion (Takes one.item) one.conditions

first_taken : (item : Item) (values : List ValueRange) → each (range_rules item) values ≡ [] → HasFirst item values
first_taken item [] e = tt
first_taken item (one ∷ more) e =
    let range = front_nil (range_rules item one) (each (range_rules item) more) e in
    has_value false item (Some one.first) (front_nil (where_so (wrong_value item.kind item.length one.first.value) 47
    one.first.place) (last_rules item one.first one.last) range)

all_taken : (item : Item) (conditions : List ConditionEntry) → each (condition_rules item) conditions ≡ []
    → AllByRecursion (Takes item) conditions
all_taken item [] e = tt
all_taken item (one ∷ more) e = (
  first_taken item one.values (front_nil (condition_rules item one) (each (condition_rules item) more) e),
  all_taken item more (back_nil (condition_rules item one) (each (condition_rules item) more) e),
)

-- ---- all entries

abbrev AreTaken : Around → Forest → Type 0
AreTaken around End = Unit {0}
AreTaken around (Tree one conditions inner next) =
    AllByRecursion (Takes (item_with around one inner)) conditions × AreTaken (inside around one) inner
    × AreTaken around next

third_and_others : (a b c d : List RuleBreach) → a ++ (b ++ (c ++ d)) ≡ [] → (a ≡ []) × (c ≡ []) × (d ≡ [])
third_and_others a b c d e =
    let rest = back_nil b (c ++ d) (back_nil a (b ++ (c ++ d)) e) in
    (front_nil a (b ++ (c ++ d)) e, front_nil c d rest, back_nil c d rest)

taken : (at : Position) (last : Option Redefinable) (F : Forest) → forest_rules at last F ≡ [] → AreTaken at.around F
taken at last End e = tt
taken at last (Tree one conditions inner next) e =
    let item : Item = item_with at.around one inner in
    let after : Option Redefinable = redefinable_after one (occurrences one * item.length) last in
    let parts = third_and_others (forest_rules (below at one inner) None inner) (own_rules at one item inner last)
    (each (condition_rules item) conditions) (forest_rules at after next) e in
    (all_taken item conditions parts.1, taken (below at one inner) None inner parts.0, taken at after next parts.2)

-- ---- where they stand

places_taken : (around : Surroundings) (last here : ℕ) (F : Forest) → AreTaken around.around F
    → AllByRecursion TakesAll (places around last here F)
places_taken around last here End h = tt
places_taken around last here (Tree one conditions inner next) h =
    let item : Item = item_with around.around one inner in
    let at : ℕ = if redefines one then last else here in
    let after : ℕ = here + (if redefines one then 0 else occurrences one * item.length) in (
      h.0,
      all_append TakesAll (places (within around one item) at at inner) (places around at after next)
          (places_taken (within around one item) at at inner h.1) (places_taken around at after next h.2),
    )

storage_taken : (areas : ℕ) (F : Forest) → AreTaken nothing_around F → AllByRecursion TakesAll (storage_places areas F)
storage_taken areas End h = tt
storage_taken areas (Tree one conditions inner next) h =
    let area : ℕ = if redefines one then areas - 1 else areas in
    all_append TakesAll (places (top area []) 0 0 (Tree one conditions inner End)) (storage_places (area + 1) next)
    (places_taken (top area []) 0 0 (Tree one conditions inner End) (h.0, h.1, tt)) (storage_taken (area + 1) next h.2)

record_taken : (file : Name) (F : Forest) → AreTaken nothing_around F → (area : ℕ)
    → AllByRecursion TakesAll (record_places area file F)
record_taken file End h area = tt
record_taken file (Tree one conditions inner next) h area =
    all_append TakesAll (places (top area (file ∷ [])) 0 0 (Tree one conditions inner End))
    (record_places area file next)
    (places_taken (top area (file ∷ [])) 0 0 (Tree one conditions inner End) (h.0, h.1, tt))
    (record_taken file next h.2 area)

-- ---- the condition names of all items

kind_of : (kind : Kind) (length : ℕ) → IsOfLength kind length → IsKindOf kind length
kind_of kind.Group length h = tt
kind_of (kind.Alphabetic justified) length h = tt
kind_of (kind.Alphanumeric justified) length h = tt
kind_of kind.AlphanumericEdited length h = tt
kind_of (kind.NumericEdited blank) length h = tt
kind_of (kind.Numeric numeric) length h = h

of_item : (item : LocatedItem) (conditions : List ConditionEntry) → IsFormed item
    → AllByRecursion (Takes item.item) conditions → AllByRecursion CanBeSet (conditions_of item conditions)
of_item item [] form h = tt
of_item item (one ∷ more) form h =
    (record { kind = kind_of item.item.kind item.item.length form.form; value = h.0 }, of_item item more form h.1)

of_items : (items : List LocatedItem) → AllByRecursion IsFormed items → AllByRecursion TakesAll items
    → AllByRecursion CanBeSet (all_conditions items)
of_items [] form h = tt
of_items (one ∷ more) form h = all_append CanBeSet (conditions_of one one.conditions) (all_conditions more)
    (of_item one one.conditions form.0 h.0) (of_items more form.1 h.1)

pub all_can_be_set : (program : Program) → entry_rules program.storage ≡ []
    → descriptions_rules program.storage program.files ≡ [] → All CanBeSet (all_conditions (program_items program))
all_can_be_set program e f =
    let parts = rule_parts program.storage e in
    All-from_recursion CanBeSet (all_conditions (program_items program))
    (of_items (program_items program) (formed_by_recursion program e f)
    (all_append TakesAll (items_of program.storage) (file_places (storage_areas program.storage) program.files)
    (storage_taken 0 (forest_of program.storage) (taken (outermost false) None (forest_of program.storage) parts.1))
    (of_files TakesAll (storage_areas program.storage) program.files
    (of_descriptions _ (λ one kept. record_taken one.name (forest_of one.entries) (taken (outermost true) None
    (forest_of one.entries) kept.forest)) program.files (descriptions program.storage program.files f)))))
