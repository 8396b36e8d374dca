-- The places of the definition are those that the code takes, one after another.
use Rattle.std.proofs.Common.{◌≡◌, ℕ, ◌+◌, ◌-◌, Bool, true, false, if◌then◌else◌, List, [], ◌∷◌, ◌++◌, refl, ap, ◌∙◌}
use Rattle.std.specs.Prelude.{map}
use Rattle.std.proofs.lemmas.List.{map-append, append-nil}
use Rattle.source_tree.specs.declared.entry.ItemEntry.{ItemEntry}
use Rattle.source_tree.specs.declared.name.Name.{Name}
use Rattle.source_tree.specs.declared.select.FileDescription.{FileDescription}
use Rattle.source_tree.specs.declared.program.Program.{Program}
use Rattle.source_tree.specs.Levels.{Forest, End, Tree, forest_of}
use Rattle.source_tree.specs.Clauses.{nothing_around, inside}
use Rattle.source_tree.specs.Rooms.{redefines, item_with}
use Rattle.source_tree.specs.Places.{Surroundings, with_dimension, within, places, top, storage_places, items_of}
use Rattle.source_tree.specs.Records.{storage_areas, record_places, file_places, program_items}
use Rattle.layout.specs.declared.placed.PlacedItem.{PlacedItem}
use Rattle.layout.specs.Placing.{placed_item, occupied_bytes, own_item, entry_items, group_items, storage_items}
use Rattle.layout.specs.Placing.{record_items, file_items}

pub of_group : (around : Surroundings) (last here : ℕ) (F : Forest)
    → map placed_item (places around last here F) ≡ group_items around.around around.area around.dimensions last here F
unfolding group_items
of_group around last here End = refl
of_group around last here (Tree one conditions inner next) =
    let at : ℕ = if redefines one then last else here in
    let own : PlacedItem =
    own_item around.around around.area around.dimensions one (item_with around.around one inner) at in
    ap (λ l. own ∷ l) (map-append placed_item (places (within around one (item_with around.around one inner)) at at
    inner) (places around at (here + occupied_bytes around.around one inner) next))
    ∙ ap (λ l. own ∷ (l ++ map placed_item (places around at (here + occupied_bytes around.around one inner) next)))
    (of_group (within around one (item_with around.around one inner)) at at inner)
    ∙ ap (λ l. own ∷ (group_items (inside around.around one) around.area
    (with_dimension one.occurs (item_with around.around one inner).length around.dimensions) at at inner ++ l))
    (of_group around at (here + occupied_bytes around.around one inner) next)

same_place : (b : Bool) → ◌≡◌ {A = ℕ} (if b then 0 else 0) 0
same_place true = refl
same_place false = refl

-- a 01 or 77 by itself
alone : (area : ℕ) (one : ItemEntry) (inner : Forest) (at : ℕ) → at ≡ 0
    → (own_item nothing_around area [] one (item_with nothing_around one inner) at ∷ (group_items (inside nothing_around
    one) area (with_dimension one.occurs (item_with nothing_around one inner).length []) at at inner ++ []))
    ≡ entry_items nothing_around area [] one inner 0
alone area one inner at e =
    ap (λ l. own_item nothing_around area [] one (item_with nothing_around one inner) at ∷ l)
    (append-nil (group_items (inside nothing_around one) area
    (with_dimension one.occurs (item_with nothing_around one inner).length []) at at inner))
    ∙ ap (λ n. entry_items nothing_around area [] one inner n) e

of_entry : (area : ℕ) (one : ItemEntry) (inner : Forest)
    → group_items nothing_around area [] 0 0 (Tree one [] inner End) ≡ entry_items nothing_around area [] one inner 0
unfolding group_items
of_entry area one inner = alone area one inner (if redefines one then 0 else 0) (same_place (redefines one))

of_storage : (areas : ℕ) (F : Forest) → map placed_item (storage_places areas F) ≡ storage_items areas F
unfolding storage_items group_items
of_storage areas End = refl
of_storage areas (Tree one conditions inner next) =
    let area : ℕ = if redefines one then areas - 1 else areas in
    map-append placed_item (places (top area []) 0 0 (Tree one conditions inner End)) (storage_places (area + 1) next)
    ∙ ap (λ l. l ++ map placed_item (storage_places (area + 1) next))
    (of_group (top area []) 0 0 (Tree one conditions inner End) ∙ of_entry area one inner)
    ∙ ap (λ l. entry_items nothing_around area [] one inner 0 ++ l) (of_storage (area + 1) next)

of_records : (area : ℕ) (file : Name) (F : Forest) → map placed_item (record_places area file F) ≡ record_items area F
unfolding record_items group_items
of_records area file End = refl
of_records area file (Tree one conditions inner next) =
    map-append placed_item (places (top area (file ∷ [])) 0 0 (Tree one conditions inner End))
    (record_places area file next)
    ∙ ap (λ l. l ++ map placed_item (record_places area file next))
    (of_group (top area (file ∷ [])) 0 0 (Tree one conditions inner End) ∙ of_entry area one inner)
    ∙ ap (λ l. entry_items nothing_around area [] one inner 0 ++ l) (of_records area file next)

of_files : (area : ℕ) (files : List FileDescription) → map placed_item (file_places area files) ≡ file_items area files
unfolding file_items
of_files area [] = refl
of_files area (one ∷ more) =
    map-append placed_item (record_places area one.name (forest_of one.entries)) (file_places (area + 1) more)
    ∙ ap (λ l. l ++ map placed_item (file_places (area + 1) more)) (of_records area one.name (forest_of one.entries))
    ∙ ap (λ l. record_items area (forest_of one.entries) ++ l) (of_files (area + 1) more)

pub of_program : (program : Program) → map placed_item (program_items program) ≡ storage_items 0
    (forest_of program.storage) ++ file_items (storage_areas program.storage) program.files
of_program program =
    map-append placed_item (items_of program.storage) (file_places (storage_areas program.storage) program.files)
    ∙ ap (λ l. l ++ map placed_item (file_places (storage_areas program.storage) program.files))
    (of_storage 0 (forest_of program.storage))
    ∙ ap (λ l. storage_items 0 (forest_of program.storage) ++ l)
    (of_files (storage_areas program.storage) program.files)
