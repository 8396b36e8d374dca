-- The items of a program are those of its entries, in their order.
use Rattle.std.proofs.Common.{◌≡◌, ℕ, ◌+◌, ◌-◌, ◌*◌, Bool, true, false, if◌then◌else◌, List, [], ◌∷◌, ◌++◌, Some, refl}
use Rattle.std.proofs.Common.{sym, ap, ◌∙◌, append_assoc, nat_lt}
use Rattle.std.specs.Prelude.{map, slice_get}
use Rattle.std.specs.Option.{option_map}
use Rattle.std.proofs.lemmas.List.{append-nil, map-append}
use Rattle.std.proofs.lemmas.Option.{slice_get-map}
use Rattle.items.specs.declared.item.Item.{Item}
use Rattle.source_tree.specs.declared.name.Name.{Name}
use Rattle.source_tree.specs.declared.entry.ItemEntry.{ItemEntry}
use Rattle.source_tree.specs.declared.entry.ConditionEntry.{ConditionEntry}
use Rattle.source_tree.specs.declared.entry.Entry.{Entry}
use Rattle.source_tree.specs.declared.entry.Entry.TheVariants as entry
use Rattle.source_tree.specs.declared.select.FileDescription.{FileDescription}
use Rattle.source_tree.specs.declared.program.Program.{Program}
use Rattle.source_tree.specs.Clauses.{occurrences}
use Rattle.source_tree.specs.Levels.{Forest, End, Tree, level_of, deeper, beyond, forest_of}
use Rattle.source_tree.specs.Places.{LocatedItem, Surroundings, within, places, top, storage_places, items_of}
use Rattle.source_tree.specs.Records.{storage_areas, record_places, file_places, program_items}
use Rattle.source_tree.specs.Rooms.{redefines, item_with}
use Rattle.declarations.specs.Entries.{items_among, items_of_files}

abbrev entry_of : LocatedItem → ItemEntry
entry_of one = one.entry

-- those of a tree, each before those in it
abbrev in_forest : Forest → List ItemEntry
in_forest End = []
in_forest (Tree one conditions inner next) = one ∷ (in_forest inner ++ in_forest next)

split_by : (b : Bool) (level : ℕ) (one : ItemEntry) (conditions : List ConditionEntry) (inner next : Forest)
    → nat_lt level (level_of one) ≡ b
    → in_forest (deeper level next) ++ in_forest (beyond level next) ≡ in_forest next
    → in_forest (deeper level (Tree one conditions inner next))
    ++ in_forest (beyond level (Tree one conditions inner next)) ≡ in_forest (Tree one conditions inner next)
split_by true level one conditions inner next e h =
    rw e (ap (λ l. one ∷ l) (append_assoc (in_forest inner) (in_forest (deeper level next))
    (in_forest (beyond level next)) ∙ ap (λ l. in_forest inner ++ l) h))
split_by false level one conditions inner next e h = rw e refl

split : (level : ℕ) (F : Forest) → in_forest (deeper level F) ++ in_forest (beyond level F) ≡ in_forest F
split level End = refl
split level (Tree one conditions inner next) =
    split_by (nat_lt level (level_of one)) level one conditions inner next refl (split level next)

in_entries : (entries : List Entry) → in_forest (forest_of entries) ≡ items_among entries
in_entries [] = refl
in_entries (entry.Item one ∷ more) = ap (λ l. one ∷ l) (split (level_of one) (forest_of more) ∙ in_entries more)
in_entries (entry.Condition one ∷ more) = in_entries more

in_places : (around : Surroundings) (last here : ℕ) (F : Forest)
    → map entry_of (places around last here F) ≡ in_forest F
in_places around last here End = refl
in_places around last here (Tree one conditions inner next) =
    let item : Item = item_with around.around one inner in
    let at : ℕ = if redefines one then last else here in
    let behind : ℕ = here + (if redefines one then 0 else occurrences one * item.length) in
    ap (λ l. one ∷ l) (map-append entry_of (places (within around one item) at at inner) (places around at behind next)
    ∙ ap (λ l. l ++ map entry_of (places around at behind next)) (in_places (within around one item) at at inner)
    ∙ ap (λ l. in_forest inner ++ l) (in_places around at behind next))

one_tree : (around : Surroundings) (one : ItemEntry) (conditions : List ConditionEntry) (inner next : Forest)
    (rest : List LocatedItem) → map entry_of rest ≡ in_forest next
    → map entry_of (places around 0 0 (Tree one conditions inner End) ++ rest)
    ≡ in_forest (Tree one conditions inner next)
one_tree around one conditions inner next rest h =
    let tree = places around 0 0 (Tree one conditions inner End) in
    map-append entry_of tree rest
    ∙ ap (λ l. l ++ map entry_of rest) (in_places around 0 0 (Tree one conditions inner End))
    ∙ ap (λ l. one ∷ (l ++ map entry_of rest)) (append-nil (in_forest inner)) ∙ ap (λ l. one ∷ (in_forest inner ++ l)) h

in_storage : (areas : ℕ) (F : Forest) → map entry_of (storage_places areas F) ≡ in_forest F
in_storage areas End = refl
in_storage areas (Tree one conditions inner next) =
    let area : ℕ = if redefines one then areas - 1 else areas in
    one_tree (top area []) one conditions inner next (storage_places (area + 1) next) (in_storage (area + 1) next)

in_records : (area : ℕ) (file : Name) (F : Forest) → map entry_of (record_places area file F) ≡ in_forest F
in_records area file End = refl
in_records area file (Tree one conditions inner next) =
    one_tree (top area (file ∷ [])) one conditions inner next (record_places area file next) (in_records area file next)

in_files : (area : ℕ) (files : List FileDescription) → map entry_of (file_places area files) ≡ items_of_files files
in_files area [] = refl
in_files area (one ∷ more) =
    map-append entry_of (record_places area one.name (forest_of one.entries)) (file_places (area + 1) more)
    ∙ ap (λ l. l ++ map entry_of (file_places (area + 1) more)) (in_records area one.name (forest_of one.entries)
    ∙ in_entries one.entries)
    ∙ ap (λ l. items_among one.entries ++ l) (in_files (area + 1) more)

in_program : (program : Program)
    → map entry_of (program_items program) ≡ items_among program.storage ++ items_of_files program.files
in_program program =
    map-append entry_of (items_of program.storage) (file_places (storage_areas program.storage) program.files)
    ∙ ap (λ l. l ++ map entry_of (file_places (storage_areas program.storage) program.files))
    (in_storage 0 (forest_of program.storage) ∙ in_entries program.storage)
    ∙ ap (λ l. items_among program.storage ++ l) (in_files (storage_areas program.storage) program.files)

-- the entry of the item of this number
pub entry_at : (program : Program) (number : ℕ) (one : LocatedItem)
    → slice_get (program_items program) number ≡ Some one
    → slice_get (items_among program.storage ++ items_of_files program.files) number ≡ Some one.entry
entry_at program number one e =
    ap (λ l. slice_get l number) (sym (in_program program)) ∙ slice_get-map entry_of (program_items program) number
    ∙ ap (option_map entry_of) e
