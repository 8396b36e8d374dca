-- The items of a forest whose first item is known, and those of storage.
use Rattle.std.proofs.Common.{◌≡◌, ℕ, ◌+◌, ◌-◌, ◌*◌, ◌<◌, if◌then◌else◌, List, [], ◌∷◌, ◌++◌, refl, sym, ap, subst, ◌∙◌}
use Rattle.std.proofs.Common.{append_assoc}
use Rattle.std.specs.Prelude.{Option, map}
use Rattle.std.proofs.lemmas.List.{map-append, append-nil}
use Rattle.source_tree.specs.declared.name.Name.{Name}
use Rattle.source_tree.specs.declared.entry.ItemEntry.{ItemEntry}
use Rattle.source_tree.specs.declared.entry.ConditionEntry.{ConditionEntry}
use Rattle.source_tree.specs.declared.select.FileDescription.{FileDescription}
use Rattle.source_tree.specs.declared.program.Program.{Program}
use Rattle.source_tree.specs.Levels.{Forest, End, Tree, level_of, forest_of}
use Rattle.source_tree.specs.Names.{with_name}
use Rattle.source_tree.specs.Clauses.{occurrences}
use Rattle.source_tree.specs.Rooms.{redefines, item_with}
use Rattle.source_tree.specs.Places.{Surroundings, within, places, top, storage_places, items_of}
use Rattle.source_tree.specs.Records.{storage_areas, record_places, file_places, program_items}
use Rattle.data_entries.specs.Nesting.{HasLevel, AreTold}
use Rattle.name_table.specs.Positions.{NamePath}
use Rattle.name_table.specs.Items.{called_item, item_calls, entry_calls, record_calls}

pub has_level : (F : Forest) → AreTold F → HasLevel F
has_level End h = tt
has_level (Tree one conditions inner next) h = h.0

pub told_tree : (F : Forest) (one : ItemEntry) (conditions : List ConditionEntry) (inner next : Forest)
    → F ≡ Tree one conditions inner next → AreTold F → (level_of one < 100000) × AreTold inner × AreTold next
told_tree F one conditions inner next e h = subst AreTold e h

pub calls_step : (old new all : List NamePath) (groups : List Name) (F : Forest) (one : ItemEntry)
    (conditions : List ConditionEntry) (inner next : Forest) → F ≡ Tree one conditions inner next
    → new ≡ old ++ entry_calls groups one inner → old ++ item_calls groups F ≡ all → new ++ item_calls groups next ≡ all
calls_step old new all groups F one conditions inner next e added before =
    ap (λ l. l ++ item_calls groups next) added ∙ append_assoc old (entry_calls groups one inner)
    (item_calls groups next) ∙ ap (λ G. old ++ item_calls groups G) (sym e) ∙ before

pub calls_end : (old all : List NamePath) (groups : List Name) (F : Forest) → F ≡ End → old ++ item_calls groups F ≡ all
    → old ≡ all
calls_end old all groups F e before = sym (append-nil old) ∙ ap (λ G. old ++ item_calls groups G) (sym e) ∙ before

of_group : (around : Surroundings) (last here : ℕ) (F : Forest)
    → map called_item (places around last here F) ≡ item_calls around.groups F
of_group around last here End = refl
of_group around last here (Tree one conditions inner next) =
    let at : ℕ = if redefines one then last else here in
    let item = item_with around.around one inner in
    let behind : ℕ = here + (if redefines one then 0 else occurrences one * item.length) in
    let own : NamePath = record { name = one.name; around = around.groups } in
    ap (λ l. own ∷ l)
    (map-append called_item (places (within around one item) at at inner) (places around at behind next)
    ∙ ap (λ l. l ++ map called_item (places around at behind next)) (of_group (within around one item) at at inner)
    ∙ ap (λ l. item_calls (with_name one.name around.groups) inner ++ l) (of_group around at behind next))

of_storage : (areas : ℕ) (F : Forest) → map called_item (storage_places areas F) ≡ item_calls [] F
of_storage areas End = refl
of_storage areas (Tree one conditions inner next) =
    let area : ℕ = if redefines one then areas - 1 else areas in
    map-append called_item (places (top area []) 0 0 (Tree one conditions inner End)) (storage_places (area + 1) next)
    ∙ ap (λ l. l ++ map called_item (storage_places (area + 1) next))
    (of_group (top area []) 0 0 (Tree one conditions inner End) ∙ append-nil (entry_calls [] one inner))
    ∙ ap (λ l. entry_calls [] one inner ++ l) (of_storage (area + 1) next)

of_records : (area : ℕ) (file : Name) (F : Forest)
    → map called_item (record_places area file F) ≡ item_calls (file ∷ []) F
of_records area file End = refl
of_records area file (Tree one conditions inner next) =
    map-append called_item (places (top area (file ∷ [])) 0 0 (Tree one conditions inner End))
    (record_places area file next)
    ∙ ap (λ l. l ++ map called_item (record_places area file next)) (of_group (top area (file ∷ [])) 0 0
    (Tree one conditions inner End) ∙ append-nil (entry_calls (file ∷ []) one inner))
    ∙ ap (λ l. entry_calls (file ∷ []) one inner ++ l) (of_records area file next)

of_files : (area : ℕ) (files : List FileDescription) → map called_item (file_places area files) ≡ record_calls files
of_files area [] = refl
of_files area (one ∷ more) =
    map-append called_item (record_places area one.name (forest_of one.entries)) (file_places (area + 1) more)
    ∙ ap (λ l. l ++ map called_item (file_places (area + 1) more)) (of_records area one.name (forest_of one.entries))
    ∙ ap (λ l. item_calls (one.name ∷ []) (forest_of one.entries) ++ l) (of_files (area + 1) more)

pub of_program : (program : Program)
    → map called_item (program_items program) ≡ item_calls [] (forest_of program.storage) ++ record_calls program.files
of_program program =
    map-append called_item (items_of program.storage) (file_places (storage_areas program.storage) program.files)
    ∙ ap (λ l. l ++ map called_item (file_places (storage_areas program.storage) program.files))
    (of_storage 0 (forest_of program.storage))
    ∙ ap (λ l. item_calls [] (forest_of program.storage) ++ l) (of_files (storage_areas program.storage) program.files)

pub entered :
    (all declared old : List NamePath) (name told : Option Name) (groups around under : List Name) (inner : Forest)
    → all ≡ declared ++ item_calls under inner → declared ≡ old ++ record { name = told; around = around } ∷ []
    → told ≡ name → around ≡ groups → under ≡ with_name name groups
    → all ≡ old ++ (record { name = name; around = groups } ∷ item_calls (with_name name groups) inner)
entered all declared old name told groups around under inner e added named about below =
    e ∙ ap (λ l. l ++ item_calls under inner) added
    ∙ append_assoc old (record { name = told; around = around } ∷ []) (item_calls under inner)
    ∙ ap (λ n. old ++ (record { name = n; around = around } ∷ item_calls under inner)) named
    ∙ ap (λ g. old ++ (record { name = name; around = g } ∷ item_calls under inner)) about
    ∙ ap (λ u. old ++ (record { name = name; around = groups } ∷ item_calls u inner)) below
