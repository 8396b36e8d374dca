-- Items of entries that keep the rules have their form: an elementary one by its picture, and a group has items in it.
use Rattle.std.proofs.Common.{◌≡◌, ℕ, ◌+◌, ◌-◌, ◌*◌, ◌≤◌, Bool, true, false, ◌&&◌, ◌||◌, if◌then◌else◌, List, [], ◌∷◌}
use Rattle.std.proofs.Common.{None, Some, is_some, is_none, refl, arith}
use Rattle.std.specs.Prelude.{Option}
use Rattle.std.specs.List.{All, AllByRecursion}
use Rattle.std.proofs.Math.Nat.{mul-le-mul_right}
use Rattle.std.proofs.lemmas.List.Elements.{All-from_recursion}
use Rattle.picture.specs.declared.picture.Picture.{Picture}
use Rattle.picture.specs.Pictures.{picture_of}
use Rattle.items.specs.declared.item.Item.{Item}
use Rattle.source_tree.specs.declared.entry.Around.{Around}
use Rattle.source_tree.specs.declared.entry.PictureText.{PictureText}
use Rattle.source_tree.specs.declared.entry.ItemEntry.{ItemEntry}
use Rattle.source_tree.specs.declared.entry.Entry.{Entry}
use Rattle.source_tree.specs.declared.name.Name.{Name}
use Rattle.source_tree.specs.declared.select.FileDescription.{FileDescription}
use Rattle.source_tree.specs.declared.program.Program.{Program}
use Rattle.source_tree.specs.Levels.{Forest, End, Tree, forest_of}
use Rattle.source_tree.specs.Clauses.{nothing_around, inside, form_of, item_by, editing_in, editing_of, occurrences}
use Rattle.source_tree.specs.Rooms.{redefines, room, item_with}
use Rattle.source_tree.specs.Places.{Surroundings, within, places, top, storage_places, items_of}
use Rattle.source_tree.specs.Records.{storage_areas, record_places, file_places, program_items}
use Rattle.source_tree.specs.Broken.{each}
use Rattle.source_tree.specs.ClauseRules.{has_items, most_item_bytes, wrong_picture}
use Rattle.source_tree.specs.RedefinitionRules.{Redefinable, redefinable_after}
use Rattle.source_tree.specs.ValueRules.{condition_rules}
use Rattle.source_tree.specs.EntryRules.{Position, outermost, is_outermost, own_rules, below, forest_rules, entry_rules}
use Rattle.source_tree.specs.FileRules.{descriptions_rules}
use Rattle.initial_storage.specs.Formed.{IsFormed, HasForm, AreFormed, FormsFile}
use Rattle.data_entries.proofs.TreeRules.{three_parts}
use Rattle.initial_storage.proofs.Kept.{KeepsOwn, keeps_own, rule_parts}
use Rattle.initial_storage.proofs.KeptFiles.{Description, descriptions, of_descriptions, of_files}
use Rattle.initial_storage.proofs.Groups.{all_append}
use Rattle.initial_storage.proofs.Records.{redefines_some}
use Rattle.initial_storage.proofs.Pictures.{picture_read, elementary_formed, some_bytes}

-- ---- one item

by_picture : (around : Around) (one : ItemEntry) (text : List ℕ) (picture : Option Picture) → picture_of text ≡ picture
    → is_none picture ≡ false
    → (item_by around one picture 0).length ≤ most_item_bytes
    → HasForm (item_by around one picture 0) (editing_in around one picture)
by_picture around one text None read e most = cc
by_picture around one text (Some picture) read e most =
    elementary_formed around one picture (picture_read text picture read) most

elementary_item : (around : Around) (one : ItemEntry) (text : Option PictureText) → is_none (form_of text) ≡ false
    → (item_by around one (form_of text) 0).length ≤ most_item_bytes
    → HasForm (item_by around one (form_of text) 0) (editing_in around one (form_of text))
elementary_item around one None e most = cc
elementary_item around one (Some text) e most =
    by_picture around one text.characters (picture_of text.characters) refl e most

group_item : (around : Around) (one : ItemEntry) (text : Option PictureText) (b : Bool) (bytes : ℕ)
    → (is_some text || b) ≡ false → 1 ≤ bytes
    → (item_by around one (form_of text) bytes).length ≤ most_item_bytes
    → HasForm (item_by around one (form_of text) bytes) (editing_in around one (form_of text))
group_item around one None b bytes e some most = ((some, most), tt)
group_item around one (Some text) b bytes e some most = cc

item_formed : (around : Around) (one : ItemEntry) (inner : Forest) → wrong_picture one inner ≡ false
    → (has_items inner ≡ true → 1 ≤ room (inside around one) inner)
    → (item_with around one inner).length ≤ most_item_bytes
    → HasForm (item_with around one inner) (editing_of around one)
item_formed around one End e some most = elementary_item around one one.picture e most
item_formed around one (Tree other conditions inner next) e some most =
    group_item around one one.picture false (room (inside around one) (Tree other conditions inner next)) e (some refl)
    most

-- ---- all items

-- The first of a group redefines nothing, so it has bytes of its own.
first_bytes : (b : Bool) (times length rest : ℕ) → (b ≡ true → false ≡ true) → 1 ≤ times → 1 ≤ length
    → 1 ≤ (if b then 0 else times * length) + rest
first_bytes true times length rest h most some = let no : false ≡ true = h refl in cc
first_bytes false times length rest h most some = let once : 1 * length ≤ times * length =
    mul-le-mul_right length most in omega (arith, once, some)

some_room : (at : Position) (F : Forest) → has_items F ≡ true → AreFormed at.around F → forest_rules at None F ≡ []
    → 1 ≤ room at.around F
some_room at End some formed e = cc
some_room at (Tree one conditions inner next) some formed e =
    let item : Item = item_with at.around one inner in
    let bytes : ℕ = occurrences one * item.length in
    let parts = three_parts (forest_rules (below at one inner) None inner) (own_rules at one item inner None)
    (each (condition_rules item) conditions) (forest_rules at (redefinable_after one bytes None) next) e in
    let own : KeepsOwn at one inner None = keeps_own at one inner None parts.1 in
    first_bytes (redefines one) (occurrences one) item.length (room at.around next)
    (redefines_some (is_outermost at && at.in_file) one bytes one.redefines None own.redefinition) own.some
    (some_bytes item formed.0.0)

formed : (at : Position) (last : Option Redefinable) (F : Forest) → forest_rules at last F ≡ [] → AreFormed at.around F
formed at last End e = tt
formed at last (Tree one conditions inner next) e =
    let item : Item = item_with at.around one inner in
    let after : Option Redefinable = redefinable_after one (occurrences one * item.length) last in
    let parts = three_parts (forest_rules (below at one inner) None inner) (own_rules at one item inner last)
    (each (condition_rules item) conditions) (forest_rules at after next) e in
    let own : KeepsOwn at one inner last = keeps_own at one inner last parts.1 in
    let in_it : AreFormed (inside at.around one) inner = formed (below at one inner) None inner parts.0 in (
      item_formed at.around one inner own.picture (λ some. some_room (below at one inner) inner some in_it parts.0)
          own.bytes,
      in_it,
      formed at after next parts.2,
    )

-- ---- where they stand

places_formed : (around : Surroundings) (last here : ℕ) (F : Forest) → AreFormed around.around F
    → AllByRecursion IsFormed (places around last here F)
places_formed around last here End h = tt
places_formed around last here (Tree one conditions inner next) h =
    let item : Item = item_with around.around one inner in
    let at : ℕ = if redefines one then last else here in
    let after : ℕ = here + (if redefines one then 0 else occurrences one * item.length) in (
      record { form = h.0.0; editing = h.0.1 },
      all_append IsFormed (places (within around one item) at at inner) (places around at after next)
          (places_formed (within around one item) at at inner h.1) (places_formed around at after next h.2),
    )

storage_formed : (areas : ℕ) (F : Forest) → AreFormed nothing_around F
    → AllByRecursion IsFormed (storage_places areas F)
storage_formed areas End h = tt
storage_formed areas (Tree one conditions inner next) h =
    let area : ℕ = if redefines one then areas - 1 else areas in
    all_append IsFormed (places (top area []) 0 0 (Tree one conditions inner End)) (storage_places (area + 1) next)
    (places_formed (top area []) 0 0 (Tree one conditions inner End) (h.0, h.1, tt))
    (storage_formed (area + 1) next h.2)

record_formed : (file : Name) (F : Forest) → AreFormed nothing_around F → (area : ℕ)
    → AllByRecursion IsFormed (record_places area file F)
record_formed file End h area = tt
record_formed file (Tree one conditions inner next) h area =
    all_append IsFormed (places (top area (file ∷ [])) 0 0 (Tree one conditions inner End))
    (record_places area file next)
    (places_formed (top area (file ∷ [])) 0 0 (Tree one conditions inner End) (h.0, h.1, tt))
    (record_formed file next h.2 area)

-- all entries, one in another
pub forest_formed : (entries : List Entry) → entry_rules entries ≡ [] → AreFormed nothing_around (forest_of entries)
forest_formed entries e = let parts = rule_parts entries e in formed (outermost false) None (forest_of entries) parts.1

file_formed : (one : FileDescription) → Description one → FormsFile one
file_formed one kept = formed (outermost true) None (forest_of one.entries) kept.forest

pub files_formed : (storage : List Entry) (files : List FileDescription) → descriptions_rules storage files ≡ []
    → AllByRecursion FormsFile files
files_formed storage files e = of_descriptions FormsFile file_formed files (descriptions storage files e)

pub formed_by_recursion : (program : Program) → entry_rules program.storage ≡ []
    → descriptions_rules program.storage program.files ≡ [] → AllByRecursion IsFormed (program_items program)
formed_by_recursion program e f =
    all_append IsFormed (items_of program.storage) (file_places (storage_areas program.storage) program.files)
    (storage_formed 0 (forest_of program.storage) (forest_formed program.storage e))
    (of_files IsFormed (storage_areas program.storage) program.files
    (of_descriptions _ (λ one kept. record_formed one.name (forest_of one.entries) (file_formed one kept)) program.files
    (descriptions program.storage program.files f)))

pub all_formed : (program : Program) → entry_rules program.storage ≡ []
    → descriptions_rules program.storage program.files ≡ [] → All IsFormed (program_items program)
all_formed program e f = All-from_recursion IsFormed (program_items program) (formed_by_recursion program e f)
