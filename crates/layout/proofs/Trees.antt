-- What is known of a forest whose first item is known.
use Rattle.std.proofs.Common.{◌≡◌, ℕ, ◌+◌, ◌-◌, if◌then◌else◌, List, [], ◌∷◌, ◌++◌, sym, ap, subst, ◌∙◌, append_assoc}
use Rattle.std.proofs.Common.{refl, ◌≤◌, ◌<◌, Bool, true, false, length, get_or, drop, drop-cons, add-one, arith}
use Rattle.std.proofs.lemmas.List.{append-nil}
use Rattle.source_tree.specs.declared.table.Dimension.{Dimension}
use Rattle.source_tree.specs.declared.entry.Around.{Around}
use Rattle.source_tree.specs.declared.entry.Entry.{Entry}
use Rattle.source_tree.specs.declared.entry.ItemEntry.{ItemEntry}
use Rattle.source_tree.specs.declared.entry.ConditionEntry.{ConditionEntry}
use Rattle.source_tree.specs.declared.select.FileDescription.{FileDescription}
use Rattle.source_tree.specs.Levels.{Forest, End, Tree, forest_of}
use Rattle.source_tree.specs.Clauses.{nothing_around, inside}
use Rattle.source_tree.specs.EntryRules.{most_entries}
use Rattle.source_tree.specs.Rooms.{redefines, room}
use Rattle.data_entries.specs.Nesting.{HasLevel}
use Rattle.layout.specs.declared.placed.PlacedItem.{PlacedItem}
use Rattle.layout.specs.Fits.{FitsEntry, Fits, FitsFile, FitFiles}
use Rattle.layout.specs.Placing.{occupied_bytes, entry_items, group_items, storage_items, record_items, file_items}

pub fits_tree :
    (around : Around) (F : Forest) (one : ItemEntry) (conditions : List ConditionEntry) (inner next : Forest)
    → F ≡ Tree one conditions inner next → Fits around F → FitsEntry around one inner × Fits (inside around one) inner
    × Fits around next
fits_tree around F one conditions inner next e h = subst (λ G. Fits around G) e h

pub room_tree :
    (around : Around) (F : Forest) (one : ItemEntry) (conditions : List ConditionEntry) (inner next : Forest)
    → F ≡ Tree one conditions inner next → room around F ≡ occupied_bytes around one inner + room around next
room_tree around F one conditions inner next e = ap (room around) e

pub has_level : (around : Around) (F : Forest) → Fits around F → HasLevel F
has_level around End h = tt
has_level around (Tree one conditions inner next) h = h.0.level

-- an item, and those in it after it
pub placed_entry : (old one two inside : List PlacedItem) (own placed : PlacedItem) → placed ≡ own
    → one ≡ old ++ placed ∷ [] → two ≡ one ++ inside → two ≡ old ++ (own ∷ inside)
placed_entry old one two inside own placed same pushed behind =
    behind ∙ ap (λ l. l ++ inside) pushed ∙ append_assoc old (placed ∷ []) inside ∙ ap (λ p. old ++ (p ∷ inside)) same

-- the first item of a group, those in it, and the items after it
pub placed_tree : (out : List PlacedItem) (around : Around) (area : ℕ) (dimensions : List Dimension) (last here at : ℕ)
    (F : Forest) (one : ItemEntry) (conditions : List ConditionEntry) (inner next : Forest)
    → F ≡ Tree one conditions inner next → at ≡ (if redefines one then last else here)
    → (out ++ entry_items around area dimensions one inner at)
    ++ group_items around area dimensions at (here + occupied_bytes around one inner) next
    ≡ out ++ group_items around area dimensions last here F
unfolding group_items
placed_tree out around area dimensions last here at F one conditions inner next e begin =
    append_assoc out (entry_items around area dimensions one inner at)
    (group_items around area dimensions at (here + occupied_bytes around one inner) next)
    ∙ ap (λ n. out ++ (entry_items around area dimensions one inner n
    ++ group_items around area dimensions n (here + occupied_bytes around one inner) next)) begin
    ∙ ap (λ G. out ++ group_items around area dimensions last here G) (sym e)

-- the first 01 or 77, and those after it
pub stored_tree : (out : List PlacedItem) (areas area : ℕ) (F : Forest) (one : ItemEntry)
    (conditions : List ConditionEntry) (inner next : Forest)
    → F ≡ Tree one conditions inner next → area ≡ (if redefines one then areas - 1 else areas)
    → (out ++ entry_items nothing_around area [] one inner 0) ++ storage_items (area + 1) next
    ≡ out ++ storage_items areas F
unfolding storage_items
stored_tree out areas area F one conditions inner next e is =
    append_assoc out (entry_items nothing_around area [] one inner 0) (storage_items (area + 1) next)
    ∙ ap (λ n. out ++ (entry_items nothing_around n [] one inner 0 ++ storage_items (n + 1) next)) is
    ∙ ap (λ G. out ++ storage_items areas G) (sym e)

-- ---- turns of the loops

pub below_if : (b : Bool) (n x y m : ℕ) → n ≡ (if b then x else y) → x ≤ m → y ≤ m → n ≤ m
below_if true n x y m e hx hy = omega (arith, e)
below_if false n x y m e hx hy = omega (arith, e)

pub group_step : (new out all : List PlacedItem) (around : Around) (area : ℕ) (dimensions : List Dimension)
    (last here at n : ℕ) (F : Forest) (one : ItemEntry) (conditions : List ConditionEntry) (inner next : Forest)
    → F ≡ Tree one conditions inner next → at ≡ (if redefines one then last else here)
    → n ≡ occupied_bytes around one inner
    → new ≡ out ++ entry_items around area dimensions one inner at
    → out ++ group_items around area dimensions last here F ≡ all
    → new ++ group_items around area dimensions at (here + n) next ≡ all
group_step new out all around area dimensions last here at n F one conditions inner next e begin bytes added before =
    ap (λ l. l ++ group_items around area dimensions at (here + n) next) added
    ∙ ap (λ m. (out ++ entry_items around area dimensions one inner at)
    ++ group_items around area dimensions at (here + m) next) bytes
    ∙ placed_tree out around area dimensions last here at F one conditions inner next e begin ∙ before

pub group_end :
    (out all : List PlacedItem) (around : Around) (area : ℕ) (dimensions : List Dimension) (last here : ℕ) (F : Forest)
    → F ≡ End → out ++ group_items around area dimensions last here F ≡ all → out ≡ all
unfolding group_items
group_end out all around area dimensions last here F e before =
    sym (append-nil out) ∙ ap (λ G. out ++ group_items around area dimensions last here G) (sym e) ∙ before

pub storage_step : (new out all : List PlacedItem) (areas area : ℕ) (F : Forest) (one : ItemEntry)
    (conditions : List ConditionEntry) (inner next : Forest)
    → F ≡ Tree one conditions inner next → area ≡ (if redefines one then areas - 1 else areas)
    → new ≡ out ++ entry_items nothing_around area [] one inner 0 → out ++ storage_items areas F ≡ all
    → new ++ storage_items (area + 1) next ≡ all
storage_step new out all areas area F one conditions inner next e is added before =
    ap (λ l. l ++ storage_items (area + 1) next) added ∙ stored_tree out areas area F one conditions inner next e is
    ∙ before

pub storage_end : (out all : List PlacedItem) (areas : ℕ) (F : Forest) → F ≡ End → out ++ storage_items areas F ≡ all
    → out ≡ all
unfolding storage_items
storage_end out all areas F e before = sym (append-nil out) ∙ ap (λ G. out ++ storage_items areas G) (sym e) ∙ before

pub record_step : (new out all : List PlacedItem) (area : ℕ) (F : Forest) (one : ItemEntry)
    (conditions : List ConditionEntry) (inner next : Forest)
    → F ≡ Tree one conditions inner next → new ≡ out ++ entry_items nothing_around area [] one inner 0
    → out ++ record_items area F ≡ all → new ++ record_items area next ≡ all
unfolding record_items
record_step new out all area F one conditions inner next e added before =
    ap (λ l. l ++ record_items area next) added
    ∙ append_assoc out (entry_items nothing_around area [] one inner 0) (record_items area next)
    ∙ ap (λ G. out ++ record_items area G) (sym e) ∙ before

pub record_end : (out all : List PlacedItem) (area : ℕ) (F : Forest) → F ≡ End → out ++ record_items area F ≡ all
    → out ≡ all
unfolding record_items
record_end out all area F e before = sym (append-nil out) ∙ ap (λ G. out ++ record_items area G) (sym e) ∙ before

-- ---- files, one after another

rest_at : (files : List FileDescription) (i : ℕ) (one : FileDescription) → i < length files
    → one ≡ get_or files i one → drop i files ≡ one ∷ drop (i + 1) files
rest_at files i one h is = drop-cons files i one h ∙ ap (λ k. get_or files i one ∷ drop k files) (sym (add-one i))
    ∙ ap (λ x. x ∷ drop (i + 1) files) (sym is)

fits_first : (files more : List FileDescription) (one : FileDescription) → files ≡ one ∷ more → FitFiles files
    → FitsFile one × FitFiles more
fits_first files more one e h = subst FitFiles e h

file_step : (new out all : List PlacedItem) (area after : ℕ) (files more : List FileDescription)
    (one : FileDescription) → files ≡ one ∷ more → after ≡ area + 1
    → new ≡ out ++ record_items area (forest_of one.entries) → out ++ file_items area files ≡ all
    → new ++ file_items after more ≡ all
unfolding file_items
file_step new out all area after files more one e next added before =
    ap (λ l. l ++ file_items after more) added
    ∙ append_assoc out (record_items area (forest_of one.entries)) (file_items after more)
    ∙ ap (λ n. out ++ (record_items area (forest_of one.entries) ++ file_items n more)) next
    ∙ ap (λ l. out ++ file_items area l) (sym e) ∙ before

-- the file of a turn, whose entries are these
module _ (files : List FileDescription) (i : ℕ) (one : FileDescription) (entries : List Entry) (lt : i < length files)
    (is : one ≡ get_or files i one) (same : entries ≡ one.entries) (fits : FitFiles (drop i files)) where
  pub file_fits : Fits nothing_around (forest_of entries)
  file_fits = subst (λ l. Fits nothing_around (forest_of l)) (sym same)
      (fits_first (drop i files) (drop (i + 1) files) one (rest_at files i one lt is) fits).0.entries

  pub file_short : length entries ≤ most_entries
  file_short = subst (λ l. length l ≤ most_entries) (sym same)
      (fits_first (drop i files) (drop (i + 1) files) one (rest_at files i one lt is) fits).0.most

  pub file_turn : (new out all : List PlacedItem) (area : ℕ) → new ≡ out ++ record_items area (forest_of entries)
      → out ++ file_items area (drop i files) ≡ all
      → FitFiles (drop (i + 1) files) × (new ++ file_items (area + 1) (drop (i + 1) files) ≡ all)
  file_turn new out all area added before =
      let rest = rest_at files i one lt is in (
        (fits_first (drop i files) (drop (i + 1) files) one rest fits).1,
        file_step new out all area (area + 1) (drop i files) (drop (i + 1) files) one rest refl
            (added ∙ ap (λ l. out ++ record_items area (forest_of l)) same) before,
      )

pub file_end : (out all : List PlacedItem) (area : ℕ) (files : List FileDescription) → files ≡ []
    → out ++ file_items area files ≡ all → out ≡ all
unfolding file_items
file_end out all area files e before = sym (append-nil out) ∙ ap (λ l. out ++ file_items area l) (sym e) ∙ before
