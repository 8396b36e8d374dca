-- Items in the order of their entries, counted, and those that the definitions place.
use Rattle.std.proofs.Common.{◌≡◌, ℕ, zero, suc, ◌+◌, ◌-◌, ◌*◌, Bool, true, false, nat_lt, if◌then◌else◌, List, [], ◌∷◌}
use Rattle.std.proofs.Common.{◌++◌, length, drop, get_or, drop-cons, add-one, ◌≤◌, ◌<◌, None, Some, refl, ap, sym, ◌∙◌}
use Rattle.std.proofs.Common.{length-append, arith, subst}
use Rattle.std.specs.List.{AllByRecursion}
use Rattle.std.specs.Prelude.{Option, map, slice_get}
use Rattle.std.specs.Option.{option_map}
use Rattle.std.proofs.lemmas.List.{map-append, append-nil, drop_all}
use Rattle.std.proofs.lemmas.Option.{slice_get-map}
use Rattle.source_tree.specs.declared.name.Name.{Name}
use Rattle.source_tree.specs.declared.entry.Around.{Around}
use Rattle.source_tree.specs.declared.entry.ItemEntry.{ItemEntry}
use Rattle.source_tree.specs.declared.entry.ConditionEntry.{ConditionEntry}
use Rattle.source_tree.specs.declared.entry.Entry.{Entry}
use Rattle.source_tree.specs.declared.entry.Entry.TheVariants.{Item, Condition}
use Rattle.source_tree.specs.declared.select.FileDescription.{FileDescription}
use Rattle.source_tree.specs.Levels.{Forest, End, Tree, level_of, deeper, beyond, forest_of}
use Rattle.source_tree.specs.Clauses.{nothing_around, inside, occurrences}
use Rattle.source_tree.specs.Rooms.{redefines, item_with}
use Rattle.source_tree.specs.Places.{LocatedItem, Surroundings, within, places, top, storage_places, items_of}
use Rattle.source_tree.specs.Records.{storage_areas, record_places, file_places}
use Rattle.source_tree.specs.Initializing.{Pattern}
use Rattle.initial_storage.specs.Patterns.{Outline, outline, outline_of, outlines, file_outlines, outlines_with}
use Rattle.initial_storage.specs.Patterns.{items_with, outline_pattern, pattern_at, IsFoundAt}
use Rattle.initial_storage.specs.declared.outlines.Found.{Found}

abbrev pub entry_count : List Entry → ℕ
entry_count [] = 0
entry_count (Item one ∷ more) = suc (entry_count more)
entry_count (Condition one ∷ more) = entry_count more

abbrev item_count : Forest → ℕ
item_count End = 0
item_count (Tree one conditions inner next) = suc (item_count inner + item_count next)

outlines_count : (around : Around) (F : Forest) → length (outlines around F) ≡ item_count F
outlines_count around End = refl
outlines_count around (Tree one conditions inner next) =
    omega (
      arith,
      length-append (outlines (inside around one) inner) (outlines around next),
      outlines_count (inside around one) inner,
      outlines_count around next,
    )

parted : (b : Bool) (one : ItemEntry) (conditions : List ConditionEntry) (inner next first rest : Forest)
    → item_count first + item_count rest ≡ item_count next
    → item_count (if b then Tree one conditions inner first else End)
    + item_count (if b then rest else Tree one conditions inner next) ≡ suc (item_count inner + item_count next)
parted true one conditions inner next first rest e = omega (arith, e)
parted false one conditions inner next first rest e = omega arith

split_count : (level : ℕ) (F : Forest) → item_count (deeper level F) + item_count (beyond level F) ≡ item_count F
split_count level End = refl
split_count level (Tree one conditions inner next) =
    parted (nat_lt level (level_of one)) one conditions inner next (deeper level next) (beyond level next)
    (split_count level next)

nested_count : (entries : List Entry) → item_count (forest_of entries) ≡ entry_count entries
nested_count [] = refl
nested_count (Item one ∷ more) = ap suc (split_count (level_of one) (forest_of more) ∙ nested_count more)
nested_count (Condition one ∷ more) = nested_count more

pub all_counted : (around : Around) (entries : List Entry)
    → length (outlines around (forest_of entries)) ≡ entry_count entries
all_counted around entries = outlines_count around (forest_of entries) ∙ nested_count entries

-- and as many have been counted at the end
pub counted_all : (around : Around) (entries : List Entry) (n count : ℕ)
    → count + entry_count (drop n entries) ≡ entry_count entries → length entries ≤ n
    → count ≡ length (outlines around (forest_of entries))
counted_all around entries n count so_far past =
    let none : entry_count (drop n entries) ≡ 0 = ap entry_count (drop_all n entries past) in
    omega (arith, none, so_far, all_counted around entries)

-- ---- where they stand

places_outlined : (around : Surroundings) (last here : ℕ) (F : Forest)
    → map outline_of (places around last here F) ≡ outlines around.around F
places_outlined around last here End = refl
places_outlined around last here (Tree one conditions inner next) =
    let item = item_with around.around one inner in
    let at : ℕ = if redefines one then last else here in
    let after : ℕ = here + (if redefines one then 0 else occurrences one * item.length) in
    let first = places (within around one item) at at inner in
    let own : Outline = outline around.around one inner in
    ap (λ l. own ∷ l) (map-append outline_of first (places around at after next))
    ∙ ap (λ l. own ∷ (l ++ map outline_of (places around at after next)))
    (places_outlined (within around one item) at at inner)
    ∙ ap (λ l. own ∷ (outlines (inside around.around one) inner ++ l)) (places_outlined around at after next)

storage_outlined : (areas : ℕ) (F : Forest) → map outline_of (storage_places areas F) ≡ outlines nothing_around F
storage_outlined areas End = refl
storage_outlined areas (Tree one conditions inner next) =
    let area : ℕ = if redefines one then areas - 1 else areas in
    let own : Outline = outline nothing_around one inner in
    let deep : List Outline = outlines (inside nothing_around one) inner in
    map-append outline_of (places (top area []) 0 0 (Tree one conditions inner End)) (storage_places (area + 1) next)
    ∙ ap (λ l. l ++ map outline_of (storage_places (area + 1) next))
    (places_outlined (top area []) 0 0 (Tree one conditions inner End))
    ∙ ap (λ l. (own ∷ l) ++ map outline_of (storage_places (area + 1) next)) (append-nil deep)
    ∙ ap (λ l. (own ∷ deep) ++ l) (storage_outlined (area + 1) next)

record_outlined : (area : ℕ) (file : Name) (F : Forest)
    → map outline_of (record_places area file F) ≡ outlines nothing_around F
record_outlined area file End = refl
record_outlined area file (Tree one conditions inner next) =
    let own : Outline = outline nothing_around one inner in
    let deep : List Outline = outlines (inside nothing_around one) inner in
    map-append outline_of (places (top area (file ∷ [])) 0 0 (Tree one conditions inner End))
    (record_places area file next)
    ∙ ap (λ l. l ++ map outline_of (record_places area file next))
    (places_outlined (top area (file ∷ [])) 0 0 (Tree one conditions inner End))
    ∙ ap (λ l. (own ∷ l) ++ map outline_of (record_places area file next)) (append-nil deep)
    ∙ ap (λ l. (own ∷ deep) ++ l) (record_outlined area file next)

files_outlined : (area : ℕ) (files : List FileDescription)
    → map outline_of (file_places area files) ≡ file_outlines files
files_outlined area [] = refl
files_outlined area (one ∷ more) =
    map-append outline_of (record_places area one.name (forest_of one.entries)) (file_places (area + 1) more)
    ∙ ap (λ l. l ++ map outline_of (file_places (area + 1) more))
    (record_outlined area one.name (forest_of one.entries))
    ∙ ap (λ l. outlines nothing_around (forest_of one.entries) ++ l) (files_outlined (area + 1) more)

items_outlined : (storage : List Entry) (files : List FileDescription)
    → map outline_of (items_with storage files) ≡ outlines_with storage files
items_outlined storage files =
    map-append outline_of (items_of storage) (file_places (storage_areas storage) files)
    ∙ ap (λ l. l ++ map outline_of (file_places (storage_areas storage) files)) (storage_outlined 0 (forest_of storage))
    ∙ ap (λ l. outlines nothing_around (forest_of storage) ++ l) (files_outlined (storage_areas storage) files)

-- ---- the item of a number, in one list or in the one after it

in_first : (xs ys : List Outline) (n : ℕ) → n < length xs → slice_get (xs ++ ys) n ≡ slice_get xs n
in_first [] ys n h = absurd (omega arith)
in_first (one ∷ more) ys zero h = refl
in_first (one ∷ more) ys (suc n) h = in_first more ys n (omega arith)

in_second : (xs ys : List Outline) (n : ℕ) → length xs ≤ n → slice_get (xs ++ ys) n ≡ slice_get ys (n - length xs)
in_second [] ys n h = let same : n ≡ n - 0 = omega arith in ap (slice_get ys) same
in_second (one ∷ more) ys zero h = absurd (omega arith)
in_second (one ∷ more) ys (suc n) h =
    let same : n - length more ≡ suc n - suc (length more) = omega arith in
    in_second more ys n (omega arith) ∙ ap (slice_get ys) same

rest_at : (files : List FileDescription) (i : ℕ) (one : FileDescription) → i < length files
    → one ≡ get_or files i one → drop i files ≡ one ∷ drop (i + 1) files
rest_at files i one h is = drop-cons files i one h ∙ ap (λ k. get_or files i one ∷ drop k files) (sym (add-one i))
    ∙ ap (λ x. x ∷ drop (i + 1) files) (sym is)

pub found_if : (all others : List Outline) (n m : ℕ) (found : Option Found) → slice_get all n ≡ slice_get others m
    → IsFoundAt others m found → IsFoundAt all n found
found_if all others n m None e h = e ∙ h
found_if all others n m (Some found) e h = (e ∙ h.0, h.1)

-- the file of a turn, where so many items are to be passed
module _ (files : List FileDescription) (i : ℕ) (one : FileDescription) (entries : List Entry) (left within n : ℕ)
    (lt : i < length files) (is : one ≡ get_or files i one) (same : entries ≡ one.entries)
    (counted : within ≡ length (outlines nothing_around (forest_of entries)))
    (before : slice_get (file_outlines (drop i files)) left ≡ slice_get (file_outlines files) n) where
  own : List Outline
  own = outlines nothing_around (forest_of entries)

  first_file : file_outlines (drop i files) ≡ own ++ file_outlines (drop (i + 1) files)
  unfolding own
  first_file = ap file_outlines (rest_at files i one lt is)
      ∙ ap (λ l. outlines nothing_around (forest_of l) ++ file_outlines (drop (i + 1) files)) (sym same)

  pub item_in_file : left < within
      → slice_get (file_outlines files) n ≡ slice_get (outlines nothing_around (forest_of entries)) left
  unfolding own
  item_in_file few = sym before ∙ ap (λ l. slice_get l left) first_file
      ∙ in_first own (file_outlines (drop (i + 1) files)) left (subst (λ m. left < m) counted few)

  pub item_past_file : within ≤ left
      → slice_get (file_outlines (drop (i + 1) files)) (left - within) ≡ slice_get (file_outlines files) n
  unfolding own
  item_past_file many =
      let more = file_outlines (drop (i + 1) files) in
      ap (λ m. slice_get more (left - m)) counted ∙ sym (in_second own more left (subst (λ m. m ≤ left) counted many))
      ∙ ap (λ l. slice_get l left) (sym first_file) ∙ before

-- what each file from a turn on has, each one after it has
pub others_have : (P : FileDescription → Type 0) (files : List FileDescription) (i : ℕ) (one : FileDescription)
    → i < length files → one ≡ get_or files i one → AllByRecursion P (drop i files)
    → AllByRecursion P (drop (i + 1) files)
others_have P files i one lt is all = (subst (AllByRecursion P) (rest_at files i one lt is) all).1

-- ---- what INITIALIZE puts into the item of a number

abbrev pub pattern_in : Option Outline → Pattern
pattern_in None = []
pattern_in (Some one) = outline_pattern one

same_pattern : (one : Option LocatedItem) → pattern_at one ≡ pattern_in (option_map outline_of one)
same_pattern None = refl
same_pattern (Some one) = refl

pub pattern_outlined : (storage : List Entry) (files : List FileDescription) (n : ℕ) (found : Option Outline)
    → slice_get (outlines_with storage files) n ≡ found
    → pattern_at (slice_get (items_with storage files) n) ≡ pattern_in found
pattern_outlined storage files n found is =
    same_pattern (slice_get (items_with storage files) n)
    ∙ ap pattern_in (sym (slice_get-map outline_of (items_with storage files) n))
    ∙ ap (λ (l : List Outline). pattern_in (slice_get l n)) (items_outlined storage files)
    ∙ ap pattern_in is
