-- Items lie within their areas.
use Rattle.std.proofs.Common.{◌≡◌, ℕ, zero, suc, ◌+◌, ◌-◌, ◌*◌, ◌≤◌, ◌<◌, max, Bool, true, false, ◌&&◌, if◌then◌else◌}
use Rattle.std.proofs.Common.{List, [], ◌∷◌, ◌++◌, length, get_or, None, Some, is_some, refl, sym, ap, subst, ◌∙◌}
use Rattle.std.proofs.Common.{append_assoc, length-append, arith}
use Rattle.std.specs.Prelude.{Option}
use Rattle.std.specs.List.{All, AllByRecursion}
use Rattle.std.proofs.Math.ListN.{get_or-append}
use Rattle.std.proofs.Math.Seq.{get_or-append_seam}
use Rattle.std.proofs.lemmas.List.Elements.{All-from_recursion}
use Rattle.items.specs.declared.item.Item.{Item}
use Rattle.source_tree.specs.declared.name.Name.{Name}
use Rattle.source_tree.specs.declared.entry.ItemEntry.{ItemEntry}
use Rattle.source_tree.specs.declared.entry.Entry.{Entry}
use Rattle.source_tree.specs.declared.select.FileDescription.{FileDescription}
use Rattle.source_tree.specs.declared.program.Program.{Program}
use Rattle.source_tree.specs.Levels.{Forest, End, Tree, forest_of}
use Rattle.source_tree.specs.Clauses.{nothing_around, inside, occurrences}
use Rattle.source_tree.specs.Rooms.{redefines, room, item_with, longest, leading_redefinitions, area_lengths}
use Rattle.source_tree.specs.Places.{LocatedItem, top, places, storage_places, items_of}
use Rattle.source_tree.specs.Records.{storage_areas, record_length, record_places, file_places, program_items}
use Rattle.source_tree.specs.Broken.{each}
use Rattle.source_tree.specs.RedefinitionRules.{Redefinable, redefinable_after, wrong_object, wrong_redefinition}
use Rattle.source_tree.specs.ValueRules.{condition_rules}
use Rattle.source_tree.specs.EntryRules.{outermost, is_outermost, redefinition_rules, own_rules, below, forest_rules}
use Rattle.source_tree.specs.EntryRules.{entry_rules}
use Rattle.source_tree.specs.FileRules.{descriptions_rules}
use Rattle.initial_storage.specs.Reach.{reach, IsWithinArea, record_area_lengths, program_area_lengths}
use Rattle.data_entries.proofs.TreeRules.{three_parts}
use Rattle.initial_storage.proofs.Kept.{kept, second_false, KeepsOwn, keeps_own, rule_parts}
use Rattle.initial_storage.proofs.KeptFiles.{Description, descriptions}
use Rattle.initial_storage.proofs.Inner.{Outer, outer_nested}
use Rattle.initial_storage.proofs.Sizes.{room_in, sized}
use Rattle.initial_storage.proofs.Groups.{Sized, Ends, all_append, within_group}

-- A 01 or 77 may be longer than the one that it redefines, but there is one.
abbrev Records : Bool → Forest → Type 0
Records some End = Unit {0}
Records some (Tree one conditions inner next) =
    (redefines one ≡ true → some ≡ true) × (1 ≤ occurrences one)
    × (room (inside nothing_around one) inner ≤ (item_with nothing_around one inner).length)
    × Sized (inside nothing_around one) 0 inner × Records true next

-- ---- by the rules

pub redefines_some : (is_record : Bool) (one : ItemEntry) (bytes : ℕ) (object : Option Name) (last : Option Redefinable)
    → redefinition_rules is_record one bytes object last ≡ [] → is_some object ≡ true → is_some last ≡ true
redefines_some is_record one bytes None last e so = cc
redefines_some is_record one bytes (Some name) None e so =
    let no : true ≡ false = second_false is_record (wrong_object one bytes name None)
    (kept (wrong_redefinition is_record one bytes name None) 46 name.place e) in
    cc
redefines_some is_record one bytes (Some name) (Some last) e so = refl

some_if : (b : Bool) (last : Option Redefinable) (one : Redefinable) → (b ≡ true → is_some last ≡ true)
    → is_some (if b then last else Some one) ≡ true
some_if true last one h = h refl
some_if false last one h = refl

records : (in_file : Bool) (last : Option Redefinable) (F : Forest) → Outer F
    → forest_rules (outermost in_file) last F ≡ [] → Records (is_some last) F
records in_file last End levels e = tt
records in_file last (Tree one conditions inner next) levels e =
    let at = outermost in_file in
    let item : Item = item_with nothing_around one inner in
    let bytes : ℕ = occurrences one * item.length in
    let after : Option Redefinable = redefinable_after one bytes last in
    let parts = three_parts (forest_rules (below at one inner) None inner) (own_rules at one item inner last)
    (each (condition_rules item) conditions) (forest_rules at after next) e in
    let own : KeepsOwn at one inner last = keeps_own at one inner last parts.1 in
    let so : redefines one ≡ true → is_some last ≡ true =
    redefines_some (is_outermost at && at.in_file) one bytes one.redefines last own.redefinition in (
      so,
      own.some,
      room_in nothing_around one inner own.picture,
      sized (below at one inner) None inner levels.0 parts.0,
      subst (λ b. Records b next) (some_if (redefines one) last _ so) (records in_file after next levels.1 parts.2),
    )

-- ---- areas

-- that the longest redefinition isn't longer than the area before it, where the next one redefines
front : (b : Bool) (F : Forest) (n : ℕ) → longest nothing_around (if b then F else End) ≤ n → b ≡ true
    → longest nothing_around F ≤ n
front true F n h e = h
front false F n h e = cc

own_fits : (b : Bool) (areas own rest : ℕ) (before lengths : List ℕ) → length before ≡ areas → (b ≡ true → 1 ≤ areas)
    → (b ≡ true → max own rest ≤ get_or before (areas - 1) 0)
    → own ≤ get_or (before ++ (if b then lengths else max own rest ∷ lengths)) (if b then areas - 1 else areas) 0
own_fits true areas own rest before lengths e some h =
    let one = some refl in
    let most = h refl in
    let lt : areas - 1 < length before = omega (arith, one, e) in
    let same = get_or-append before lengths 0 (areas - 1) lt in
    omega (arith, most, same)
own_fits false areas own rest before lengths e some h =
    let same : get_or (before ++ max own rest ∷ lengths) areas 0 ≡ max own rest =
    ap (λ n. get_or (before ++ max own rest ∷ lengths) n 0) (sym e)
    ∙ get_or-append_seam before (max own rest) lengths 0 in
    omega (arith, same)

same_lengths : (b : Bool) (before lengths : List ℕ) (n : ℕ)
    → before ++ (if b then lengths else n ∷ lengths) ≡ (if b then before else before ++ n ∷ []) ++ lengths
same_lengths true before lengths n = refl
same_lengths false before lengths n = sym (append_assoc before (n ∷ []) lengths)

next_areas : (b : Bool) (areas n : ℕ) (before : List ℕ) → length before ≡ areas → (b ≡ true → 1 ≤ areas)
    → length (if b then before else before ++ n ∷ []) ≡ (if b then areas - 1 else areas) + 1
next_areas true areas n before e some = let one = some refl in omega (arith, e, one)
next_areas false areas n before e some = omega (arith, e, length-append before (n ∷ []))

next_fits : (b : Bool) (areas own rest : ℕ) (before : List ℕ) → length before ≡ areas
    → (b ≡ true → max own rest ≤ get_or before (areas - 1) 0)
    → rest ≤ get_or (if b then before else before ++ max own rest ∷ []) ((if b then areas - 1 else areas) + 1 - 1) 0
next_fits true areas own rest before e h =
    let most = h refl in
    let same : get_or before (areas - 1 + 1 - 1) 0 ≡ get_or before (areas - 1) 0 =
    ap (λ n. get_or before n 0) (omega arith) in
    omega (arith, most, same)
next_fits false areas own rest before e h =
    let at : areas + 1 - 1 ≡ length before = omega (arith, e) in
    let same : get_or (before ++ max own rest ∷ []) (areas + 1 - 1) 0 ≡ max own rest =
    ap (λ n. get_or (before ++ max own rest ∷ []) n 0) at ∙ get_or-append_seam before (max own rest) [] 0 in
    omega (arith, same)

none_taken : (b : Bool) (own : ℕ) → 0 + ((if b then 0 else own) + 0) + 0 ≤ own
none_taken true own = omega arith
none_taken false own = omega arith

all_weaker : {A : Type 0} (P Q : A → Type 0) (xs : List A) → ((x : A) → P x → Q x) → AllByRecursion P xs
    → AllByRecursion Q xs
all_weaker P Q [] h k = tt
all_weaker P Q (x ∷ xs) h k = (h x k.0, all_weaker P Q xs h k.1)

-- what ends before an area does
ends_within : (lengths : List ℕ) (area limit : ℕ) → limit ≤ get_or lengths area 0 → (one : LocatedItem)
    → Ends area limit one → IsWithinArea lengths one
ends_within lengths area limit h one ends =
    let same : get_or lengths one.area 0 ≡ get_or lengths area 0 = ap (λ n. get_or lengths n 0) ends.0 in
    let end = ends.1 in
    let here : one.offset + reach one.dimensions + one.item.length ≤ get_or lengths one.area 0 =
    omega (arith, end, h, same) in
    here

within_storage : (areas : ℕ) (before : List ℕ) (some : Bool) (F : Forest) → length before ≡ areas
    → (some ≡ true → 1 ≤ areas) → Records some F
    → longest nothing_around (leading_redefinitions F) ≤ get_or before (areas - 1) 0
    → AllByRecursion (IsWithinArea (before ++ area_lengths F)) (storage_places areas F)
within_storage areas before some End e one kept h = tt
within_storage areas before some (Tree one conditions inner next) e count kept h =
    let b : Bool = redefines one in
    let own : ℕ = occurrences one * (item_with nothing_around one inner).length in
    let rest : ℕ = longest nothing_around (leading_redefinitions next) in
    let area : ℕ = if b then areas - 1 else areas in
    let lengths : List ℕ = before ++ (if b then area_lengths next else max own rest ∷ area_lengths next) in
    let after : List ℕ = if b then before else before ++ max own rest ∷ [] in
    let some_area : b ≡ true → 1 ≤ areas = λ so. count (kept.0 so) in
    let most : b ≡ true → max own rest ≤ get_or before (areas - 1) 0 =
    front b (Tree one conditions inner (leading_redefinitions next)) (get_or before (areas - 1) 0) h in
    let fits : own ≤ get_or lengths area 0 = own_fits b areas own rest before (area_lengths next) e some_area most in
    let items = places (top area []) 0 0 (Tree one conditions inner End) in
    let ends : AllByRecursion (Ends area own) items =
    within_group (top area []) own 0 0 own (Tree one conditions inner End)
    (record { some = kept.1; shorter = λ so. omega arith; room = kept.2 }, kept.3, tt) (omega arith)
    (none_taken b own) in
    let later : AllByRecursion (IsWithinArea (after ++ area_lengths next)) (storage_places (area + 1) next) =
    within_storage (area + 1) after true next (next_areas b areas (max own rest) before e some_area) (λ so. omega arith)
    kept.4 (next_fits b areas own rest before e most) in
    all_append (IsWithinArea lengths) items (storage_places (area + 1) next)
    (all_weaker (Ends area own) (IsWithinArea lengths) items (ends_within lengths area own fits) ends)
    (subst (λ l. AllByRecursion (IsWithinArea l) (storage_places (area + 1) next))
    (sym (same_lengths b before (area_lengths next) (max own rest))) later)

-- ---- all of working storage

no_front : (b : Bool) (F : Forest) → (b ≡ true → false ≡ true) → longest nothing_around (if b then F else End) ≤ 0
no_front true F h = let no : false ≡ true = h refl in cc
no_front false F h = omega arith

begins : (F : Forest) → Records false F → longest nothing_around (leading_redefinitions F) ≤ 0
begins End h = omega arith
begins (Tree one conditions inner next) h =
    no_front (redefines one) (Tree one conditions inner (leading_redefinitions next)) h.0

storage_within : (entries : List Entry) → entry_rules entries ≡ []
    → AllByRecursion (IsWithinArea (area_lengths (forest_of entries))) (items_of entries)
storage_within entries e =
    let parts = rule_parts entries e in
    let all : Records false (forest_of entries) =
    records false None (forest_of entries) (outer_nested entries parts.0) parts.1 in
    within_storage 0 [] false (forest_of entries) refl (λ so. cc) all (begins (forest_of entries) all)

-- ---- records of files

own_shorter : (own rest limit : ℕ) → max own rest ≤ limit → own ≤ limit
own_shorter own rest limit h = omega arith

rest_shorter : (own rest limit : ℕ) → max own rest ≤ limit → rest ≤ limit
rest_shorter own rest limit h = omega arith

within_record : (lengths : List ℕ) (area : ℕ) (file : Name) (limit : ℕ) → limit ≤ get_or lengths area 0
    → (some : Bool) (F : Forest) → Records some F → longest nothing_around F ≤ limit
    → AllByRecursion (IsWithinArea lengths) (record_places area file F)
within_record lengths area file limit fits some End kept h = tt
within_record lengths area file limit fits some (Tree one conditions inner next) kept h =
    let own : ℕ = occurrences one * (item_with nothing_around one inner).length in
    let rest : ℕ = longest nothing_around next in
    let most : own ≤ limit = own_shorter own rest limit h in
    let own_area : own ≤ get_or lengths area 0 = omega arith in
    let items = places (top area (file ∷ [])) 0 0 (Tree one conditions inner End) in
    let ends : AllByRecursion (Ends area own) items =
    within_group (top area (file ∷ [])) own 0 0 own (Tree one conditions inner End)
    (record { some = kept.1; shorter = λ so. omega arith; room = kept.2 }, kept.3, tt) (omega arith)
    (none_taken (redefines one) own) in
    all_append (IsWithinArea lengths) items (record_places area file next)
    (all_weaker (Ends area own) (IsWithinArea lengths) items (ends_within lengths area own own_area) ends)
    (within_record lengths area file limit fits true next kept.4 (rest_shorter own rest limit h))

kept_records : (one : FileDescription) → Description one → Records false (forest_of one.entries)
kept_records one kept = records true None (forest_of one.entries) (outer_nested one.entries kept.levels) kept.forest

files_within : (before : List ℕ) (area : ℕ) (files : List FileDescription) → length before ≡ area
    → AllByRecursion Description files
    → AllByRecursion (IsWithinArea (before ++ record_area_lengths files)) (file_places area files)
files_within before area [] e h = tt
files_within before area (one ∷ more) e h =
    let size : ℕ = record_length one.entries in
    let lengths : List ℕ = before ++ size ∷ record_area_lengths more in
    let here : get_or lengths area 0 ≡ size =
    ap (λ n. get_or lengths n 0) (sym e) ∙ get_or-append_seam before size (record_area_lengths more) 0 in
    let behind : length (before ++ size ∷ []) ≡ area + 1 = omega (arith, e, length-append before (size ∷ [])) in
    all_append (IsWithinArea lengths) (record_places area one.name (forest_of one.entries))
    (file_places (area + 1) more)
    (within_record lengths area one.name size (omega arith) false (forest_of one.entries) (kept_records one h.0)
    (omega arith))
    (subst (λ l. AllByRecursion (IsWithinArea l) (file_places (area + 1) more))
    (append_assoc before (size ∷ []) (record_area_lengths more))
    (files_within (before ++ size ∷ []) (area + 1) more behind h.1))

-- ---- all of a program

more_areas : (lengths more : List ℕ) (n : ℕ) → get_or lengths n 0 ≤ get_or (lengths ++ more) n 0
more_areas [] more n = omega arith
more_areas (one ∷ others) more zero = omega arith
more_areas (one ∷ others) more (suc n) = more_areas others more n

still_within : (lengths more : List ℕ) (one : LocatedItem) → IsWithinArea lengths one
    → IsWithinArea (lengths ++ more) one
still_within lengths more one h = let longer = more_areas lengths more one.area in omega (arith, h, longer)

pub within_by_recursion : (program : Program) → entry_rules program.storage ≡ [] → descriptions_rules program.storage
    program.files ≡ [] → AllByRecursion (IsWithinArea (program_area_lengths program)) (program_items program)
within_by_recursion program e f =
    let lengths = area_lengths (forest_of program.storage) in
    let more = record_area_lengths program.files in
    all_append (IsWithinArea (lengths ++ more)) (items_of program.storage)
    (file_places (storage_areas program.storage) program.files)
    (all_weaker (IsWithinArea lengths) (IsWithinArea (lengths ++ more)) (items_of program.storage)
    (still_within lengths more) (storage_within program.storage e))
    (files_within lengths (storage_areas program.storage) program.files refl
    (descriptions program.storage program.files f))

pub within_areas : (program : Program) → entry_rules program.storage ≡ [] → descriptions_rules program.storage
    program.files ≡ [] → All (IsWithinArea (program_area_lengths program)) (program_items program)
within_areas program e f = All-from_recursion (IsWithinArea (program_area_lengths program)) (program_items program)
    (within_by_recursion program e f)
