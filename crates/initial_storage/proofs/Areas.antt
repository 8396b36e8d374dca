-- Areas are small, and items lie in them with all their occurrences.
use Rattle.std.proofs.Common.{◌≡◌, ℕ, zero, suc, ◌+◌, ◌-◌, ◌*◌, ◌^◌, ◌≤◌, ◌<◌, nat_lt, Bool, true, false, if◌then◌else◌}
use Rattle.std.proofs.Common.{List, [], ◌∷◌, ◌++◌, length, get_or, Some, refl, sym, subst, arith}
use Rattle.std.specs.Prelude.{map, slice_get}
use Rattle.std.specs.List.{All, AllByRecursion}
use Rattle.std.proofs.lemmas.List.Elements.{All-from_recursion}
use Rattle.lexical.specs.declared.place.Place.{Place}
use Rattle.items.specs.Texts.{padded_text}
use Rattle.source_tree.specs.declared.table.Dimension.{Dimension}
use Rattle.source_tree.specs.declared.select.FileDescription.{FileDescription}
use Rattle.source_tree.specs.declared.program.Program.{Program}
use Rattle.source_tree.specs.Levels.{Forest, End, Tree, forest_of}
use Rattle.source_tree.specs.Clauses.{nothing_around}
use Rattle.source_tree.specs.Rooms.{redefines, area_length}
use Rattle.source_tree.specs.Starts.{start, areas_from, areas_at_start}
use Rattle.source_tree.specs.Places.{LocatedItem}
use Rattle.source_tree.specs.Records.{record_length, spaces_for, record_areas, program_areas, program_items}
use Rattle.source_tree.specs.Broken.{RuleBreach, where_so}
use Rattle.source_tree.specs.EntryRules.{most_storage, storage_rules, entry_rules}
use Rattle.source_tree.specs.FileRules.{descriptions_rules}
use Rattle.initial_storage.specs.Formed.{IsFormed}
use Rattle.initial_storage.specs.Reach.{reach, IsWithinArea, program_area_lengths, last_offset, Lies}
use Rattle.initial_storage.proofs.Kept.{front_nil, back_nil, kept, at_most, rule_parts}
use Rattle.initial_storage.proofs.Lengths.{length-padded, program_lengths}
use Rattle.initial_storage.proofs.KeptFiles.{Description, descriptions}
use Rattle.initial_storage.proofs.Groups.{all_append}
use Rattle.initial_storage.proofs.Pictures.{some_bytes}
use Rattle.initial_storage.proofs.Formed.{formed_by_recursion}
use Rattle.initial_storage.proofs.Records.{within_by_recursion}

-- ---- areas

abbrev IsSmall : List ℕ → Type 0
IsSmall area = length area ≤ most_storage

small_if : (b : Bool) (before size : ℕ) (place : Place) (area : List ℕ) (areas : List (List ℕ))
    (one other : List RuleBreach) → length area ≡ size
    → (one ≡ [] → AllByRecursion IsSmall areas) → (other ≡ [] → AllByRecursion IsSmall areas)
    → (if b then one else where_so (nat_lt most_storage (before + size)) 48 place ++ other) ≡ []
    → AllByRecursion IsSmall (if b then areas else area ∷ areas)
small_if true before size place area areas one other long f g e = f e
small_if false before size place area areas one other long f g e =
    let broken : List RuleBreach = where_so (nat_lt most_storage (before + size)) 48 place in
    let most : before + size ≤ most_storage = at_most most_storage (before + size)
    (kept (nat_lt most_storage (before + size)) 48 place (front_nil broken other e)) in
    (omega (arith, most, long), g (back_nil broken other e))

small : (before : ℕ) (F : Forest) → storage_rules before F ≡ [] → AllByRecursion IsSmall (areas_from F)
small before End e = tt
small before (Tree one conditions inner next) e =
    let size : ℕ = area_length one conditions inner next in
    let bytes : List ℕ = start nothing_around (Tree one conditions inner End) in
    small_if (redefines one) before size one.level.place (padded_text size bytes) (areas_from next)
    (storage_rules before next) (storage_rules (before + size) next)
    (length-padded size bytes) (small before next) (small (before + size) next) e

small_at : (areas : List (List ℕ)) → AllByRecursion IsSmall areas → (k : ℕ) (area : List ℕ)
    → slice_get areas k ≡ Some area → IsSmall area
small_at [] h k area e = cc
small_at (one ∷ more) h zero area e = let same : one ≡ area = cc in subst IsSmall same h.0
small_at (one ∷ more) h (suc k) area e = small_at more h.1 k area e

spaces_small : (one : FileDescription) → Description one → length (spaces_for one) ≤ most_storage
spaces_small one kept = let most = kept.most in let long = length-padded (record_length one.entries) [] in omega arith

small_records : (files : List FileDescription) → AllByRecursion Description files
    → AllByRecursion IsSmall (record_areas files)
small_records [] h = tt
small_records (one ∷ more) h = (spaces_small one h.0, small_records more h.1)

pub small_areas : (program : Program) → entry_rules program.storage ≡ []
    → descriptions_rules program.storage program.files ≡ []
    → (k : ℕ) (area : List ℕ) → slice_get (program_areas program) k ≡ Some area → length area < 2 ^ 32
small_areas program e f k area is =
    let parts = rule_parts program.storage e in
    let all = all_append IsSmall (areas_at_start program.storage) (record_areas program.files) (small 0
    (forest_of program.storage) parts.2) (small_records program.files (descriptions program.storage program.files f)) in
    let most : length area ≤ 1000000 = small_at (program_areas program) all k area is in
    omega (arith, most)

-- ---- the items in them

pub last_reach : (offset : ℕ) (dimensions : List Dimension) → last_offset offset dimensions ≡ offset + reach dimensions
last_reach offset [] = omega arith
last_reach offset (one ∷ more) = omega (arith, last_reach (offset + (one.count - 1) * one.stride) more)

-- so many bytes of an area, if there are some, are those of an area that there is
area_at : (areas : List (List ℕ)) (k n : ℕ) → 1 ≤ n → n ≤ get_or (map length areas) k 0
    → (area : List ℕ) × (slice_get areas k ≡ Some area) × (n ≤ length area)
area_at [] k n some h = absurd (omega (arith, some, h))
area_at (area ∷ more) zero n some h = (area, refl, h)
area_at (area ∷ more) (suc k) n some h = area_at more k n some h

lies : (areas : List (List ℕ)) (one : LocatedItem) → IsFormed one → IsWithinArea (map length areas) one → Lies areas one
lies areas one formed within =
    let some : 1 ≤ one.item.length = some_bytes one.item formed.form in
    let end : last_offset one.offset one.dimensions + one.item.length ≤ get_or (map length areas) one.area 0 =
    omega (arith, within, last_reach one.offset one.dimensions) in
    let found =
    area_at areas one.area (last_offset one.offset one.dimensions + one.item.length) (omega (arith, some)) end in
    record { area = found.0; here = found.1; within = found.2 }

all_both : {A : Type 0} (P Q R : A → Type 0) (xs : List A) → ((x : A) → P x → Q x → R x) → AllByRecursion P xs
    → AllByRecursion Q xs → AllByRecursion R xs
all_both P Q R [] h p q = tt
all_both P Q R (x ∷ xs) h p q = (h x p.0 q.0, all_both P Q R xs h p.1 q.1)

pub items_lie : (program : Program) → entry_rules program.storage ≡ []
    → descriptions_rules program.storage program.files ≡ [] → All (Lies (program_areas program)) (program_items program)
items_lie program e f =
    let areas : List (List ℕ) = program_areas program in
    let items : List LocatedItem = program_items program in
    let lengths : List ℕ = program_area_lengths program in
    All-from_recursion (Lies areas) items
    (all_both IsFormed (IsWithinArea lengths) (Lies areas) items
    (λ one formed within.
    lies areas one formed (subst (λ l. IsWithinArea l one) (sym (program_lengths program)) within))
    (formed_by_recursion program e f) (within_by_recursion program e f))
