-- The bytes of all areas, as a walk adds them up.
use Rattle.std.proofs.Common.{◌≡◌, ℕ, ◌+◌, ◌≤◌, Bool, true, false, if◌then◌else◌, List, [], ◌∷◌, ◌++◌, None, Some, refl}
use Rattle.std.proofs.Common.{sym, ap, ◌∙◌, max, nat_lt, sum, drop, arith}
use Rattle.std.specs.Prelude.{Option}
use Rattle.std.proofs.lemmas.List.Sums.{sum_by-cons}
use Rattle.lexical.specs.declared.place.Place.{Place}
use Rattle.source_tree.specs.declared.entry.ItemEntry.{ItemEntry}
use Rattle.source_tree.specs.declared.entry.ConditionEntry.{ConditionEntry}
use Rattle.source_tree.specs.Levels.{Forest, End, Tree, forest_of, leading_conditions}
use Rattle.source_tree.specs.Clauses.{nothing_around}
use Rattle.source_tree.specs.Rooms.{redefines, longest, leading_redefinitions, area_length, area_lengths}
use Rattle.source_tree.specs.Broken.{where_so, each}
use Rattle.source_tree.specs.declared.entry.Entry.{Entry}
use Rattle.source_tree.specs.EntryRules.{most_entries, most_storage, outermost, excess, level_rules, homeless}
use Rattle.source_tree.specs.EntryRules.{forest_rules, storage_rules, entry_rules}
use Rattle.entry_rules.specs.declared.storage.Area.{Area}
use Rattle.entry_rules.specs.declared.storage.Areas.{Areas}
use Rattle.entry_rules.specs.Areas.{bytes_of_last, bytes_in, redefined_area, with}
use Rattle.entry_rules.specs.Trees.{extent}
use Rattle.entry_rules.proofs.LevelLaws.{kept, front_nil, back_nil}

-- those so far, and those that the 01s and 77s from here on begin
abbrev pub total : ℕ → Option Area → Forest → ℕ
total before last End = before + bytes_of_last last
total before last (Tree one conditions inner next) =
    if redefines one then total before (redefined_area (extent nothing_around one inner) last) next
    else total (before + bytes_of_last last)
    (Some (record { place = one.level.place; longest = extent nothing_around one inner })) next

sum_cons : (x : ℕ) (xs : List ℕ) → sum (x ∷ xs) ≡ x + sum xs
sum_cons x xs = sum_by-cons (λ y. y) x xs

abbrev front : Forest → ℕ
front F = longest nothing_around (leading_redefinitions F)

area_tree : (b : Bool) (before bytes : ℕ) (place : Place) (one : ItemEntry) (conditions : List ConditionEntry)
    (inner next : Forest) → redefines one ≡ b
    → total before (Some (record { place = place; longest = max bytes (extent nothing_around one inner) })) next
    ≡ before + max (max bytes (extent nothing_around one inner)) (front next) + sum (area_lengths next)
    → total (before + bytes) (Some (record { place = one.level.place; longest = extent nothing_around one inner })) next
    ≡ before + bytes + max (extent nothing_around one inner) (front next) + sum (area_lengths next)
    → total before (Some (record { place = place; longest = bytes })) (Tree one conditions inner next)
    ≡ before + max bytes (front (Tree one conditions inner next)) + sum (area_lengths (Tree one conditions inner next))
area_tree true before bytes place one conditions inner next e longer another = rw e (omega (arith, longer))
area_tree false before bytes place one conditions inner next e longer another =
    let split =
    sum_cons (area_length one conditions inner next) (area_lengths next) in rw e (omega (arith, another, split))

from_area : (before bytes : ℕ) (place : Place) (F : Forest) → total before
    (Some (record { place = place; longest = bytes })) F ≡ before + max bytes (front F) + sum (area_lengths F)
from_area before bytes place End = omega arith
from_area before bytes place (Tree one conditions inner next) =
    area_tree (redefines one) before bytes place one conditions inner next refl
    (from_area before (max bytes (extent nothing_around one inner)) place next)
    (from_area (before + bytes) (extent nothing_around one inner) one.level.place next)

start_tree : (b : Bool) (before : ℕ) (one : ItemEntry) (conditions : List ConditionEntry) (inner next : Forest)
    → redefines one ≡ b
    → total before None next ≡ before + sum (area_lengths next)
    → total before None (Tree one conditions inner next) ≡ before + sum (area_lengths (Tree one conditions inner next))
start_tree true before one conditions inner next e ih = rw e ih
start_tree false before one conditions inner next e ih =
    let h = from_area (before + 0) (extent nothing_around one inner) one.level.place next in
    let split = sum_cons (area_length one conditions inner next) (area_lengths next) in
    rw e (omega (arith, h, split))

from_start : (before : ℕ) (F : Forest) → total before None F ≡ before + sum (area_lengths F)
from_start before End = omega arith
from_start before (Tree one conditions inner next) =
    start_tree (redefines one) before one conditions inner next refl (from_start before next)

pub from_zero : (F : Forest) → sum (area_lengths F) ≡ total 0 None F
from_zero F = let h = from_start 0 F in omega (arith, h)

-- ---- one 01 or 77 after another

step_by : (b : Bool) (areas : Areas) (one : ItemEntry) (conditions : List ConditionEntry) (inner next : Forest)
    → redefines one ≡ b
    → total areas.before areas.last (Tree one conditions inner next)
    ≡ total (with areas one (extent nothing_around one inner)).before
    (with areas one (extent nothing_around one inner)).last next
step_by true areas one conditions inner next e = rw e refl
step_by false areas one conditions inner next e = rw e refl

pub total_step : (all : ℕ) (areas new : Areas) (F : Forest) (one : ItemEntry) (conditions : List ConditionEntry)
    (inner next : Forest) (bytes : ℕ) → F ≡ Tree one conditions inner next
    → all ≡ total areas.before areas.last F → bytes ≡ extent nothing_around one inner → new ≡ with areas one bytes
    → all ≡ total new.before new.last next
total_step all areas new F one conditions inner next bytes e before is known =
    before ∙ ap (total areas.before areas.last) e
    ∙ step_by (redefines one) areas one conditions inner next refl
    ∙ ap (λ (n : Areas). total n.before n.last next) (ap (λ k. with areas one k) (sym is) ∙ sym known)

pub total_end : (all : ℕ) (areas : Areas) (F : Forest) → F ≡ End → all ≡ total areas.before areas.last F
    → all ≡ bytes_in areas
total_end all areas F e before = before ∙ ap (total areas.before areas.last) e

-- ---- the limit

within : (n : ℕ) → nat_lt most_storage n ≡ false → n ≤ most_storage
within n e = grind arith

most_tree : (b : Bool) (before : ℕ) (one : ItemEntry) (conditions : List ConditionEntry) (inner next : Forest)
    → redefines one ≡ b
    → (storage_rules before next ≡ [] → before + sum (area_lengths next) ≤ most_storage)
    → (storage_rules (before + area_length one conditions inner next) next ≡ []
    → before + area_length one conditions inner next ≤ most_storage
    → before + area_length one conditions inner next + sum (area_lengths next) ≤ most_storage)
    → storage_rules before (Tree one conditions inner next) ≡ []
    → before + sum (area_lengths (Tree one conditions inner next)) ≤ most_storage
most_tree true before one conditions inner next e same longer h = rw e (same (rw e at h))
most_tree false before one conditions inner next e same longer h =
    let own : List _ =
    where_so (nat_lt most_storage (before + area_length one conditions inner next)) 48 one.level.place in
    let rest : List _ = storage_rules (before + area_length one conditions inner next) next in
    let both : own ++ rest ≡ [] = rw e at h in
    let fits = within (before + area_length one conditions inner next) (kept (nat_lt most_storage
    (before + area_length one conditions inner next)) 48 one.level.place (front_nil own rest both)) in
    let all = longer (back_nil own rest both) fits in
    let split = sum_cons (area_length one conditions inner next) (area_lengths next) in
    rw e (omega (arith, all, split))

most_bytes : (before : ℕ) (F : Forest) → before ≤ most_storage → storage_rules before F ≡ []
    → before + sum (area_lengths F) ≤ most_storage
most_bytes before End h e = omega (arith, h)
most_bytes before (Tree one conditions inner next) h e =
    most_tree (redefines one) before one conditions inner next refl (λ k. most_bytes before next h k)
    (λ k fits. most_bytes (before + area_length one conditions inner next) next fits k) e

-- Working storage that keeps its rules keeps the limit.
pub storage_within : (entries : List Entry) → entry_rules entries ≡ []
    → sum (area_lengths (forest_of entries)) ≤ most_storage
storage_within entries e =
    let F = forest_of entries in
    let trees = forest_rules (outermost false) None F in
    let homes = each homeless (leading_conditions entries) in
    let levels = each level_rules entries in
    let behind = storage_rules 0 F in
    let own = back_nil trees behind (back_nil homes (trees ++ behind) (back_nil levels (homes ++ (trees ++ behind))
    (back_nil (each excess (drop most_entries entries)) (levels ++ (homes ++ (trees ++ behind))) e))) in
    let h = most_bytes 0 F (omega arith) own in
    omega (arith, h)
