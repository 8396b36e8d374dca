-- The rules of entries: 43 level order (COBOL-85, Nucleus, "Level-numbers"), and those of their clauses.
use Rattle.std.specs.Prelude.{ℕ, ◌+◌, ◌*◌, ◌==◌, nat_lt, nat_le, Bool, false, not, ◌&&◌, ◌||◌, is_some, is_none, if◌then◌else◌, List, [], ◌∷◌, ◌++◌, drop, Option, Some, None}
use Rattle.items.specs.declared.item.Item.{Item}
use Rattle.lexical.specs.declared.place.Place.{Place}
use Rattle.source_tree.specs.declared.name.Name.{Name}
use Rattle.source_tree.specs.declared.entry.Around.{Around}
use Rattle.source_tree.specs.declared.entry.ItemEntry.{ItemEntry}
use Rattle.source_tree.specs.declared.entry.ConditionEntry.{ConditionEntry}
use Rattle.source_tree.specs.declared.entry.Entry.{Entry}
use Rattle.source_tree.specs.declared.entry.Entry.TheVariants as entry
use Rattle.source_tree.specs.Integers.{number_of}
use Rattle.source_tree.specs.Levels.{Forest, End, Tree, forest_of, leading_conditions}
use Rattle.source_tree.specs.Clauses.{nothing_around, inside, occurrences}
use Rattle.source_tree.specs.Rooms.{redefines, item_with, area_length}
use Rattle.source_tree.specs.Broken.{RuleBreach, where_so, each}
use Rattle.source_tree.specs.ClauseRules.{has_items, wrong_clause, wrong_picture, too_large, too_many}
use Rattle.source_tree.specs.RedefinitionRules.{Redefinable, redefinable_after, wrong_redefinition}
use Rattle.source_tree.specs.ValueRules.{value_rules, condition_rules}

-- What the rules of an entry look at around it.
pub record Position : Type 0 where
  pub around : Around
  -- the level of this group's items; none for 01 and 77
  pub level : Option ℕ
  pub in_file : Bool
  -- it stands under REDEFINES or in a group with VALUE
  pub has_no_value : Bool
  -- how many OCCURS stand around it
  pub nesting : ℕ

abbrev pub outermost : Bool → Position
outermost in_file = record { around = nothing_around; level = None; in_file = in_file; has_no_value = false; nesting = 0 }

abbrev pub is_outermost : Position → Bool
is_outermost at = is_none at.level

-- ---- 43

abbrev pub most_level : ℕ
most_level = 49

-- 01 to 49 and 77
abbrev pub is_level : ℕ → Bool
is_level level = (nat_le 1 level && nat_le level most_level) || (level == 77)

abbrev pub level_rules : Entry → List RuleBreach
level_rules (entry.Item one) = where_so (not (is_level (number_of one.level))) 43 one.level.place
level_rules (entry.Condition one) = []

-- 01 and 77 stand outermost; 77 is no record of a file, and holds no items; the items of a group have one level.
abbrev pub wrong_level : Bool → Option ℕ → ℕ → Forest → Bool
wrong_level in_file None level inner = not ((level == 1) || ((level == 77) && not in_file && not (has_items inner)))
wrong_level in_file (Some wanted) level inner = not (level == wanted)

abbrev pub first_level : Forest → ℕ
first_level End = 0
first_level (Tree one conditions inner next) = number_of one.level

-- ---- one entry

abbrev pub redefinition_rules : Bool → ItemEntry → ℕ → Option Name → Option Redefinable → List RuleBreach
redefinition_rules is_record one bytes None last = []
redefinition_rules is_record one bytes (Some name) last = where_so (wrong_redefinition is_record one bytes name last) 46 name.place

abbrev pub own_rules : Position → ItemEntry → Item → Forest → Option Redefinable → List RuleBreach
own_rules at one item inner last =
    where_so (too_many one) 69 one.level.place
    ++ where_so (too_large item) 48 one.level.place
    ++ where_so (wrong_level at.in_file at.level (number_of one.level) inner) 43 one.level.place
    ++ where_so (wrong_clause (is_outermost at) at.nesting at.around one item) 44 one.level.place
    ++ where_so (wrong_picture one inner) 45 one.level.place
    ++ redefinition_rules (is_outermost at && at.in_file) one (occurrences one * item.length) one.redefines last
    ++ value_rules (at.in_file || at.has_no_value || redefines one) item one.value

abbrev pub below : Position → ItemEntry → Forest → Position
below at one inner = record {
  around = inside at.around one;
  level = Some (first_level inner);
  in_file = at.in_file;
  has_no_value = at.has_no_value || redefines one || is_some one.value;
  nesting = (if is_some one.occurs then 1 else 0) + at.nesting;
}

-- Each entry after those in it, and its condition names.
abbrev pub forest_rules : Position → Option Redefinable → Forest → List RuleBreach
forest_rules at last End = []
forest_rules at last (Tree one conditions inner next) =
    let item : Item = item_with at.around one inner in
    forest_rules (below at one inner) None inner
    ++ (own_rules at one item inner last
    ++ (each (condition_rules item) conditions
    ++ forest_rules at (redefinable_after one (occurrences one * item.length) last) next))

-- ---- all of working storage

abbrev pub most_entries : ℕ
most_entries = 5000

abbrev pub most_storage : ℕ
most_storage = 1000000

abbrev pub place_of_entry : Entry → Place
place_of_entry (entry.Item one) = one.level.place
place_of_entry (entry.Condition one) = one.name.place

-- 43: a condition name that comes before all items
abbrev pub homeless : ConditionEntry → List RuleBreach
homeless one = record { rule = 43; place = one.name.place } ∷ []

-- 48: each area that goes past the limit, after so many bytes of areas before it
abbrev pub storage_rules : ℕ → Forest → List RuleBreach
storage_rules before End = []
storage_rules before (Tree one conditions inner next) =
    if redefines one then storage_rules before next
    else where_so (nat_lt most_storage (before + area_length one conditions inner next)) 48 one.level.place
    ++ storage_rules (before + area_length one conditions inner next) next

-- 69: each entry past the limit
abbrev pub excess : Entry → List RuleBreach
excess one = record { rule = 69; place = place_of_entry one } ∷ []

-- The broken rules of working storage, the first that is looked for first.
abbrev pub entry_rules : List Entry → List RuleBreach
entry_rules entries =
    each excess (drop most_entries entries)
    ++ (each level_rules entries
    ++ (each homeless (leading_conditions entries)
    ++ (forest_rules (outermost false) None (forest_of entries)
    ++ storage_rules 0 (forest_of entries))))
