-- Entries that keep the rules are within the limits.
use Rattle.std.proofs.Common.{◌≡◌, ℕ, ◌-◌, ◌*◌, ◌≤◌, ◌<◌, nat_lt, Bool, true, false, ◌&&◌, ◌||◌}
use Rattle.std.proofs.Common.{List, [], ◌∷◌, ◌++◌, length, drop, None, Some, is_some, refl, ap, subst}
use Rattle.std.proofs.Common.{length-drop, lit≤, arith}
use Rattle.std.specs.Prelude.{Option}
use Rattle.items.specs.declared.item.Item as Items
use Rattle.lexical.specs.declared.place.Place.{Place}
use Rattle.source_tree.specs.declared.entry.Around.{Around}
use Rattle.source_tree.specs.declared.entry.PictureText.{PictureText}
use Rattle.source_tree.specs.declared.entry.ItemEntry.{ItemEntry}
use Rattle.source_tree.specs.declared.entry.Entry.{Entry}
use Rattle.source_tree.specs.Integers.{number_of}
use Rattle.source_tree.specs.Levels.{Forest, End, Tree, level_of, leading_conditions, forest_of}
use Rattle.source_tree.specs.Clauses.{nothing_around, inside, form_of, item_by, occurrences}
use Rattle.source_tree.specs.Rooms.{redefines, room, item_with}
use Rattle.source_tree.specs.Broken.{RuleBreach, where_so, each}
use Rattle.source_tree.specs.ClauseRules.{most_item_bytes, most_occurrences, too_large, too_many, wrong_clause}
use Rattle.source_tree.specs.ClauseRules.{wrong_picture}
use Rattle.source_tree.specs.RedefinitionRules.{Redefinable, redefinable_after}
use Rattle.source_tree.specs.ValueRules.{value_rules}
use Rattle.source_tree.specs.EntryRules.{Position, outermost, is_outermost, level_rules, wrong_level}
use Rattle.source_tree.specs.EntryRules.{redefinition_rules, own_rules, below, forest_rules, storage_rules, excess}
use Rattle.source_tree.specs.EntryRules.{homeless, most_entries, entry_rules}
use Rattle.data_entries.specs.Nesting.{AreTold}
use Rattle.data_entries.proofs.Told.{levels_known}
use Rattle.data_entries.proofs.TreeRules.{three_parts, tree_parts}
use Rattle.layout.specs.Fits.{FitsEntry, Fits}

pub front_nil : {A : Type 0} (xs ys : List A) → xs ++ ys ≡ [] → xs ≡ []
front_nil [] ys e = refl
front_nil (x ∷ xs) ys e = cc

pub back_nil : {A : Type 0} (xs ys : List A) → xs ++ ys ≡ [] → ys ≡ []
back_nil [] ys e = e
back_nil (x ∷ xs) ys e = cc

pub kept : (test : Bool) (rule : ℕ) (place : Place) → where_so test rule place ≡ [] → test ≡ false
kept true rule place e = cc
kept false rule place e = refl

-- ---- the number of entries

pub few : (entries : List Entry) → each excess entries ≡ [] → entries ≡ []
few [] e = refl
few (one ∷ more) e = cc

pub dropped_all : (n : ℕ) (entries : List Entry) → drop n entries ≡ [] → length entries ≤ n
dropped_all n entries e =
    let none : length (drop n entries) ≡ 0 = ap length e in
    let left : length (drop n entries) ≡ length entries - n = length-drop n entries in
    omega arith

-- ---- lengths

pub at_most : (limit n : ℕ) → nat_lt limit n ≡ false → n ≤ limit
at_most limit n e = grind arith

none_of : (p : Option PictureText) (b : Bool) → (is_some p || b) ≡ false → p ≡ None
none_of None b e = refl
none_of (Some text) b e = cc

-- A group's length is the room of its items; an elementary item has none.
within_of : (around : Around) (one : ItemEntry) (inner : Forest) → wrong_picture one inner ≡ false
    → (item_with around one inner).length ≤ most_item_bytes
    → room (inside around one) inner ≤ most_item_bytes
within_of around one End e h = lit≤ tt
within_of around one (Tree other conditions inner next) e h =
    let bytes : ℕ = room (inside around one) (Tree other conditions inner next) in
    subst (λ p. (item_by around one (form_of p) bytes).length ≤ most_item_bytes) (none_of one.picture false e) h

own_parts : (times bytes level clause picture : Bool) (place : Place) (redefinition value : List RuleBreach)
    → where_so times 69 place ++ where_so bytes 48 place ++ where_so level 43 place ++ where_so clause 44 place
    ++ where_so picture 45 place ++ redefinition ++ value ≡ []
    → (times ≡ false) × (bytes ≡ false) × (picture ≡ false)
own_parts true bytes level clause picture place redefinition value e = cc
own_parts false true level clause picture place redefinition value e = cc
own_parts false false true clause picture place redefinition value e = cc
own_parts false false false true picture place redefinition value e = cc
own_parts false false false false true place redefinition value e = cc
own_parts false false false false false place redefinition value e = (refl, refl, refl)

entry_fits : (at : Position) (one : ItemEntry) (inner : Forest) (last : Option Redefinable) → level_of one < 100000
    → own_rules at one (item_with at.around one inner) inner last ≡ [] → FitsEntry at.around one inner
entry_fits at one inner last level e =
    let item : Items.Item = item_with at.around one inner in
    let parts = own_parts (too_many one) (too_large item) (wrong_level at.in_file at.level (number_of one.level) inner)
    (wrong_clause (is_outermost at) at.nesting at.around one item) (wrong_picture one inner) one.level.place
    (redefinition_rules (is_outermost at && at.in_file) one (occurrences one * item.length) one.redefines last)
    (value_rules (at.in_file || at.has_no_value || redefines one) item one.value) e in
    let bytes = at_most most_item_bytes item.length parts.1 in
    record {
      level = level;
      times = at_most most_occurrences (occurrences one) parts.0;
      bytes = bytes;
      within = within_of at.around one inner parts.2 bytes;
    }

pub of_forest : (at : Position) (last : Option Redefinable) (F : Forest) → AreTold F → forest_rules at last F ≡ []
    → Fits at.around F
of_forest at last End levels e = tt
of_forest at last (Tree one conditions inner next) levels e =
    let after : Option Redefinable =
    redefinable_after one (occurrences one * (item_with at.around one inner).length) last in
    let parts = tree_parts at last one conditions inner next e in (
      entry_fits at one inner last levels.0 parts.1,
      of_forest (below at one inner) None inner levels.1 parts.0,
      of_forest at after next levels.2 parts.2,
    )

-- ---- all of working storage

pub fits : (entries : List Entry) → entry_rules entries ≡ [] → Fits nothing_around (forest_of entries)
fits entries e =
    let counted = back_nil
    (each excess (drop most_entries entries)) (each level_rules entries ++ (each homeless (leading_conditions entries)
    ++ (forest_rules (outermost false) None (forest_of entries) ++ storage_rules 0 (forest_of entries)))) e in
    let parts = three_parts (each level_rules entries) (each homeless (leading_conditions entries))
    (forest_rules (outermost false) None (forest_of entries)) (storage_rules 0 (forest_of entries)) counted in
    let rest = back_nil (each homeless (leading_conditions entries))
    (forest_rules (outermost false) None (forest_of entries) ++ storage_rules 0 (forest_of entries))
    (back_nil (each level_rules entries) (each homeless (leading_conditions entries)
    ++ (forest_rules (outermost false) None (forest_of entries) ++ storage_rules 0 (forest_of entries))) counted) in
    of_forest (outermost false) None (forest_of entries) (levels_known entries parts.0)
    (front_nil (forest_rules (outermost false) None (forest_of entries)) (storage_rules 0 (forest_of entries)) rest)

pub not_many : (entries : List Entry) → entry_rules entries ≡ [] → length entries ≤ most_entries
not_many entries e =
    dropped_all most_entries entries (few (drop most_entries entries)
    (front_nil (each excess (drop most_entries entries))
    (each level_rules entries ++ (each homeless (leading_conditions entries)
    ++ (forest_rules (outermost false) None (forest_of entries) ++ storage_rules 0 (forest_of entries)))) e))
