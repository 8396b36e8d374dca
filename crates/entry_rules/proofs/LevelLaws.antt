-- Levels that are told as they are.
use Rattle.std.proofs.Common.{◌≡◌, ℕ, ◌<◌, ◌==◌, Bool, true, false, not, ◌&&◌, ◌||◌, nat_lt, nat_le, if◌then◌else◌}
use Rattle.std.proofs.Common.{List, [], ◌∷◌, ◌++◌, refl, subst, lit<, arith}
use Rattle.lexical.specs.declared.place.Place.{Place}
use Rattle.source_tree.specs.declared.entry.ItemEntry.{ItemEntry}
use Rattle.source_tree.specs.declared.entry.ConditionEntry.{ConditionEntry}
use Rattle.source_tree.specs.declared.entry.Entry.{Entry}
use Rattle.source_tree.specs.declared.entry.Entry.TheVariants.{Item, Condition}
use Rattle.source_tree.specs.Broken.{where_so, each}
use Rattle.source_tree.specs.Integers.{number_of}
use Rattle.source_tree.specs.Levels.{Forest, End, Tree, level_of, deeper, beyond, forest_of}
use Rattle.source_tree.specs.EntryRules.{is_level, level_rules}
use Rattle.data_entries.specs.Nesting.{HasLevel}
use Rattle.entry_rules.specs.Walk.{HasLevels, HasFirstLevel}

levels_if : (b : Bool) (F G : Forest) → HasLevels F → HasLevels G → HasLevels (if b then F else G)
levels_if true F G f g = f
levels_if false F G f g = g

levels_deeper : (level : ℕ) (F : Forest) → HasLevels F → HasLevels (deeper level F)
levels_deeper level End h = tt
levels_deeper level (Tree one conditions inner next) h =
    levels_if (nat_lt level (level_of one)) (Tree one conditions inner (deeper level next)) End
    (h.0, h.1, levels_deeper level next h.2) tt

levels_beyond : (level : ℕ) (F : Forest) → HasLevels F → HasLevels (beyond level F)
levels_beyond level End h = tt
levels_beyond level (Tree one conditions inner next) h =
    levels_if (nat_lt level (level_of one)) (beyond level next) (Tree one conditions inner next)
    (levels_beyond level next h.2) h

second_of : (d c : Bool) → ((d && c) || false) ≡ true → c ≡ true
second_of true true e = refl
second_of true false e = cc
second_of false c e = cc

low : (n : ℕ) → nat_le n 49 ≡ true → n < 100000
low n e = grind arith

seventy_seven : (n : ℕ) → (n == 77) ≡ true → n < 100000
seventy_seven n e = grind arith

known_by : (b : Bool) (n : ℕ) → (n == 77) ≡ b → ((nat_le 1 n && nat_le n 49) || b) ≡ true → n < 100000
known_by true n t e = seventy_seven n t
known_by false n t e = low n (second_of (nat_le 1 n) (nat_le n 49) e)

pub front_nil : {A : Type 0} (xs ys : List A) → xs ++ ys ≡ [] → xs ≡ []
front_nil [] ys e = refl
front_nil (x ∷ xs) ys e = cc

pub back_nil : {A : Type 0} (xs ys : List A) → xs ++ ys ≡ [] → ys ≡ []
back_nil [] ys e = e
back_nil (x ∷ xs) ys e = cc

pub kept : (test : Bool) (rule : ℕ) (place : Place) → where_so test rule place ≡ [] → test ≡ false
kept true rule place e = cc
kept false rule place e = refl

true_where : (b : Bool) → not b ≡ false → b ≡ true
true_where true e = refl
true_where false e = cc

known : (one : ItemEntry) → level_rules (Item one) ≡ [] → number_of one.level < 100000
known one e =
    known_by (number_of one.level == 77) (number_of one.level) refl
    (true_where (is_level (number_of one.level)) (kept (not (is_level (number_of one.level))) 43 one.level.place e))

-- Entries whose level numbers are some have levels that are told as they are.
pub levels : (entries : List Entry) → each level_rules entries ≡ [] → HasLevels (forest_of entries)
levels [] e = tt
levels (Item one ∷ more) e =
    let rest = levels more (back_nil (level_rules (Item one)) (each level_rules more) e) in (
      known one (front_nil (level_rules (Item one)) (each level_rules more) e),
      levels_deeper (level_of one) (forest_of more) rest,
      levels_beyond (level_of one) (forest_of more) rest,
    )
levels (Condition one ∷ more) e = levels more e

pub first_levels : (F : Forest) → HasLevels F → HasFirstLevel F
first_levels End h = tt
first_levels (Tree one conditions inner next) h = h.0

pub levels_tree : (F : Forest) (one : ItemEntry) (conditions : List ConditionEntry) (inner next : Forest)
    → F ≡ Tree one conditions inner next → HasLevels F → (number_of one.level < 100000) × HasLevels inner
    × HasLevels next
levels_tree F one conditions inner next e h = subst HasLevels e h

outer_by : (b : Bool) (n : ℕ) → n < 100000 → (if b then 1 else n) < 100000
outer_by true n h = lit< tt
outer_by false n h = h

pub has_level : (F : Forest) → HasLevels F → HasLevel F
has_level End h = tt
has_level (Tree one conditions inner next) h = outer_by (number_of one.level == 77) (number_of one.level) h.0
