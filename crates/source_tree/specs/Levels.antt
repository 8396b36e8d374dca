-- Entries by their levels (COBOL-85, Nucleus, "Level-numbers").
use Rattle.std.specs.Prelude.{ℕ, ◌==◌, nat_lt, if◌then◌else◌, List, [], ◌∷◌}
use Rattle.source_tree.specs.declared.entry.ItemEntry.{ItemEntry}
use Rattle.source_tree.specs.declared.entry.ConditionEntry.{ConditionEntry}
use Rattle.source_tree.specs.declared.entry.Entry.{Entry}
use Rattle.source_tree.specs.declared.entry.Entry.TheVariants.{Item, Condition}
use Rattle.source_tree.specs.Integers.{number_of}

-- An item with its condition names, the items in it, and those after it; or no item.
pub data Forest : Type 0 where
  End : Forest
  Tree : ItemEntry → List ConditionEntry → Forest → Forest → Forest

-- 77 stands by itself, as 01 does.
abbrev pub outer_level : ℕ → ℕ
outer_level level = if level == 77 then 1 else level

abbrev pub level_of : ItemEntry → ℕ
level_of one = outer_level (number_of one.level)

-- the items at the front whose level is greater
abbrev pub deeper : ℕ → Forest → Forest
deeper level End = End
deeper level (Tree one conditions inner next) =
    if nat_lt level (level_of one) then Tree one conditions inner (deeper level next) else End

-- those from the first on whose level isn't greater
abbrev pub beyond : ℕ → Forest → Forest
beyond level End = End
beyond level (Tree one conditions inner next) =
    if nat_lt level (level_of one) then beyond level next else Tree one conditions inner next

abbrev pub with_item_entry : ItemEntry → List ConditionEntry → Forest → Forest
with_item_entry one conditions forest = Tree one conditions (deeper (level_of one) forest) (beyond (level_of one) forest)

-- the condition names before the first item: those of the item before them
abbrev pub leading_conditions : List Entry → List ConditionEntry
leading_conditions [] = []
leading_conditions (Item one ∷ more) = []
leading_conditions (Condition one ∷ more) = one ∷ leading_conditions more

-- A group has the entries after it up to the first whose level isn't greater.
abbrev pub forest_of : List Entry → Forest
forest_of [] = End
forest_of (Item one ∷ more) = with_item_entry one (leading_conditions more) (forest_of more)
forest_of (Condition one ∷ more) = forest_of more
