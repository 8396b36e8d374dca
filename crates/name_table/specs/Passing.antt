-- The condition names that are met along entries, where so many items were passed.
use Rattle.std.specs.Prelude.{◌≡◌, ℕ, suc, ◌+◌, ◌-◌, nat_lt, if◌then◌else◌, List, [], ◌∷◌, ◌++◌, map}
use Rattle.source_tree.specs.declared.entry.ConditionEntry.{ConditionEntry}
use Rattle.source_tree.specs.declared.entry.Entry.{Entry}
use Rattle.source_tree.specs.declared.entry.Entry.TheVariants.{Item, Condition}
use Rattle.source_tree.specs.declared.select.FileDescription.{FileDescription}
use Rattle.name_table.specs.declared.conditions.ConditionNames.{ConditionNames}
use Rattle.name_table.specs.Positions.{NamePath}
use Rattle.name_table.specs.Conditions.{condition_at, pairs_in}
use Rattle.name_table.specs.Table.{IsTable, calls_in}

-- A condition name belongs to the last of so many items, unless all of them were there before these entries.
abbrev pub of_last : ℕ → ℕ → ConditionEntry → List (ConditionEntry × ℕ)
of_last before count one = if nat_lt before count then (one, count - 1) ∷ [] else []

-- those of the entries after so many items
abbrev pub conditions_after : ℕ → ℕ → List Entry → List (ConditionEntry × ℕ)
conditions_after before count [] = []
conditions_after before count (Item one ∷ more) = conditions_after before (suc count) more
conditions_after before count (Condition one ∷ more) = of_last before count one ++ conditions_after before count more

abbrev pub item_count : List Entry → ℕ
item_count [] = 0
item_count (Item one ∷ more) = suc (item_count more)
item_count (Condition one ∷ more) = item_count more

-- the same of records
abbrev pub behind_records : ℕ → List FileDescription → List (ConditionEntry × ℕ)
behind_records count [] = []
behind_records count (one ∷ more) = conditions_after count count one.entries ++ behind_records (count + item_count one.entries) more

abbrev pub record_item_count : List FileDescription → ℕ
record_item_count [] = 0
record_item_count (one ∷ more) = item_count one.entries + record_item_count more

-- Each is called as the pair says that is told of it, among items of these names.
pub record AreCalled (calls : List NamePath) (all : ConditionNames) : Type 0 where
  pub table : IsTable all.names
  pub calls_are : calls_in all.names ≡ map (condition_at calls) (pairs_in all)
