-- The rules of one tree of entries, and the bytes of its occurrences.
use Rattle.std.specs.Prelude.{◌≡◌, ◌≤◌, ℕ, ◌*◌, List, ◌++◌, Option, None, if◌then◌else◌}
use Rattle.items.specs.declared.item.Item.{Item}
use Rattle.source_tree.specs.declared.entry.Around.{Around}
use Rattle.source_tree.specs.declared.entry.ItemEntry.{ItemEntry}
use Rattle.source_tree.specs.declared.entry.ConditionEntry.{ConditionEntry}
use Rattle.source_tree.specs.Levels.{Forest}
use Rattle.source_tree.specs.Clauses.{occurrences, picture_in}
use Rattle.source_tree.specs.Rooms.{redefines, item_with}
use Rattle.source_tree.specs.ClauseRules.{most_item_bytes, most_occurrences}
use Rattle.source_tree.specs.Broken.{RuleBreach, each}
use Rattle.source_tree.specs.RedefinitionRules.{Redefinable}
use Rattle.source_tree.specs.ValueRules.{condition_rules}
use Rattle.source_tree.specs.EntryRules.{below, own_rules, forest_rules}
use Rattle.data_entries.specs.Forms.{IsKind}
use Rattle.entry_rules.specs.declared.described.Described.{Described}
use Rattle.entry_rules.specs.declared.position.Position.{Position}
use Rattle.entry_rules.specs.Walk.{at_of}

-- of all occurrences
abbrev pub extent : Around → ItemEntry → Forest → ℕ
extent around one inner = occurrences one * (item_with around one inner).length

-- 65,535 times 65,535
abbrev pub most_extent : ℕ
most_extent = 4294836225

abbrev pub own_bytes : ItemEntry → ℕ → ℕ
own_bytes one bytes = if redefines one then 0 else bytes

-- The entry with its picture and its item, which keeps the limits of sizes.
pub record DescribesEntry (around : Around) (wanted : ItemEntry) (inner : Forest) (one : Described) : Type 0 where
  pub entry : one.entry.now ≡ wanted
  pub picture : one.picture ≡ picture_in wanted
  pub item : one.item ≡ item_with around wanted inner
  pub kind : IsKind one.item.kind
  pub times : occurrences wanted ≤ most_occurrences
  pub bytes : one.item.length ≤ most_item_bytes

-- Those in it, its own, and those of its condition names.
abbrev pub item_rules : Position → ItemEntry → List ConditionEntry → Forest → Option Redefinable → List RuleBreach
item_rules at one conditions inner last =
    let item : Item = item_with at.around one inner in
    forest_rules (below (at_of at) one inner) None inner ++ (own_rules (at_of at) one item inner last ++ each (condition_rules item) conditions)
