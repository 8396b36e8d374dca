-- The rules of a tree of entries, and those of its parts.
use Rattle.std.proofs.Common.{◌≡◌, ◌*◌, List, [], ◌++◌, None}
use Rattle.std.specs.Prelude.{Option}
use Rattle.items.specs.declared.item.Item.{Item}
use Rattle.source_tree.specs.declared.entry.ItemEntry.{ItemEntry}
use Rattle.source_tree.specs.declared.entry.ConditionEntry.{ConditionEntry}
use Rattle.source_tree.specs.Levels.{Forest, Tree}
use Rattle.source_tree.specs.Clauses.{occurrences}
use Rattle.source_tree.specs.Rooms.{item_with}
use Rattle.source_tree.specs.Broken.{RuleBreach, each}
use Rattle.source_tree.specs.RedefinitionRules.{Redefinable, redefinable_after}
use Rattle.source_tree.specs.ValueRules.{condition_rules}
use Rattle.source_tree.specs.EntryRules.{Position, own_rules, below, forest_rules}
use Rattle.data_entries.proofs.Told.{front_nil, back_nil}

-- Of four lists whose rules are kept, the first, the second and the last.
pub three_parts : (a b c d : List RuleBreach) → a ++ (b ++ (c ++ d)) ≡ [] → (a ≡ []) × (b ≡ []) × (d ≡ [])
three_parts a b c d e =
    let rest = back_nil a (b ++ (c ++ d)) e in
    (front_nil a (b ++ (c ++ d)) e, front_nil b (c ++ d) rest, back_nil c d (back_nil b (c ++ d) rest))

-- A tree that keeps the rules: the entries in it, its own entry, and the entries after it keep them.
pub tree_parts : (at : Position) (last : Option Redefinable) (one : ItemEntry) (conditions : List ConditionEntry)
    (inner next : Forest) → forest_rules at last (Tree one conditions inner next) ≡ []
    → (forest_rules (below at one inner) None inner ≡ [])
    × (own_rules at one (item_with at.around one inner) inner last ≡ [])
    × (forest_rules at (redefinable_after one (occurrences one * (item_with at.around one inner).length) last) next
    ≡ [])
tree_parts at last one conditions inner next e =
    let item : Item = item_with at.around one inner in
    let after : Option Redefinable = redefinable_after one (occurrences one * item.length) last in
    three_parts (forest_rules (below at one inner) None inner) (own_rules at one item inner last)
    (each (condition_rules item) conditions) (forest_rules at after next) e
