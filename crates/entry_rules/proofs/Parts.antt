-- The rules of one entry, part by part.
use Rattle.std.proofs.Common.{◌≡◌, ◌*◌, ◌&&◌, ◌||◌, List, ◌++◌, Some}
use Rattle.std.specs.Prelude.{Option}
use Rattle.items.specs.declared.item.Item.{Item}
use Rattle.source_tree.specs.declared.entry.ItemEntry.{ItemEntry}
use Rattle.source_tree.specs.declared.entry.ConditionEntry.{ConditionEntry}
use Rattle.source_tree.specs.Levels.{Forest}
use Rattle.source_tree.specs.Clauses.{occurrences}
use Rattle.source_tree.specs.Rooms.{redefines}
use Rattle.source_tree.specs.Broken.{RuleBreach, each}
use Rattle.source_tree.specs.LookUp.{first}
use Rattle.source_tree.specs.RedefinitionRules.{Redefinable}
use Rattle.source_tree.specs.ValueRules.{value_rules, condition_rules}
use Rattle.source_tree.specs.EntryRules.{redefinition_rules}
use Rattle.entry_rules.specs.declared.position.Position.{Position}
use Rattle.entry_rules.specs.Walk.{is_outermost}
use Rattle.entry_rules.specs.Own.{form_rules, later_rules, entry_rules}
use Rattle.entry_rules.proofs.Firsts.{first_front}

pub own_found :
    (at : Position) (one : ItemEntry) (item : Item) (inner : Forest) (last : Option Redefinable) (b : RuleBreach)
    → first (form_rules at one item inner) ≡ Some b → first (later_rules at one item inner last) ≡ Some b
own_found at one item inner last b h =
    let redefinition : List RuleBreach =
    redefinition_rules (is_outermost at && at.in_file) one (occurrences one * item.length) one.redefines last in
    first_front (form_rules at one item inner ++ redefinition) (value_rules (at.in_file || at.has_no_value
    || redefines one) item one.value) b (first_front (form_rules at one item inner) redefinition b h)

pub entry_found : (at : Position) (one : ItemEntry) (conditions : List ConditionEntry) (item : Item) (inner : Forest)
    (last : Option Redefinable) (b : RuleBreach) → first (later_rules at one item inner last) ≡ Some b
    → first (entry_rules at one conditions item inner last) ≡ Some b
entry_found at one conditions item inner last b h =
    first_front (later_rules at one item inner last) (each (condition_rules item) conditions) b h
