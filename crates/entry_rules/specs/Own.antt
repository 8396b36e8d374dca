-- The rules of one entry, except for its sizes.
use Rattle.std.specs.Prelude.{◌*◌, ◌&&◌, ◌||◌, List, ◌++◌, Option}
use Rattle.items.specs.declared.item.Item.{Item}
use Rattle.source_tree.specs.declared.entry.ItemEntry.{ItemEntry}
use Rattle.source_tree.specs.declared.entry.ConditionEntry.{ConditionEntry}
use Rattle.source_tree.specs.Integers.{number_of}
use Rattle.source_tree.specs.Levels.{Forest}
use Rattle.source_tree.specs.Clauses.{occurrences}
use Rattle.source_tree.specs.Rooms.{redefines}
use Rattle.source_tree.specs.Broken.{RuleBreach, where_so, each}
use Rattle.source_tree.specs.ClauseRules.{wrong_clause, wrong_picture}
use Rattle.source_tree.specs.RedefinitionRules.{Redefinable}
use Rattle.source_tree.specs.ValueRules.{value_rules, condition_rules}
use Rattle.source_tree.specs.EntryRules.{wrong_level, redefinition_rules}
use Rattle.entry_rules.specs.declared.position.Position.{Position}
use Rattle.entry_rules.specs.Walk.{is_outermost}

-- 43, 44, 45
abbrev pub form_rules : Position → ItemEntry → Item → Forest → List RuleBreach
form_rules at one item inner =
    where_so (wrong_level at.in_file at.level (number_of one.level) inner) 43 one.level.place
    ++ where_so (wrong_clause (is_outermost at) at.nesting at.around one item) 44 one.level.place
    ++ where_so (wrong_picture one inner) 45 one.level.place

-- those, 46 and 47: all but those of sizes
abbrev pub later_rules : Position → ItemEntry → Item → Forest → Option Redefinable → List RuleBreach
later_rules at one item inner last =
    form_rules at one item inner
    ++ redefinition_rules (is_outermost at && at.in_file) one (occurrences one * item.length) one.redefines last
    ++ value_rules (at.in_file || at.has_no_value || redefines one) item one.value

-- those, and those of its condition names
abbrev pub entry_rules : Position → ItemEntry → List ConditionEntry → Item → Forest → Option Redefinable → List RuleBreach
entry_rules at one conditions item inner last = later_rules at one item inner last ++ each (condition_rules item) conditions
