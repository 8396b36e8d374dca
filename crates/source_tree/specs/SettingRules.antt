-- The rules of INITIALIZE and SET: 40, 41, 50 and 51 of references, and 68 where SET names an item in place of a condition name.
use Rattle.std.specs.Prelude.{List, [], ◌∷◌, ◌++◌}
use Rattle.lexical.specs.declared.place.Place.{Place}
use Rattle.source_tree.specs.declared.reference.Reference.{Reference}
use Rattle.source_tree.specs.Places.{LocatedItem}
use Rattle.source_tree.specs.LookUp.{NamedCondition, items_named, conditions_named}
use Rattle.source_tree.specs.Broken.{RuleBreach, each}
use Rattle.source_tree.specs.NameRules.{unique_name_rules, number_rules_of, reference_rules, any_item}
use Rattle.source_tree.specs.ConditionRules.{condition_subscripts}

abbrev pub initialize_rules : List LocatedItem → List Reference → List RuleBreach
initialize_rules items receivers = each (reference_rules items any_item) receivers

-- what a name breaks that no condition name has: 68 where items have it, else 40
abbrev pub no_condition : Place → List LocatedItem → List RuleBreach
no_condition place [] = record { rule = 40; place = place } ∷ []
no_condition place (one ∷ more) = record { rule = 68; place = place } ∷ []

abbrev pub set_name : Place → Reference → List LocatedItem → List NamedCondition → List RuleBreach
set_name place one found [] = no_condition place found
set_name place one found (first ∷ more) = unique_name_rules place (condition_subscripts one) (first ∷ more)

abbrev pub set_one : List LocatedItem → Reference → List RuleBreach
set_one items one =
    set_name one.item.name.place one (items_named items one.item) (conditions_named items one.item) ++ number_rules_of items one

abbrev pub set_rules : List LocatedItem → List Reference → List RuleBreach
set_rules items conditions = each (set_one items) conditions
