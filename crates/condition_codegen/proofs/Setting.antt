-- The rules of condition names, kept by those that SET may name.
use Rattle.std.proofs.Common.{◌≡◌, List, [], ◌∷◌, ◌++◌}
use Rattle.lexical.specs.declared.place.Place.{Place}
use Rattle.source_tree.specs.declared.reference.Reference.{Reference}
use Rattle.source_tree.specs.Broken.{RuleBreach}
use Rattle.source_tree.specs.ConditionRules.{condition_subscripts, condition_name_rules}
use Rattle.source_tree.specs.LookUp.{NamedCondition, items_named, conditions_named}
use Rattle.source_tree.specs.NameRules.{unique_name_rules, number_rules_of}
use Rattle.source_tree.specs.Places.{LocatedItem}
use Rattle.source_tree.specs.SettingRules.{set_name, set_one}

-- A condition name that SET may name keeps the rules of condition names.
set_named : (place : Place) (one : Reference) (found : List LocatedItem) (conditions : List NamedCondition)
    (rest : List RuleBreach)
    → set_name place one found conditions ++ rest ≡ []
    → unique_name_rules place (condition_subscripts one) conditions ++ rest ≡ []
set_named place one [] [] rest e = absurd cc
set_named place one (x ∷ xs) [] rest e = absurd cc
set_named place one found (c ∷ cs) rest e = e

pub set_kept : (items : List LocatedItem) (one : Reference) → set_one items one ≡ []
    → condition_name_rules items one ≡ []
set_kept items one e = set_named one.item.name.place one (items_named items one.item) (conditions_named items one.item)
    (number_rules_of items one) e
