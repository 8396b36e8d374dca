-- Parts of the rules of conditions.
use Rattle.std.specs.Prelude.{◌==◌, Bool, true, false, ◌&&◌, List}
use Rattle.items.specs.declared.numeric.Numeric.{Numeric}
use Rattle.source_tree.specs.declared.reference.Reference.{Reference}
use Rattle.source_tree.specs.Places.{LocatedItem}
use Rattle.source_tree.specs.LookUp.{conditions_named}
use Rattle.source_tree.specs.Broken.{RuleBreach}
use Rattle.source_tree.specs.NameRules.{unique_name_rules}
use Rattle.source_tree.specs.ConditionRules as tree
use Rattle.source_tree.specs.ConditionRules.{is_display, condition_subscripts}
use Rattle.check_rules.specs.declared.side_kind.SideKind.{SideKind}
use Rattle.check_rules.specs.declared.side_kind.SideKind.TheVariants as compared

abbrev pub counts_as_digits : Numeric → Bool
counts_as_digits n = is_display n.usage && (n.scale == 0)

abbrev pub side_kind_of : SideKind → tree.SideKind
side_kind_of compared.Digits = tree.Number true
side_kind_of compared.Number = tree.Number false
side_kind_of compared.Characters = tree.Characters
side_kind_of compared.Either = tree.Either

-- the name of a condition, with its number of subscripts
abbrev pub condition_named_rules : List LocatedItem → Reference → List RuleBreach
condition_named_rules items one = unique_name_rules one.item.name.place (condition_subscripts one) (conditions_named items one.item)
