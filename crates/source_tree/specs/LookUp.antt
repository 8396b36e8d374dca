-- What a reference names: nothing, one thing, or several (COBOL-85, Nucleus, "Uniqueness of reference").
use Rattle.std.specs.Prelude.{Bool, ◌&&◌, filter, List, [], ◌∷◌, ◌++◌, Option, Some, None}
use Rattle.source_tree.specs.declared.entry.ConditionEntry.{ConditionEntry}
use Rattle.source_tree.specs.declared.reference.QualifiedName.{QualifiedName}
use Rattle.source_tree.specs.Names.{same, is_within, is_called, with_name}
use Rattle.source_tree.specs.Places.{LocatedItem}

abbrev pub is_item : QualifiedName → LocatedItem → Bool
is_item reference one = is_called reference.name one.entry.name && is_within reference.qualifiers one.groups

abbrev pub items_named : List LocatedItem → QualifiedName → List LocatedItem
items_named items reference = filter (is_item reference) items

-- a condition name and its item
pub record NamedCondition : Type 0 where
  pub condition : ConditionEntry
  pub item : LocatedItem

abbrev pub conditions_of : LocatedItem → List ConditionEntry → List NamedCondition
conditions_of item [] = []
conditions_of item (one ∷ more) = record { condition = one; item = item } ∷ conditions_of item more

abbrev pub all_conditions : List LocatedItem → List NamedCondition
all_conditions [] = []
all_conditions (one ∷ more) = conditions_of one one.conditions ++ all_conditions more

-- A condition name is qualified by its item too.
abbrev pub is_condition : QualifiedName → NamedCondition → Bool
is_condition reference one =
    same reference.name one.condition.name && is_within reference.qualifiers (with_name one.item.entry.name one.item.groups)

abbrev pub conditions_named : List LocatedItem → QualifiedName → List NamedCondition
conditions_named items reference = filter (is_condition reference) (all_conditions items)

abbrev pub first : {A : Type 0} → List A → Option A
first [] = None
first (one ∷ more) = Some one
