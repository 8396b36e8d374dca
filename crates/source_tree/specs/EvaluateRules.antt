-- The rules of EVALUATE (COBOL-85, Nucleus, "The EVALUATE statement"). Those of its subjects; 53 of a WHEN with more or fewer
-- objects than there are subjects, and of an object that doesn't fit its subject; and those of the conditions that its objects ask.
use Rattle.std.specs.Prelude.{◌==◌, not, if◌then◌else◌, map, List, [], ◌∷◌, ◌++◌, length}
use Rattle.lexical.specs.declared.place.Place.{Place}
use Rattle.source_tree.specs.declared.condition.Side.{Side}
use Rattle.source_tree.specs.declared.evaluate_statement.Subject.{Subject}
use Rattle.source_tree.specs.declared.evaluate_statement.Object.{Object}
use Rattle.source_tree.specs.declared.evaluate_statement.When.{When}
use Rattle.source_tree.specs.declared.evaluate_statement.Selected.{Selected}
use Rattle.source_tree.specs.Places.{LocatedItem}
use Rattle.source_tree.specs.Broken.{RuleBreach, where_so, each}
use Rattle.source_tree.specs.ConditionRules.{side_rules, condition_rules}
use Rattle.source_tree.specs.Evaluate.{ResolvedOperand, Value, Truth, Asking, resolved_subject, fits, selection_condition}

-- a comparison that isn't permitted is told where the object begins
abbrev pub at_object : Place → RuleBreach → RuleBreach
at_object place one = if one.rule == 52 then record one { place = place } else one

module _ (items : List LocatedItem) where
  -- a value is ruled by itself
  abbrev pub resolved_rules : ResolvedOperand Side → List RuleBreach
  resolved_rules (Value one) = side_rules items one
  resolved_rules (Truth one) = []
  resolved_rules (Asking one) = condition_rules items one

  abbrev pub subject_rules : Subject → List RuleBreach
  subject_rules one = resolved_rules (resolved_subject items one)

  abbrev pub object_rules : Subject → Object → List RuleBreach
  object_rules one object =
      where_so (not (fits items one object.choice)) 53 object.place ++ map (at_object object.place) (condition_rules items (selection_condition items one object.choice))

  -- subject by subject
  abbrev pub objects_rules : List Subject → List Object → List RuleBreach
  objects_rules (one ∷ more) (object ∷ others) = object_rules one object ++ objects_rules more others
  objects_rules _ _ = []

  abbrev pub when_rules : List Subject → When → List RuleBreach
  when_rules subjects one =
      where_so (not (length one.objects == length subjects)) 53 one.place ++ objects_rules subjects one.objects

  module _ {S : Type 0} (inside : S → List RuleBreach) where
    abbrev pub selected_rules : List Subject → Selected S → List RuleBreach
    selected_rules subjects one = each (when_rules subjects) one.whens ++ each inside one.statements
