-- The rules of what an object asks of its subject.
use Rattle.std.proofs.Common.{◌≡◌, Bool, true, false, not, List, [], ◌∷◌, ◌++◌, None, Some, refl, sym, ap, subst, ◌∙◌}
use Rattle.std.specs.Prelude.{Option, Result, Ok, Err, map}
use Rattle.std.specs.Option.{option_map}
use Rattle.std.proofs.lemmas.List.{append-nil}
use Rattle.lexical.specs.declared.place.Place.{Place}
use Rattle.source_tree.specs.declared.reference.Reference.{Reference}
use Rattle.source_tree.specs.declared.condition.Relation.TheVariants.{Equal, GreaterOrEqual, LessOrEqual}
use Rattle.source_tree.specs.declared.condition.Side.{Side}
use Rattle.source_tree.specs.declared.condition.Condition.{Condition}
use Rattle.source_tree.specs.declared.condition.Condition.TheVariants.{Name, Relation, Not, All}
use Rattle.source_tree.specs.declared.evaluate_statement.Object.{Object}
use Rattle.source_tree.specs.declared.evaluate_statement.Subject.{Subject}
use Rattle.source_tree.specs.Places.{LocatedItem}
use Rattle.source_tree.specs.Broken.{RuleBreach, where_so}
use Rattle.source_tree.specs.LookUp.{first}
use Rattle.source_tree.specs.ConditionRules.{condition_name_rules, relation_rules, condition_rules}
use Rattle.source_tree.specs.Evaluate.{constant, condition_or_opposite, alike, value_within, selection_condition, fits}
use Rattle.source_tree.specs.EvaluateRules.{at_object, object_rules, objects_rules}
use Rattle.entry_rules.specs.declared.rule.BrokenRule.{BrokenRule}
use Rattle.entry_rules.specs.Checks.{IsFirstBreach}
use Rattle.declarations.specs.Resolved.{broken_in}
use Rattle.declarations.proofs.Firsts.{first_front, front_none}
use Rattle.check_rules.proofs.ConditionLayers.{name_is, relation_is, not_is, all_is, any_is}

module _ (items : List LocatedItem) where
  -- what is always so, or never
  pub constant_is : (truth : Bool) → condition_rules items (constant truth) ≡ []
  constant_is true = all_is items []
  constant_is false = any_is items []

  -- a condition, or its opposite
  pub told_is : (truth : Bool) (one : Condition)
      → condition_rules items (condition_or_opposite truth one) ≡ condition_rules items one
  told_is true one = refl
  told_is false one = not_is items one

  pub truths_is : (one other : Bool) → condition_rules items (condition_or_opposite one (constant other)) ≡ []
  truths_is one other = told_is one (constant other) ∙ constant_is other

  -- a condition name, with NOT or without
  pub name_told_is : (truth : Bool) (one : Reference)
      → condition_rules items (condition_or_opposite truth (Name one)) ≡ condition_name_rules items one
  name_told_is truth one = told_is truth (Name one) ∙ name_is items one

  -- two conditions
  both_are : (one other : Condition)
      → condition_rules items (All (one ∷ other ∷ [])) ≡ condition_rules items one ++ condition_rules items other
  both_are one other = all_is items (one ∷ other ∷ [])
      ∙ ap (λ l. condition_rules items one ++ l) (append-nil (condition_rules items other))

  pub one_is : (value wanted : Side)
      → condition_rules items (value_within value wanted None) ≡ relation_rules items value wanted
  one_is value wanted = relation_is items value Equal wanted

  pub range_is : (value from last : Side) → condition_rules items (value_within value from (Some last)) ≡ relation_rules
      items value from ++ relation_rules items value last
  range_is value from last =
      both_are (Relation value GreaterOrEqual from) (Relation value LessOrEqual last)
      ∙ ap (λ l. l ++ condition_rules items (Relation value LessOrEqual last))
      (relation_is items value GreaterOrEqual from)
      ∙ ap (λ l. relation_rules items value from ++ l) (relation_is items value LessOrEqual last)

  -- What the first relation breaks is the first of all.
  pub within_front : (value from : Side) (last : Option Side) (broken : RuleBreach)
      → first (relation_rules items value from) ≡ Some broken
      → first (condition_rules items (value_within value from last)) ≡ Some broken
  within_front value from None broken h = ap first (one_is value from) ∙ h
  within_front value from (Some last) broken h = ap first (range_is value from last)
      ∙ first_front (relation_rules items value from) (relation_rules items value last) broken h

  -- Both stand twice.
  pub alike_is : (one other : Condition)
      → condition_rules items (alike one other) ≡ (condition_rules items one ++ condition_rules items other)
      ++ (condition_rules items one ++ condition_rules items other)
  alike_is one other =
      let both = condition_rules items one ++ condition_rules items other in
      let none : condition_rules items (All (Not one ∷ Not other ∷ [])) ≡ both =
      both_are (Not one) (Not other)
      ∙ ap (λ l. l ++ condition_rules items (Not other)) (not_is items one)
      ∙ ap (λ l. condition_rules items one ++ l) (not_is items other) in
      any_is items (All (one ∷ other ∷ []) ∷ All (Not one ∷ Not other ∷ []) ∷ [])
      ∙ ap (λ l. condition_rules items (All (one ∷ other ∷ [])) ++ l)
      (append-nil (condition_rules items (All (Not one ∷ Not other ∷ []))))
      ∙ ap (λ l. l ++ condition_rules items (All (Not one ∷ Not other ∷ []))) (both_are one other)
      ∙ ap (λ l. both ++ l) none

-- A subject without an object breaks nothing by itself.
pub none_left : (items : List LocatedItem) (subjects : List Subject) → objects_rules items subjects [] ≡ []
none_left items [] = refl
none_left items (one ∷ more) = refl

-- What twice the same rules tell is what they tell once.
pub finds_twice : {A : Type 0} (found : Result A BrokenRule) (rules : List RuleBreach) → IsFirstBreach found rules
    → IsFirstBreach found (rules ++ rules)
finds_twice (Ok value) rules h = ap (λ l. l ++ rules) h ∙ h
finds_twice (Err one) [] h = absurd cc
finds_twice (Err one) (broken ∷ more) h = h

-- ---- a comparison is told at its object

module _ (place : Place) where
  first_map : (rules : List RuleBreach)
      → first (map (at_object place) rules) ≡ option_map (at_object place) (first rules)
  first_map [] = refl
  first_map (one ∷ more) = refl

  pub finds_at : {A B : Type 0} (found : Result A BrokenRule) (told : Result B BrokenRule) (rules : List RuleBreach)
      → broken_in told ≡ option_map (at_object place) (broken_in found) → IsFirstBreach found rules
      → IsFirstBreach told (map (at_object place) rules)
  finds_at (Ok value) (Ok other) rules e h = ap (map (at_object place)) h
  finds_at (Ok value) (Err other) rules e h = absurd cc
  finds_at (Err one) (Ok other) rules e h = absurd cc
  finds_at (Err one) (Err other) rules e h = first_map rules ∙ ap (option_map (at_object place)) h ∙ sym e

-- What an object that fits its subject breaks is what its condition breaks, at the object.
pub object_found : {A B : Type 0} (items : List LocatedItem) (subject : Subject) (object : Object) (unfit : Bool)
    (asked : Condition) (found : Result A BrokenRule) (told : Result B BrokenRule)
    → unfit ≡ not (fits items subject object.choice) → where_so unfit 53 object.place ≡ []
    → asked ≡ selection_condition items subject object.choice → IsFirstBreach found (condition_rules items asked)
    → broken_in told ≡ option_map (at_object object.place) (broken_in found)
    → IsFirstBreach told (object_rules items subject object)
object_found items subject object unfit asked found told is kept same first_is told_is =
    let fault = where_so (not (fits items subject object.choice)) 53 object.place in
    let rules = condition_rules items (selection_condition items subject object.choice) in
    let none : fault ≡ [] = subst (λ (b : Bool). where_so b 53 object.place ≡ []) is kept in
    subst (λ (l : List RuleBreach). IsFirstBreach told l)
    (sym (front_none fault (map (at_object object.place) rules) none))
    (finds_at object.place found told rules told_is
    (subst (λ (one : Condition). IsFirstBreach found (condition_rules items one)) same first_is))

-- each form
pub ruleset forms = (constant_is, told_is, truths_is, name_told_is, alike_is, finds_twice)
