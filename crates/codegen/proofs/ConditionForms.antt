-- The code, the rules and the truth of a condition, by those of the conditions in it.
use Rattle.std.proofs.Common.{◌≡◌, List, [], ◌∷◌, map, refl, ap, ◌∙◌}
use Rattle.source_tree.specs.declared.condition.Condition.{Condition, roll-Condition}
use Rattle.source_tree.specs.declared.condition.Condition.TheOpen.{Condition-F}
use Rattle.source_tree.specs.declared.condition.Condition.TheFolds.{map-Condition, fold-roll-Condition}
use Rattle.source_tree.specs.Broken.{RuleBreach}
use Rattle.source_tree.specs.ConditionRules.{condition_layer_rules, condition_rules}
use Rattle.source_tree.specs.Conditions.{ConditionValue, condition_layer, holds}
use Rattle.source_tree.specs.Places.{LocatedItem}
use Rattle.condition_codegen.specs.Fragments.{Fragment}
use Rattle.condition_codegen.specs.ConditionCode.{condition_layer_fragment, condition_fragment}

module _ {A B C : Type 0} (f : A → B) (g : B → C) where
  all_twice : (all : List A) → map g (map f all) ≡ map (λ a. g (f a)) all
  all_twice [] = refl
  all_twice (one ∷ more) = ap (λ l. g (f one) ∷ l) (all_twice more)

  map_twice : (l : Condition-F A) → map-Condition B C g (map-Condition A B f l) ≡ map-Condition A C (λ a. g (f a)) l
  map_twice (Condition-F.Name reference) = refl
  map_twice (Condition-F.Relation left one right) = refl
  map_twice (Condition-F.Sign value negated one) = refl
  map_twice (Condition-F.Class reference negated one) = refl
  map_twice (Condition-F.Not inner) = refl
  map_twice (Condition-F.All parts) = ap (λ (l : List C). Condition-F.All l) (all_twice parts)
  map_twice (Condition-F.Any parts) = ap (λ (l : List C). Condition-F.Any l) (all_twice parts)

module _ (items : List LocatedItem) {A : Type 0} (f : A → Condition) (l : Condition-F A) where
  pub mapped_piece : condition_fragment items (roll-Condition (map-Condition A Condition f l))
      ≡ condition_layer_fragment items (map-Condition A Fragment (λ a. condition_fragment items (f a)) l)
  unfolding condition_fragment
  mapped_piece =
      fold-roll-Condition Fragment (condition_layer_fragment items) (map-Condition A Condition f l)
      ∙ ap (condition_layer_fragment items) (map_twice f (condition_fragment items) l)

  pub mapped_rules : condition_rules items (roll-Condition (map-Condition A Condition f l))
      ≡ condition_layer_rules items (map-Condition A (List RuleBreach) (λ a. condition_rules items (f a)) l)
  unfolding condition_rules
  mapped_rules =
      fold-roll-Condition (List RuleBreach) (condition_layer_rules items) (map-Condition A Condition f l)
      ∙ ap (condition_layer_rules items) (map_twice f (condition_rules items) l)

  pub mapped_truth : holds items (roll-Condition (map-Condition A Condition f l))
      ≡ condition_layer items (map-Condition A ConditionValue (λ a. holds items (f a)) l)
  unfolding holds
  mapped_truth =
      fold-roll-Condition ConditionValue (condition_layer items) (map-Condition A Condition f l)
      ∙ ap (condition_layer items) (map_twice f (holds items) l)
