-- The rules of VARYING, in the order in which they are looked at.
use Rattle.std.proofs.Common.{◌≡◌, List, [], ◌∷◌, ◌++◌, Some, sym, ap, ◌∙◌, subst, append_assoc}
use Rattle.std.specs.Prelude.{Result}
use Rattle.std.proofs.lemmas.List.{append-nil}
use Rattle.source_tree.specs.declared.until.Varying.{Varying}
use Rattle.source_tree.specs.ArithmeticRules.{number_rules}
use Rattle.source_tree.specs.Broken.{RuleBreach}
use Rattle.source_tree.specs.ConditionRules.{varying_rules}
use Rattle.source_tree.specs.LookUp.{first}
use Rattle.source_tree.specs.MoveRules.{move_rules}
use Rattle.source_tree.specs.NameRules.{reference_rules}
use Rattle.source_tree.specs.Places.{LocatedItem}
use Rattle.entry_rules.specs.declared.rule.BrokenRule.{BrokenRule}
use Rattle.entry_rules.specs.Checks.{IsFirstBreach}
use Rattle.declarations.proofs.Firsts.{first_front, first_back, both_none}
use Rattle.check_rules.specs.declared.asked.Asked.TheVariants.{Numeric}
use Rattle.check_rules.specs.Asking.{asks}
use Rattle.check_rules.proofs.Parts.{kept_before}

module _ (items : List LocatedItem) (one : Varying) where
  abbrev moved : List RuleBreach
  moved = move_rules items one.from (one.item ∷ [])

  abbrev start : List RuleBreach
  start = number_rules items one.from

  abbrev step : List RuleBreach
  step = number_rules items one.by

  abbrev counted : List RuleBreach
  counted = reference_rules items (asks Numeric) one.item

  varying_is : varying_rules items (Some one) ≡ moved ++ start ++ step ++ counted
  varying_is =
      ap (λ l. moved ++ start ++ (l ++ (counted ++ []))) (append-nil step)
      ∙ ap (λ l. moved ++ start ++ (step ++ l)) (append-nil counted)
      ∙ sym (append_assoc (moved ++ start) step counted)

  pub found_moved : (broken : RuleBreach) → first moved ≡ Some broken
      → first (varying_rules items (Some one)) ≡ Some broken
  found_moved broken h = ap first varying_is
      ∙ first_front (moved ++ start ++ step) counted broken
      (first_front (moved ++ start) step broken (first_front moved start broken h))

  pub found_start : (broken : RuleBreach) → moved ≡ [] → first start ≡ Some broken
      → first (varying_rules items (Some one)) ≡ Some broken
  found_start broken kept h = ap first varying_is
      ∙ first_front (moved ++ start ++ step) counted broken
      (first_front (moved ++ start) step broken (first_back moved start broken kept h))

  pub found_step : (broken : RuleBreach) → moved ≡ [] → start ≡ [] → first step ≡ Some broken
      → first (varying_rules items (Some one)) ≡ Some broken
  found_step broken kept none h = ap first varying_is
      ∙ first_front (moved ++ start ++ step) counted broken
      (first_back (moved ++ start) step broken (both_none moved start kept none) h)

  pub found_counted : {A : Type 0} (result : Result A BrokenRule) → moved ≡ [] → start ≡ [] → step ≡ []
      → IsFirstBreach result counted → IsFirstBreach result (varying_rules items (Some one))
  found_counted result kept none nothing h = subst (IsFirstBreach result) (sym varying_is)
      (kept_before result (moved ++ start ++ step) counted
      (both_none (moved ++ start) step (both_none moved start kept none) nothing) h)
