-- The comparison of two numeric items.
use Rattle.std.proofs.Common.{◌≡◌, ℕ, List, Option, Some, None, refl, sym, ◌∙◌, ap, subst}
use Rattle.std.specs.Prelude.{Bool, true, IfSome, Ok}
use Rattle.std.specs.Option.{option_map}
use Rattle.std.specs.declared.cmp.Ordering.{Ordering}
use Rattle.decimal18.specs.Order.{order}
use Rattle.items.specs.declared.item.Item.{Item}
use Rattle.items.specs.declared.item.Kind.{Kind}
use Rattle.items.specs.declared.item.Kind.TheVariants as k
use Rattle.items.specs.declared.numeric.Numeric.{Numeric}
use Rattle.items.specs.declared.taken.Taken.{Taken}
use Rattle.items.specs.declared.taken.Taken.TheVariants as t
use Rattle.items.specs.Values.{value_of}
use Rattle.text_ops.specs.Compare.{comparison_of, both, is_number_operand, is_number_kind, operand_number, number_in}
use Rattle.source_tree.specs.Conditions.{satisfies, senders_satisfy}
use Rattle.source_tree.specs.Evaluated.{evaluation_of, ◌>>=◌}
use Rattle.source_tree.specs.declared.condition.Relation.{Relation}
use Rattle.data_machine.proofs.KnownIntegers.{compared_is}

-- what an order that is known says of a relation
order_satisfies : (relation : Relation) (found : Option Ordering)
    → IfSome (option_map (satisfies relation) found)
    (λ satisfied. (evaluation_of found >>= (λ ordering. Ok (satisfies relation ordering))) ≡ Ok satisfied)
order_satisfies relation None = tt
order_satisfies relation (Some ordering) = refl

module _ (one other : Taken) (ones others : List ℕ) (first second : Item) (left right : Numeric)
    (one_is : one ≡ t.Item first) (other_is : other ≡ t.Item second) (numeric : first.kind ≡ k.Numeric left)
    (other_numeric : second.kind ≡ k.Numeric right) where
  -- Two numeric items are compared by their numbers.
  by_numbers : comparison_of one ones other others ≡ both order (value_of left ones) (value_of right others)
  by_numbers =
      let is_first : is_number_operand one ≡ true = ap is_number_operand one_is ∙ ap is_number_kind numeric in
      let is_second : is_number_operand other ≡ true =
      ap is_number_operand other_is ∙ ap is_number_kind other_numeric in
      compared_is one ones other others is_first is_second
      ∙ ap (λ (a : Taken). both order (operand_number a ones) (operand_number other others)) one_is
      ∙ ap (λ (c : Kind). both order (number_in c ones) (operand_number other others)) numeric
      ∙ ap (λ (b : Taken). both order (value_of left ones) (operand_number b others)) other_is
      ∙ ap (λ (c : Kind). both order (value_of left ones) (number_in c others)) other_numeric

  pub numbers_tell : (relation : Relation) (told : Option Bool)
      → told ≡ option_map (satisfies relation) (both order (value_of left ones) (value_of right others))
      → IfSome told (λ satisfied. senders_satisfy relation (record { taken = one; bytes = ones })
      (record { taken = other; bytes = others }) ≡ Ok satisfied)
  numbers_tell relation told tells =
      let found : Option Ordering = comparison_of one ones other others in
      subst (λ (answer : Option Bool). IfSome answer
      (λ satisfied. (evaluation_of found >>= (λ ordering. Ok (satisfies relation ordering))) ≡ Ok satisfied))
      (ap (option_map (satisfies relation)) by_numbers ∙ sym tells) (order_satisfies relation found)
