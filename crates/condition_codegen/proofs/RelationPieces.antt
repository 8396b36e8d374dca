-- What a relation of two operands alone is in code.
use Rattle.std.proofs.Common.{◌≡◌, ◌⊎◌, Bool, true, false, not, ◌&&◌, List, Option, Some, inl, inr, sym, ap, ◌∙◌}
use Rattle.std.specs.Prelude.{Result, OnOk}
use Rattle.source_tree.specs.declared.expression.Operand.{Operand}
use Rattle.source_tree.specs.declared.expression.Operand.TheVariants as operand
use Rattle.source_tree.specs.declared.condition.Relation.{Relation}
use Rattle.source_tree.specs.declared.condition.Relation.TheVariants.{Equal}
use Rattle.source_tree.specs.declared.condition.Side.{Side}
use Rattle.source_tree.specs.Conditions.{alone_side}
use Rattle.source_tree.specs.Places.{LocatedItem}
use Rattle.code_image.specs.declared.code.Code.{Code}
use Rattle.condition_codegen.specs.Fragments.{Fragment, append, sequence}
use Rattle.condition_codegen.specs.ConditionCode.{zero_literal, pair_fragment, is_numeric_operand, is_operand_at_hand}
use Rattle.condition_codegen.specs.ConditionCode.{taken_first, relation_from, relation_fragment}
use Rattle.condition_codegen.proofs.Sequences.{is_so, ends_so}

module _ (items : List LocatedItem) (left right : Side) (by : Relation) where
  alone_sides : (a b : Operand) → alone_side left ≡ Some a → alone_side right ≡ Some b
      → relation_fragment items left by right
      ≡ taken_first items (is_numeric_operand items a && not (is_operand_at_hand items b)) (is_numeric_operand items b)
      a b left by right
  alone_sides a b is other =
      ap (λ (o : Option Operand). relation_from items o (alone_side right) left by right) is
      ∙ ap (λ (o : Option Operand). relation_from items (Some a) o left by right) other

  pair_only : (a b : Operand) → alone_side left ≡ Some a → alone_side right ≡ Some b
      → (is_numeric_operand items a && not (is_operand_at_hand items b)) ≡ false
      → pair_fragment items a by b ≡ relation_fragment items left by right
  pair_only a b is other e =
      sym (alone_sides a b is other
      ∙ ap (λ (first : Bool). taken_first items first (is_numeric_operand items b) a b left by right) e)

  -- the left one is taken first, by a comparison with ZERO
  pair_looked : (a b : Operand) → alone_side left ≡ Some a → alone_side right ≡ Some b
      → (is_numeric_operand items a && not (is_operand_at_hand items b)) ≡ true → is_numeric_operand items b ≡ false
      → sequence (pair_fragment items a Equal (operand.Literal zero_literal)) (pair_fragment items a by b)
      ≡ relation_fragment items left by right
  pair_looked a b is other e text =
      sym (alone_sides a b is other
      ∙ ap (λ (first : Bool). taken_first items first (is_numeric_operand items b) a b left by right) e
      ∙ ap (λ (numeric : Bool). taken_first items true numeric a b left by right) text)

  -- The code of a pair is that of the relation, whether the left operand was taken first or nothing was added before.
  pub pair_compared : {T E : Type 0} (result : Result T E) (a b : Operand) (old now new : Code) (first : Bool)
      → alone_side left ≡ Some a → alone_side right ≡ Some b
      → first ≡ (is_numeric_operand items a && not (is_operand_at_hand items b))
      → OnOk result (new ≡ append now (pair_fragment items a by b now))
      → ((first ≡ true) × (is_numeric_operand items b ≡ false)
      × (now ≡ append old (pair_fragment items a Equal (operand.Literal zero_literal) old)))
      ⊎ ((first ≡ false) × (now ≡ old))
      → OnOk result (new ≡ append old (relation_fragment items left by right old))
  pair_compared result a b old now new first is other takes made (inl taken) =
      let look = pair_fragment items a Equal (operand.Literal zero_literal) in
      let pair = pair_fragment items a by b in
      let whole = relation_fragment items left by right in
      is_so result new (append old (sequence look pair old)) (append old (whole old))
      (ends_so result look pair old now new taken.2 made)
      (ap (λ (p : Fragment). append old (p old)) (pair_looked a b is other (sym takes ∙ taken.0) taken.1))
  pair_compared result a b old now new first is other takes made (inr same) =
      let pair = pair_fragment items a by b in
      let whole = relation_fragment items left by right in
      is_so result new (append now (pair now)) (append old (whole old)) made
      (ap (λ (code : Code). append code (pair code)) same.1
      ∙ ap (λ (p : Fragment). append old (p old)) (pair_only a b is other (sym takes ∙ same.0)))
