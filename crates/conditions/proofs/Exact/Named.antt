-- Where a condition name stands alone, also in parentheses, a value stands: the reference.
use Rattle.std.proofs.Common.{◌≡◌, ℕ, zero, suc, false, List, [], ◌∷◌, inl, inr, refl, sym, ap, ◌∙◌, subst}
use Rattle.tokens.specs.declared.reserved.Reserved.{Reserved}
use Rattle.tokens.specs.declared.reserved.Reserved.TheVariants as w
use Rattle.tokens.specs.declared.token.Token.{Token}
use Rattle.source_tree.specs.declared.reference.Reference.{Reference}
use Rattle.source_tree.specs.declared.expression.Operand.TheVariants as operand_as
use Rattle.source_tree.specs.declared.expression.Expression.{Expression}
use Rattle.source_tree.specs.declared.expression.Expression.TheVariants as expression_as
use Rattle.source_tree.specs.declared.condition.Condition.{Condition}
use Rattle.source_tree.specs.declared.condition.Condition.TheVariants as c
use Rattle.grammar.specs.Parts.{Part, word}
use Rattle.grammar.specs.Reading.{begins_word}
use Rattle.grammar.proofs.Looking.{tests_tested, true_not_false, word_begins}
use Rattle.expressions.specs.References.{reference}
use Rattle.expressions.specs.Expressions as arithmetic
use Rattle.expressions.specs.Looking.{begins_operator}
use Rattle.conditions.specs.Tests.{begins_test}
use Rattle.conditions.specs.Conditions as g
use Rattle.conditions.specs.Conditions.{goes_on}
use Rattle.conditions.specs.Evaluate as e
use Rattle.conditions.specs.Evaluate.{in_condition}
use Rattle.conditions.specs.Laws.{item_value, NamesAreValues, NoNames}
use Rattle.conditions.proofs.Exact.Sides.{side_no_word, not_opens_none}
use Rattle.conditions.proofs.Exact.Depths.{both_not, factor_alone}

-- One condition, with no AND, or no OR, after it.
module _ (between : Reserved) (node : List Condition → Condition) (lower : Condition → Part) (x : Condition)
    (other : (all : List Condition) → x ≡ node all → ⊥) where
  single : (i rest : List Token) → g.level between node lower x i rest
      → lower x i rest × (begins_word between rest ≡ false)
  single i rest (first, [], is, (j, s, (same, nowhere))) = (
    subst (λ y. lower y i rest) (sym is) (subst (λ k. lower first i k) same s),
    sym (ap (begins_word between) same) ∙ (tests_tested (begins_word between)).refuses j nowhere,
  )
  single i rest (first, second ∷ more, is, s) = absurd (other (first ∷ second ∷ more) is)

module _ (one : Reference) where
  item : Expression
  item = expression_as.Operand (operand_as.Item one)

  not_all : (x : Condition) → x ≡ c.Name one → (all : List Condition) → x ≡ c.All all → ⊥
  not_all x is all other = cc

  not_any : (x : Condition) → x ≡ c.Name one → (all : List Condition) → x ≡ c.Any all → ⊥
  not_any x is all other = cc

  item_factor : (depth : ℕ) (i rest : List Token) → reference one i rest → arithmetic.factor depth item i rest
  unfolding item
  item_factor zero i rest s = (operand_as.Item one, refl, s)
  item_factor (suc depth) i rest s = inl (operand_as.Item one, refl, s)

  plain_named : (depth : ℕ) (x : Condition) → x ≡ c.Name one → (i rest : List Token) → g.simple_condition depth x i rest
      → reference one i rest × (goes_on rest ≡ false)
  plain_named depth x is i rest (inl (other, is', (j, s, (same, nowhere)))) = (
    subst (λ k. reference one i k) same (subst (λ y. reference y i j) (same_name is is') s),
    sym (ap goes_on same) ∙ (tests_tested goes_on).refuses j nowhere,
  )
    where
      same_name : {a b : Reference} → x ≡ c.Name a → x ≡ c.Name b → b ≡ a
      same_name e f = cc
  plain_named depth x is i rest (inr (inl (item, negated, class, is', s))) = cc
  plain_named depth x is i rest (inr (inr (inl (first, relation, second, is', s)))) = cc
  plain_named depth x is i rest (inr (inr (inr (v, negated, sign, is', s)))) = cc

  no_operator : (i : List Token) → goes_on i ≡ false → begins_operator i ≡ false
  no_operator i e = (both_not (begins_operator i) (begins_test i) e).0

  simple_named : (depth : ℕ) (x : Condition) → x ≡ c.Name one → (i rest : List Token) → g.simple depth x i rest
      → arithmetic.factor depth item i rest × (goes_on rest ≡ false)
  simple_named zero x is i rest s = let p = plain_named zero x is i rest s in (item_factor zero i rest p.0, p.1)
  simple_named (suc depth) x is i rest (inl s) = let p =
      plain_named (suc depth) x is i rest s in (item_factor (suc depth) i rest p.0, p.1)
  simple_named (suc depth) x is i rest (inr (inl (inner, is', s))) = cc
  simple_named (suc depth) x is i rest (inr (inr (i3, (i1, opens, (i2, s, closes)), (same, nowhere)))) =
      let ors = single w.Or c.Any (g.conjunction (g.simple depth)) x (not_any x is) i1 i2 s in
      let ands = single w.And c.All (g.simple depth) x (not_all x is) i1 i2 ors.0 in
      let inner = simple_named depth x is i1 i2 ands.0 in (
        subst (λ k. arithmetic.factor (suc depth) item i k) same
            (inr (inr (i1, opens, (i2, factor_alone depth item i1 i2 inner.0 (no_operator i2 inner.1), closes)))),
        sym (ap goes_on same) ∙ (tests_tested goes_on).refuses i3 nowhere,
      )

  pub name_alone : (depth : ℕ) (i rest : List Token) → g.condition depth (c.Name one) i rest
      → e.alone depth (item_value one) i rest
  unfolding item
  name_alone depth i rest s =
      let ors = single w.Or c.Any (g.conjunction (g.simple depth)) (c.Name one) (not_any (c.Name one) refl) i rest s in
      let ands = single w.And c.All (g.simple depth) (c.Name one) (not_all (c.Name one) refl) i rest ors.0 in
      let named = simple_named depth (c.Name one) refl i rest ands.0 in (
        rest,
        factor_alone depth item i rest named.0 (no_operator rest named.1),
        (refl, (tests_tested in_condition).fails rest (rw (named.1, ands.1, ors.1) refl)),
      )

pub names_are_values : NamesAreValues
names_are_values depth one from rest s = name_alone one depth from rest s

pub no_names : NoNames
no_names depth one from rest (s, nowhere) = let value = name_alone one depth from rest s in
    nowhere rest (false, (from, (refl, no_not value), (depth, (item_value one, value))))
  where
    no_not : e.alone depth (item_value one) from rest → (behind : List Token) → word w.Not from behind → ⊥
    no_not (j, t, stops) behind first =
        true_not_false (begins_word w.Not from) (side_no_word w.Not not_opens_none depth (item_value one) from j t)
        (word_begins w.Not from behind first)
