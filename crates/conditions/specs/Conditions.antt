-- Conditions (COBOL-85, Nucleus, "Conditional expressions"): their rules, and how they are read. NOT binds closer than AND,
-- and AND closer than OR. A parenthesis opens an operand where an operator or a test follows the one that closes it, and a
-- condition otherwise.
use Rattle.std.specs.Prelude.{◌≡◌, ◌||◌, ◌&&◌, not, ℕ, zero, suc, if◌then◌else◌, Bool, true, false, List, [], ◌∷◌, Option, None, Some, length, Err}
use Rattle.tokens.specs.declared.reserved.Reserved.{Reserved}
use Rattle.tokens.specs.declared.reserved.Reserved.TheVariants as w
use Rattle.tokens.specs.declared.token.Token.{Token}
use Rattle.source_tree.specs.declared.literal.LiteralValue.{LiteralValue}
use Rattle.source_tree.specs.declared.literal.LiteralValue.TheVariants as value
use Rattle.source_tree.specs.declared.reference.Reference.{Reference}
use Rattle.source_tree.specs.declared.expression.Expression.{Expression}
use Rattle.source_tree.specs.declared.condition.Relation.{Relation}
use Rattle.source_tree.specs.declared.condition.Relation.TheVariants as relation
use Rattle.source_tree.specs.declared.condition.RelationalOperator.{RelationalOperator}
use Rattle.source_tree.specs.declared.condition.SignTest.{SignTest}
use Rattle.source_tree.specs.declared.condition.Class.{Class}
use Rattle.source_tree.specs.declared.condition.Side.{Side}
use Rattle.source_tree.specs.declared.condition.Side.TheVariants as side_as
use Rattle.source_tree.specs.declared.condition.Condition.{Condition}
use Rattle.source_tree.specs.declared.condition.Condition.TheVariants as c
use Rattle.grammar.specs.declared.fault.Halt.TheVariants.{TooDeep}
use Rattle.grammar.specs.Parts as g
use Rattle.grammar.specs.Parts.{Part, ◌then◌, ◌or◌, absence_of, lookahead, word, begins_name}
use Rattle.grammar.specs.Reading as r
use Rattle.grammar.specs.Reading.{Parser, ◌>>=◌, ◌>>◌, pure, refuse, expect, one_token, begins_word}
use Rattle.expressions.specs.Marks.{left_parenthesis, right_parenthesis, left_in, right_in, begins_left}
use Rattle.expressions.specs.References.{reference, reference_reader}
use Rattle.expressions.specs.Literals.{literal, literal_reader, zero_in}
use Rattle.expressions.specs.Expressions.{expression, expression_reader}
use Rattle.expressions.specs.Looking.{past_reference, past_parentheses, begins_expression, begins_operator}
use Rattle.conditions.specs.declared.asked.Asked.{Asked}
use Rattle.conditions.specs.declared.asked.Asked.TheVariants as asked_as
use Rattle.conditions.specs.Tests.{test_phrase, asked_reader, begins_test, begins_class}

-- ---- what shows that an operand goes on

-- an arithmetic operator, or what a condition asks of it
abbrev pub goes_on : List Token → Bool
goes_on i = begins_operator i || begins_test i

-- ---- sides of a relation

-- a literal that is no number
abbrev pub is_text_literal : LiteralValue → Bool
is_text_literal (value.Numeric number) = false
is_text_literal (value.Nonnumeric bytes) = true
is_text_literal (value.Figurative constant) = not (zero_in (Some constant))
is_text_literal (value.All bytes) = true

-- e|lit, where a number is an expression
abbrev pub side : ℕ → Side → Part
side depth (side_as.Expression one) = expression depth one
side depth (side_as.Literal one) = λ from rest. (is_text_literal one.value ≡ true) × literal one from rest

-- ---- conditions without NOT, AND, OR and parentheses around them

-- d, where it does not go on as an operand
abbrev pub condition_name : Condition → Part
condition_name whole = λ from rest. (one : Reference) × (whole ≡ c.Name one) × (reference one then absence_of (lookahead goes_on)) from rest

abbrev pub opposite : Relation → Relation
opposite relation.Less = relation.GreaterOrEqual
opposite relation.LessOrEqual = relation.Greater
opposite relation.Equal = relation.NotEqual
opposite relation.NotEqual = relation.Equal
opposite relation.GreaterOrEqual = relation.Less
opposite relation.Greater = relation.LessOrEqual

abbrev pub with_negation : Bool → Relation → Relation
with_negation false one = one
with_negation true one = opposite one

-- NOT gives the opposite relation.
abbrev pub relation_of : RelationalOperator → Relation
relation_of one = with_negation one.negated one.relation

-- o [IS] [NOT] rel o
abbrev pub relation_condition : ℕ → Condition → Part
relation_condition depth whole = λ from rest. (first : Side) × (one : RelationalOperator) × (second : Side) × (whole ≡ c.Relation first (relation_of one) second)
    × (side depth first then test_phrase (asked_as.Relation one) then side depth second) from rest

-- e [IS] [NOT] {POSITIVE|NEGATIVE|ZERO}
abbrev pub with_sign : ℕ → Condition → Part
with_sign depth whole = λ from rest. (value : Expression) × (negated : Bool) × (one : SignTest) × (whole ≡ c.Sign value negated one)
    × (expression depth value then test_phrase (asked_as.Sign negated one)) from rest

-- d [IS] [NOT] {NUMERIC|ALPHABETIC|ALPHABETIC-LOWER|ALPHABETIC-UPPER}
abbrev pub of_class : Condition → Part
of_class whole = λ from rest. (item : Reference) × (negated : Bool) × (one : Class) × (whole ≡ c.Class item negated one)
    × (reference item then test_phrase (asked_as.Class negated one)) from rest

abbrev pub simple_condition : ℕ → Condition → Part
simple_condition depth whole = condition_name whole or (of_class whole or (relation_condition depth whole or with_sign depth whole))

-- ---- levels

-- without AND, or OR, the first is all
abbrev pub combined_condition : (List Condition → Condition) → Condition → List Condition → Condition
combined_condition node first [] = first
combined_condition node first (one ∷ more) = node (first ∷ one ∷ more)

abbrev pub further_condition : Reserved → (Condition → Part) → Condition → Part
further_condition between lower one = word between then lower one

-- conditions with one word between, up to where it does not follow
abbrev pub level : Reserved → (List Condition → Condition) → (Condition → Part) → Condition → Part
level between node lower whole = λ from rest. (first : Condition) × (more : List Condition) × (whole ≡ combined_condition node first more)
    × (lower first then g.any (further_condition between lower) (lookahead (begins_word between)) more) from rest

abbrev pub conjunction : (Condition → Part) → Condition → Part
conjunction simple = level w.And c.All simple

abbrev pub disjunction : (Condition → Part) → Condition → Part
disjunction simple = level w.Or c.Any (conjunction simple)

-- ---- NOT and parentheses

-- NOT c
abbrev pub negation : (Condition → Part) → Condition → Part
negation simple whole = λ from rest. (inner : Condition) × (whole ≡ c.Not inner) × (word w.Not then simple inner) from rest

-- ( c ), where it does not go on as an operand
abbrev pub parenthesized_condition : (Condition → Part) → Condition → Part
parenthesized_condition simple whole = (left_parenthesis then disjunction simple whole then right_parenthesis) then absence_of (lookahead goes_on)

-- A condition without AND and OR outside parentheses, with at most this many NOTs, parentheses and signs in one another.
abbrev pub simple : ℕ → Condition → Part
simple zero whole = simple_condition zero whole
simple (suc depth) whole = simple_condition (suc depth) whole or (negation (simple depth) whole or parenthesized_condition (simple depth) whole)

abbrev pub condition : ℕ → Condition → Part
condition depth = disjunction (simple depth)

-- ---- reading sides

unfoldable pub expression_side_reader : ℕ → Parser Side
expression_side_reader depth = do
  one ← expression_reader depth
  pure (side_as.Expression one)

unfoldable pub literal_side_reader : Parser Side
literal_side_reader = do
  one ← literal_reader
  pure (side_as.Literal one)

unfoldable pub side_reader : ℕ → Parser Side
side_reader depth i = if begins_expression i then expression_side_reader depth i else literal_side_reader i

-- ---- reading plain conditions

unfoldable pub named_reader : Parser Condition
named_reader = do
  one ← reference_reader
  pure (c.Name one)

abbrev pub class_after : Reference → Asked → Parser Condition
class_after item (asked_as.Class negated one) = pure (c.Class item negated one)
class_after item _ = refuse

unfoldable pub class_reader : Parser Condition
class_reader = do
  item ← reference_reader
  one ← asked_reader
  class_after item one

unfoldable pub relation_reader : ℕ → Side → RelationalOperator → Parser Condition
relation_reader depth first one = do
  second ← side_reader depth
  pure (c.Relation first (relation_of one) second)

abbrev pub sign_after : Side → Bool → SignTest → Parser Condition
sign_after (side_as.Expression value) negated one = pure (c.Sign value negated one)
sign_after (side_as.Literal literal) negated one = refuse

abbrev pub compared_after : ℕ → Side → Asked → Parser Condition
compared_after depth first (asked_as.Relation one) = relation_reader depth first one
compared_after depth first (asked_as.Sign negated one) = sign_after first negated one
compared_after depth first (asked_as.Class negated one) = refuse

unfoldable pub compared_reader : ℕ → Parser Condition
compared_reader depth = do
  first ← side_reader depth
  one ← asked_reader
  compared_after depth first one

-- what follows a reference, or a parenthesis that closes
abbrev pub goes_on_after : Option (List Token) → Bool
goes_on_after None = false
goes_on_after (Some i) = goes_on i

abbrev pub class_follows : Option (List Token) → Bool
class_follows None = false
class_follows (Some i) = begins_class i

unfoldable pub by_reference_reader : ℕ → Parser Condition
by_reference_reader depth i =
    if class_follows (past_reference i) then class_reader i else if goes_on_after (past_reference i) then compared_reader depth i else named_reader i

unfoldable pub plain_reader : ℕ → Parser Condition
plain_reader depth i = if begins_name i then by_reference_reader depth i else compared_reader depth i

-- ---- reading levels

unfoldable pub further_condition_reader : Reserved → Parser Condition → Parser Condition
further_condition_reader between lower = expect between >> lower

unfoldable pub level_reader : Reserved → (List Condition → Condition) → Parser Condition → Parser Condition
level_reader between node lower = do
  first ← lower
  more ← r.any (further_condition_reader between lower) (begins_word between)
  pure (combined_condition node first more)

unfoldable pub conjunction_reader : Parser Condition → Parser Condition
conjunction_reader simple = level_reader w.And c.All simple

unfoldable pub disjunction_reader : Parser Condition → Parser Condition
disjunction_reader simple = level_reader w.Or c.Any (conjunction_reader simple)

-- ---- reading NOT and parentheses

abbrev pub begins_enclosed : List Token → Bool
begins_enclosed i = begins_left i && not (goes_on_after (past_parentheses i))

abbrev pub begins_nested : List Token → Bool
begins_nested i = begins_word w.Not i || begins_enclosed i

unfoldable pub negation_reader : Parser Condition → Parser Condition
negation_reader simple = do
  expect w.Not
  inner ← simple
  pure (c.Not inner)

unfoldable pub enclosed_reader : Parser Condition → Parser Condition
enclosed_reader simple = do
  one_token left_in
  inner ← disjunction_reader simple
  one_token right_in
  pure inner

unfoldable pub nested_reader : Parser Condition → Parser Condition
nested_reader simple i = if begins_word w.Not i then negation_reader simple i else enclosed_reader simple i

unfoldable pub simple_reader : ℕ → Parser Condition
simple_reader zero i = if begins_nested i then Err (TooDeep (length i)) else plain_reader zero i
simple_reader (suc depth) i = if begins_nested i then nested_reader (simple_reader depth) i else plain_reader (suc depth) i

unfoldable pub condition_reader : ℕ → Parser Condition
condition_reader depth = disjunction_reader (simple_reader depth)
