-- Arithmetic expressions (COBOL-85, Nucleus, "Arithmetic expressions"): their rules, and how they are read. Multiplication
-- and division bind closer than addition and subtraction, signs closer still; operators of one precedence associate from the
-- left.
use Rattle.std.specs.Prelude.{◌≡◌, ◌||◌, ℕ, zero, suc, if◌then◌else◌, Bool, List, [], ◌∷◌, Option, length, Err}
use Rattle.tokens.specs.declared.token.Token.{Token}
use Rattle.source_tree.specs.declared.expression.Operand.{Operand}
use Rattle.source_tree.specs.declared.expression.Operator.{Operator}
use Rattle.source_tree.specs.declared.expression.Expression.{Expression}
use Rattle.source_tree.specs.declared.expression.Expression.TheVariants as e
use Rattle.grammar.specs.declared.fault.Halt.TheVariants.{TooDeep}
use Rattle.grammar.specs.Parts as g
use Rattle.grammar.specs.Parts.{Part, ◌then◌, ◌or◌, lookahead, token_with, begins_telling}
use Rattle.grammar.specs.Reading as r
use Rattle.grammar.specs.Reading.{Parser, ◌>>=◌, ◌>>◌, pure, one_token}
use Rattle.expressions.specs.declared.marks.PlusOrMinus.{PlusOrMinus}
use Rattle.expressions.specs.declared.marks.PlusOrMinus.TheVariants.{Plus, Minus}
use Rattle.expressions.specs.Marks.{left_parenthesis, right_parenthesis, left_in, right_in, begins_left, sign_in, begins_sign, sum_in, product_in}
use Rattle.expressions.specs.Operands.{number_operand, number_operand_reader}

-- ---- levels

-- without an operator the first operand is all
abbrev pub operator_chain : Expression → List (Operator × Expression) → Expression
operator_chain first [] = first
operator_chain first (one ∷ more) = e.Chain first (one ∷ more)

-- an operator and the operand after it
abbrev pub further_operand : (Token → Option Operator) → (Expression → Part) → Operator × Expression → Part
further_operand tells lower one = token_with tells one.0 then lower one.1

-- operands with operators of one precedence between, up to where none of these follows
abbrev pub level : (Token → Option Operator) → (Expression → Part) → Expression → Part
level tells lower whole = λ from rest. (first : Expression) × (more : List (Operator × Expression)) × (whole ≡ operator_chain first more)
    × (lower first then g.any (further_operand tells lower) (lookahead (begins_telling tells)) more) from rest

abbrev pub product : (Expression → Part) → Expression → Part
product factor = level product_in factor

abbrev pub sum : (Expression → Part) → Expression → Part
sum factor = level sum_in (product factor)

-- ---- factors

abbrev pub primary : Expression → Part
primary whole = λ from rest. (one : Operand) × (whole ≡ e.Operand one) × number_operand one from rest

-- a unary plus leaves no node
abbrev pub signed_by : PlusOrMinus → Expression → Expression
signed_by Plus inner = inner
signed_by Minus inner = e.Negated inner

-- {+|-} e
abbrev pub signed_expression : (Expression → Part) → Expression → Part
signed_expression factor whole = λ from rest. (sign : PlusOrMinus) × (inner : Expression) × (whole ≡ signed_by sign inner) × (token_with sign_in sign then factor inner) from rest

-- ( e )
abbrev pub parenthesized_expression : (Expression → Part) → Expression → Part
parenthesized_expression factor whole = left_parenthesis then sum factor whole then right_parenthesis

-- A factor with at most this many signs and parentheses in one another.
abbrev pub factor : ℕ → Expression → Part
factor zero whole = primary whole
factor (suc depth) whole = primary whole or (signed_expression (factor depth) whole or parenthesized_expression (factor depth) whole)

abbrev pub expression : ℕ → Expression → Part
expression depth = sum (factor depth)

-- ---- reading

abbrev pub begins_nested : List Token → Bool
begins_nested i = begins_left i || begins_sign i

unfoldable pub further_operand_reader : (Token → Option Operator) → Parser Expression → Parser (Operator × Expression)
further_operand_reader tells lower = do
  by ← one_token tells
  one ← lower
  pure (by, one)

unfoldable pub level_reader : (Token → Option Operator) → Parser Expression → Parser Expression
level_reader tells lower = do
  first ← lower
  more ← r.any (further_operand_reader tells lower) (begins_telling tells)
  pure (operator_chain first more)

unfoldable pub product_reader : Parser Expression → Parser Expression
product_reader factor = level_reader product_in factor

unfoldable pub sum_reader : Parser Expression → Parser Expression
sum_reader factor = level_reader sum_in (product_reader factor)

unfoldable pub plain_reader : Parser Expression
plain_reader = do
  one ← number_operand_reader
  pure (e.Operand one)

unfoldable pub signed_reader : Parser Expression → Parser Expression
signed_reader factor = do
  sign ← one_token sign_in
  inner ← factor
  pure (signed_by sign inner)

unfoldable pub enclosed_reader : Parser Expression → Parser Expression
enclosed_reader factor = do
  one_token left_in
  inner ← sum_reader factor
  one_token right_in
  pure inner

unfoldable pub nested_reader : Parser Expression → Parser Expression
nested_reader factor i = if begins_left i then enclosed_reader factor i else signed_reader factor i

unfoldable pub factor_reader : ℕ → Parser Expression
factor_reader zero i = if begins_nested i then Err (TooDeep (length i)) else plain_reader i
factor_reader (suc depth) i = if begins_nested i then nested_reader (factor_reader depth) i else plain_reader i

unfoldable pub expression_reader : ℕ → Parser Expression
expression_reader depth = sum_reader (factor_reader depth)
