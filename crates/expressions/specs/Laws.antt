-- What the laws of references, literals, operands and expressions say.
use Rattle.std.specs.Prelude.{◌≡◌, ◌<◌, ◌⊎◌, ℕ, List, Some, Ok, Err}
use Rattle.tokens.specs.declared.token.Token.{Token}
use Rattle.source_tree.specs.declared.expression.Expression.{Expression}
use Rattle.grammar.specs.declared.fault.Halt.TheVariants.{TooDeep}
use Rattle.grammar.specs.Parts.{Part, ◌then◌}
use Rattle.grammar.specs.Reading.{Parser, Words}
use Rattle.expressions.specs.Marks.{left_parenthesis, right_parenthesis}
use Rattle.expressions.specs.Looking.{past_parentheses}
use Rattle.expressions.specs.Expressions.{expression, expression_reader}

-- what is read is spelled
abbrev pub IsSoundReader : {A : Type 0} → (A → Part) → Parser A → Type 0
IsSoundReader {A = A} p reader = (one : A) (from rest : List Token) → reader from ≡ Ok (one, rest) → p one from rest

-- what is spelled is read: so no tokens are spelled by two trees, and none end in two ways
abbrev pub Only : {A : Type 0} → (A → Part) → Parser A → Type 0
Only {A = A} p reader = (one : A) (from rest : List Token) → p one from rest → reader from ≡ Ok (one, rest)

-- what is spelled to whatever depth is read, but where it is deeper than the reader goes
abbrev pub OnlyToDepth : Type 0
OnlyToDepth = (depth depth' : ℕ) (one : Expression) (from rest : List Token) → expression depth' one from rest
    → (expression_reader depth from ≡ Ok (one, rest)) ⊎ ((depth < depth') × (left : ℕ) × (expression_reader depth from ≡ Err (TooDeep left)))

-- exactly the tokens of this part are passed
abbrev pub Passes : Part → Words → Type 0
Passes p words = (from rest : List Token) → (words from ≡ Some rest → p from rest) × (p from rest → words from ≡ Some rest)

-- the parenthesis that closes one around this part is found
abbrev pub Closes : {A : Type 0} → (A → Part) → Type 0
Closes {A = A} p = (one : A) (from rest : List Token) → (left_parenthesis then p one then right_parenthesis) from rest → past_parentheses from ≡ Some rest
