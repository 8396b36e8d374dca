-- COMPUTE: its rule, and how it is read.
use Rattle.std.specs.Prelude.{ℕ, List, Option, None, Some}
use Rattle.tokens.specs.declared.reserved.Reserved.{Reserved}
use Rattle.tokens.specs.declared.reserved.Reserved.TheVariants as w
use Rattle.tokens.specs.declared.token.Operator.{Operator as Written}
use Rattle.tokens.specs.declared.token.Operator.TheVariants as written
use Rattle.tokens.specs.declared.token.Kind.{Kind}
use Rattle.tokens.specs.declared.token.Kind.TheVariants as k
use Rattle.tokens.specs.declared.token.Token.{Token}
use Rattle.source_tree.specs.declared.expression.Expression.{Expression}
use Rattle.source_tree.specs.declared.arithmetic.Receiver.{Receiver}
use Rattle.source_tree.specs.declared.arithmetic.Operation.{Operation}
use Rattle.source_tree.specs.declared.arithmetic.Operation.TheVariants.{Compute}
use Rattle.grammar.specs.Parts.{Part, ◌then◌, token_with, word}
use Rattle.grammar.specs.Reading.{Parser, ◌>>=◌, ◌>>◌, pure, expect, one_token}
use Rattle.expressions.specs.Expressions.{expression, expression_reader}
use Rattle.statements.specs.Receivers.{receivers, receivers_reader}

abbrev pub equal_sign : Written → Option (Unit {0})
equal_sign written.Equal = Some tt
equal_sign _ = None

abbrev pub equal_word : Reserved → Option (Unit {0})
equal_word w.Equal = Some tt
equal_word _ = None

abbrev pub equal_by : Kind → Option (Unit {0})
equal_by (k.Operator one) = equal_sign one
equal_by (k.Reserved one) = equal_word one
equal_by _ = None

-- =|EQUAL
abbrev pub equal_in : Token → Option (Unit {0})
equal_in one = equal_by one.kind

-- COMPUTE rd... {=|EQUAL} e (COBOL-85, Nucleus, "The COMPUTE statement")
abbrev pub compute_statement : ℕ → List Receiver → Expression → Part
compute_statement depth all value = word w.Compute then receivers all then token_with equal_in tt then expression depth value

unfoldable pub compute_reader : ℕ → Parser Operation
compute_reader depth = do
  expect w.Compute
  all ← receivers_reader
  one_token equal_in
  value ← expression_reader depth
  pure (Compute all value)
