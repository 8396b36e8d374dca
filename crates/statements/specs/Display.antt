-- DISPLAY: its rule, and how it is read.
use Rattle.std.specs.Prelude.{Bool, List}
use Rattle.tokens.specs.declared.reserved.Reserved.TheVariants as w
use Rattle.source_tree.specs.declared.expression.Operand.{Operand}
use Rattle.source_tree.specs.declared.text_statement.TextStatement.TheVariants as text
use Rattle.source_tree.specs.declared.statement.Verb.{Verb}
use Rattle.source_tree.specs.declared.statement.Verb.TheVariants as verb
use Rattle.source_tree.specs.declared.statement.Statement.{Statement}
use Rattle.grammar.specs.Parts as g
use Rattle.grammar.specs.Parts.{Part, ◌then◌, optional, left_out, lookahead, word}
use Rattle.grammar.specs.Reading as r
use Rattle.grammar.specs.Reading.{Parser, ◌>>=◌, ◌>>◌, pure, Words, after_word, past_word, also_after, expect}
use Rattle.expressions.specs.Operands.{operand, begins_operand, operand_reader}

-- [WITH] NO ADVANCING
abbrev pub no_advancing : Part
no_advancing = optional (word w.With) then word w.No then word w.Advancing

-- DISPLAY x... [[WITH] NO ADVANCING] (COBOL-85, Nucleus, "The DISPLAY statement")
abbrev pub display : List Operand → Bool → Part
display operands advancing = word w.Display then g.several operand (lookahead begins_operand) operands then left_out no_advancing advancing

unfoldable pub after_no_advancing : Words
after_no_advancing i = also_after w.Advancing (after_word w.No (past_word w.With i))

unfoldable pub display_reader : Parser (Verb Statement)
display_reader = do
  expect w.Display
  shown ← r.several operand_reader begins_operand
  advancing ← r.left_out after_no_advancing
  pure (verb.TextStatement (text.Display shown advancing))
