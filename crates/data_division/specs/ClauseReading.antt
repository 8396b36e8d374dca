-- Reading clauses, as functions on lists of tokens.
use Rattle.std.specs.Prelude.{if◌then◌else◌}
use Rattle.std.specs.Option.{option_map}
use Rattle.tokens.specs.declared.reserved.Reserved.{Reserved}
use Rattle.tokens.specs.declared.reserved.Reserved.TheVariants as w
use Rattle.grammar.specs.Reading.{Parser, Words, ◌>>=◌, ◌>>◌, pure, begins_word, after_word, past_word, expect, skip, presence_reader, one_token, name}
use Rattle.grammar.specs.OptionalWords.{skip_led}
use Rattle.expressions.specs.Subscripts.{integer_reader}
use Rattle.expressions.specs.Literals.{literal_reader}
use Rattle.data_division.specs.Words.{usage_in, position_in}
use Rattle.data_division.specs.Clauses.{picture_in}
use Rattle.data_division.specs.declared.clause.ClauseKind.{ClauseKind}
use Rattle.data_division.specs.declared.clause.ClauseKind.TheVariants as kind
use Rattle.data_division.specs.declared.clause.Clause.{Clause}
use Rattle.data_division.specs.declared.clause.Clause.TheVariants as clause_as

-- one of two words
unfoldable pub either_reader : Reserved → Reserved → Parser (Unit {0})
either_reader one other i = if begins_word one i then expect one i else expect other i

-- one of two words, or neither
unfoldable pub skip_either : Reserved → Reserved → Parser (Unit {0})
skip_either one other i = if begins_word one i then expect one i else skip other i

unfoldable pub after_separate : Words
after_separate i = option_map (past_word w.Character) (after_word w.Separate i)

unfoldable pub redefines_reader : Parser Clause
redefines_reader = do
  expect w.Redefines
  given ← name
  pure (clause_as.Redefines given)

unfoldable pub picture_reader : Parser Clause
picture_reader = do
  either_reader w.Pic w.Picture
  skip w.Is
  text ← one_token picture_in
  pure (clause_as.Picture text)

unfoldable pub usage_reader : Parser Clause
usage_reader = do
  skip_led w.Usage
  one ← one_token usage_in
  pure (clause_as.Usage one)

unfoldable pub sign_reader : Parser Clause
sign_reader = do
  skip_led w.Sign
  position ← one_token position_in
  separate ← presence_reader after_separate
  pure (clause_as.Sign (record { position = position; separate = separate }))

unfoldable pub occurs_reader : Parser Clause
occurs_reader = do
  expect w.Occurs
  count ← integer_reader
  skip w.Times
  pure (clause_as.Occurs count)

unfoldable pub synchronized_reader : Parser Clause
synchronized_reader = do
  either_reader w.Sync w.Synchronized
  skip_either w.Left w.Right
  pure clause_as.Synchronized

unfoldable pub justified_reader : Parser Clause
justified_reader = do
  either_reader w.Just w.Justified
  skip w.Right
  pure clause_as.Justified

unfoldable pub blank_when_zero_reader : Parser Clause
blank_when_zero_reader = do
  expect w.Blank
  skip w.When
  expect w.Zero
  pure clause_as.BlankWhenZero

unfoldable pub value_reader : Parser Clause
value_reader = do
  expect w.Value
  skip w.Is
  one ← literal_reader
  pure (clause_as.Value one)

-- the clause that its first word begins
unfoldable pub clause_reader : ClauseKind → Parser Clause
clause_reader kind.Redefines = redefines_reader
clause_reader kind.Picture = picture_reader
clause_reader kind.Usage = usage_reader
clause_reader kind.Sign = sign_reader
clause_reader kind.Occurs = occurs_reader
clause_reader kind.Synchronized = synchronized_reader
clause_reader kind.Justified = justified_reader
clause_reader kind.BlankWhenZero = blank_when_zero_reader
clause_reader kind.Value = value_reader
