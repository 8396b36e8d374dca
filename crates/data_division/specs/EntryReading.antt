-- Reading entries, as functions on lists of tokens.
use Rattle.std.specs.Prelude.{◌||◌, if◌then◌else◌, Bool, List, Option, None, Some, Ok}
use Rattle.tokens.specs.declared.reserved.Reserved.TheVariants as w
use Rattle.tokens.specs.declared.token.Token.{Token}
use Rattle.source_tree.specs.declared.name.Name.{Name}
use Rattle.source_tree.specs.declared.literal.Integer.{Integer}
use Rattle.source_tree.specs.declared.literal.Literal.{Literal}
use Rattle.source_tree.specs.declared.entry.ValueRange.{ValueRange}
use Rattle.source_tree.specs.declared.entry.Entry.{Entry}
use Rattle.source_tree.specs.declared.entry.Entry.TheVariants as entry_as
use Rattle.grammar.specs.Parts.{begins_name}
use Rattle.grammar.specs.Reading.{Parser, ◌>>=◌, ◌>>◌, pure, begins_word, skip, period, name, several}
use Rattle.expressions.specs.Subscripts.{integer_reader}
use Rattle.expressions.specs.Literals.{begins_literal, literal_reader}
use Rattle.data_division.specs.ClauseReading.{either_reader, skip_either}
use Rattle.data_division.specs.Stated.{stated_reader}
use Rattle.data_division.specs.Entries.{is_condition, item_of}

unfoldable pub given_reader : Parser (Option Name)
given_reader = do
  given ← name
  pure (Some given)

unfoldable pub filler_reader : Parser (Option Name)
filler_reader = do
  skip w.Filler
  pure None

unfoldable pub named_reader : Parser (Option Name)
named_reader i = if begins_name i then given_reader i else filler_reader i

-- what comes after the level of an item
unfoldable pub item_reader : Integer → Parser Entry
item_reader level = do
  given ← named_reader
  clauses ← stated_reader
  period
  pure (entry_as.Item (item_of level given clauses))

abbrev pub begins_through : List Token → Bool
begins_through i = begins_word w.Thru i || begins_word w.Through i

unfoldable pub through_literal_reader : Parser (Option Literal)
through_literal_reader = do
  either_reader w.Thru w.Through
  one ← literal_reader
  pure (Some one)

unfoldable pub last_value_reader : Parser (Option Literal)
last_value_reader i = if begins_through i then through_literal_reader i else Ok (None, i)

unfoldable pub range_reader : Parser ValueRange
range_reader = do
  first ← literal_reader
  last ← last_value_reader
  pure (record { first = first; last = last })

-- what comes after level 88
unfoldable pub condition_reader : Parser Entry
condition_reader = do
  given ← name
  either_reader w.Value w.Values
  skip_either w.Is w.Are
  values ← several range_reader begins_literal
  period
  pure (entry_as.Condition (record { name = given; values = values }))

unfoldable pub by_level : Integer → Parser Entry
by_level level i = if is_condition level then condition_reader i else item_reader level i

unfoldable pub entry_reader : Parser Entry
entry_reader = do
  level ← integer_reader
  by_level level
