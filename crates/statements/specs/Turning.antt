-- How often PERFORM performs: the rules of its phrases, and how they are read.
use Rattle.std.specs.Prelude.{◌≡◌, ◌||◌, ℕ, Bool, List, Option, None, Some, Ok, if◌then◌else◌}
use Rattle.tokens.specs.declared.reserved.Reserved.{Reserved}
use Rattle.tokens.specs.declared.reserved.Reserved.TheVariants as w
use Rattle.tokens.specs.declared.token.Kind.{Kind}
use Rattle.tokens.specs.declared.token.Kind.TheVariants as k
use Rattle.tokens.specs.declared.token.Token.{Token}
use Rattle.source_tree.specs.declared.perform_statement.Repetition.{Repetition}
use Rattle.source_tree.specs.declared.perform_statement.Repetition.TheVariants as turns_as
use Rattle.source_tree.specs.declared.reference.Reference.{Reference}
use Rattle.source_tree.specs.declared.until.TestTime.{TestTime}
use Rattle.source_tree.specs.declared.until.TestTime.TheVariants.{Before, After}
use Rattle.source_tree.specs.declared.until.Varying.{Varying}
use Rattle.source_tree.specs.declared.until.Until.{Until}
use Rattle.grammar.specs.Parts.{Part, ◌then◌, ◌or◌, optional, absence_of, lookahead, token_with, word, begins_name}
use Rattle.grammar.specs.Reading.{Parser, Words, ◌>>=◌, ◌>>◌, pure, after_word, past_word, begins_word, expect, one_token}
use Rattle.expressions.specs.References.{reference, reference_reader}
use Rattle.expressions.specs.Operands.{number_operand, number_operand_reader}
use Rattle.expressions.specs.Subscripts.{integer, begins_integer, integer_reader}
use Rattle.conditions.specs.Conditions.{condition, condition_reader}

-- ---- TEST

abbrev pub time_of : Reserved → Option TestTime
time_of w.Before = Some Before
time_of w.After = Some After
time_of _ = None

abbrev pub time_by : Kind → Option TestTime
time_by (k.Reserved one) = time_of one
time_by _ = None

-- BEFORE|AFTER
abbrev pub time_in : Token → Option TestTime
time_in one = time_by one.kind

-- [WITH] TEST
abbrev pub with_test : Part
with_test = optional (word w.With) then word w.Test

-- [[WITH] TEST {BEFORE|AFTER}]: where it is left out, the test comes before
abbrev pub test : TestTime → Part
test one = (with_test then token_with time_in one) or (λ from rest. (one ≡ Before) × absence_of with_test from rest)

-- ---- VARYING

-- VARYING d FROM num BY num
abbrev pub varying_phrase : Varying → Part
varying_phrase one = word w.Varying then reference one.item then word w.From then number_operand one.from then word w.By then number_operand one.by

abbrev pub optional_varying : Option Varying → Part
optional_varying None = absence_of (word w.Varying)
optional_varying (Some one) = varying_phrase one

-- ---- the phrase

-- [[WITH] TEST {BEFORE|AFTER}] [VARYING d FROM num BY num] UNTIL c
abbrev pub until : ℕ → Until → Part
until depth one = test one.test then optional_varying one.varying then word w.Until then condition depth one.condition

abbrev pub begins_until : List Token → Bool
begins_until i = begins_word w.With i || begins_word w.Test i || begins_word w.Varying i || begins_word w.Until i

abbrev pub begins_turns : List Token → Bool
begins_turns i = begins_integer i || begins_name i || begins_until i

-- {d|int} TIMES, or UNTIL: the phrase is left out only where none begins (COBOL-85, Nucleus, "The PERFORM statement"). No statement
-- begins with a name, so a name where the phrase may stand is of a count.
abbrev pub turns : ℕ → Repetition → Part
turns depth turns_as.Once = absence_of (lookahead begins_turns)
turns depth (turns_as.Times count) = integer count then word w.Times
turns depth (turns_as.CountedBy one) = reference one then word w.Times
turns depth (turns_as.Until one) = until depth one

-- ---- reading

unfoldable pub after_with_test : Words
after_with_test i = after_word w.Test (past_word w.With i)

-- by the tokens after TEST
abbrev pub time_at : Option (List Token) → Parser TestTime
time_at None i = Ok (Before, i)
time_at (Some after) i = one_token time_in after

unfoldable pub test_reader : Parser TestTime
test_reader i = time_at (after_with_test i) i

unfoldable pub varied_reader : Parser Varying
varied_reader = do
  expect w.Varying
  item ← reference_reader
  expect w.From
  from ← number_operand_reader
  expect w.By
  by ← number_operand_reader
  pure (record { item = item; from = from; by = by })

-- after FROM
abbrev pub varied_from : Reference → Parser Varying
varied_from item = do
  from ← number_operand_reader
  expect w.By
  by ← number_operand_reader
  pure (record { item = item; from = from; by = by })

unfoldable pub some_varied_reader : Parser (Option Varying)
some_varied_reader = do
  one ← varied_reader
  pure (Some one)

unfoldable pub varying_reader : Parser (Option Varying)
varying_reader i = if begins_word w.Varying i then some_varied_reader i else Ok (None, i)

unfoldable pub until_reader : ℕ → Parser Repetition
until_reader depth = do
  when ← test_reader
  what ← varying_reader
  expect w.Until
  asked ← condition_reader depth
  pure (turns_as.Until (record { test = when; varying = what; condition = asked }))

unfoldable pub times_reader : Parser Repetition
times_reader = do
  count ← integer_reader
  expect w.Times
  pure (turns_as.Times count)

unfoldable pub counted_reader : Parser Repetition
counted_reader = do
  one ← reference_reader
  expect w.Times
  pure (turns_as.CountedBy one)

unfoldable pub turns_reader : ℕ → Parser Repetition
turns_reader depth i =
    if begins_integer i then times_reader i else if begins_name i then counted_reader i else if begins_until i then until_reader depth i else Ok (turns_as.Once, i)
