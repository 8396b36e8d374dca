-- Selection subjects and objects of EVALUATE (COBOL-85, Nucleus, "The EVALUATE statement"): their rules, and how they are read. A
-- reference alone may name an item or a condition; here it is a value, and the names of the program tell which (own choice).
use Rattle.std.specs.Prelude.{◌||◌, ℕ, if◌then◌else◌, Bool, true, false, List, Option, None, Some, Ok, Err}
use Rattle.tokens.specs.declared.reserved.Reserved.{Reserved}
use Rattle.tokens.specs.declared.reserved.Reserved.TheVariants as w
use Rattle.tokens.specs.declared.token.Token.{Token}
use Rattle.source_tree.specs.declared.condition.Side.{Side}
use Rattle.source_tree.specs.declared.evaluate_statement.Subject.{Subject}
use Rattle.source_tree.specs.declared.evaluate_statement.Subject.TheVariants as subject_as
use Rattle.source_tree.specs.declared.evaluate_statement.Choice.{Choice}
use Rattle.source_tree.specs.declared.evaluate_statement.Choice.TheVariants as choice_as
use Rattle.source_tree.specs.declared.evaluate_statement.Object.{Object}
use Rattle.grammar.specs.declared.fault.Halt.TheVariants.{Unexpected, TooDeep}
use Rattle.grammar.specs.Parts.{Part, ◌then◌, ◌or◌, ◌but◌, absence_of, optional_part, some_of, lookahead, word, here}
use Rattle.grammar.specs.Reading as r
use Rattle.grammar.specs.Reading.{Outcome, Parser, ◌>>=◌, ◌>>◌, pure, expect, begins_word, after_word}
use Rattle.conditions.specs.Conditions.{goes_on, side, side_reader, condition, condition_reader}

-- ---- values

-- What stands before is part of a condition: it goes on as an operand, or AND or OR follows.
abbrev pub in_condition : List Token → Bool
in_condition i = goes_on i || (begins_word w.And i || begins_word w.Or i)

-- o, where it is no part of a condition
abbrev pub alone : ℕ → Side → Part
alone depth one = side depth one then absence_of (lookahead in_condition)

-- such a value, to whatever depth
abbrev pub some_alone : Part
some_alone = some_of (λ depth. some_of (alone depth))

-- [NOT] and such a value
abbrev pub some_wanted : Part
some_wanted = some_of (λ negated. optional_part (word w.Not) negated then some_alone)

-- ---- subjects

-- TRUE|FALSE
abbrev pub truth_value : Bool → Part
truth_value true = word w.True
truth_value false = word w.False

-- o|c|TRUE|FALSE
abbrev pub subject : ℕ → Subject → Part
subject depth (subject_as.Value one) = alone depth one
subject depth (subject_as.Condition one) = condition depth one but some_alone
subject depth (subject_as.Truth one) = truth_value one

-- ---- objects

abbrev pub thru : Part
thru = word w.Thru or word w.Through

-- [{THRU|THROUGH} o]
abbrev pub to_last : ℕ → Option Side → Part
to_last depth None = absence_of thru
to_last depth (Some one) = thru then side depth one

-- ANY|[NOT] o [{THRU|THROUGH} o]|c|TRUE|FALSE
abbrev pub choice : ℕ → Choice → Part
choice depth choice_as.Any = word w.Any
choice depth (choice_as.Value negated first last) = optional_part (word w.Not) negated then alone depth first then to_last depth last
choice depth (choice_as.Condition one) = condition depth one but some_wanted
choice depth (choice_as.Truth one) = truth_value one

-- with the place where it begins
abbrev pub object : ℕ → Object → Part
object depth one = here one.place then choice depth one.choice

-- ---- reading values

-- by what reading a side gives, and where it begins; None where none is alone there
abbrev pub alone_at : List Token → Outcome Side → Outcome (Option Side)
alone_at i (Ok p) = if in_condition p.1 then Ok (None, i) else Ok (Some p.0, p.1)
alone_at i (Err (Unexpected left)) = Ok (None, i)
alone_at i (Err (TooDeep left)) = Err (TooDeep left)

unfoldable pub alone_reader : ℕ → Parser (Option Side)
alone_reader depth i = alone_at i (side_reader depth i)

-- ---- reading subjects

abbrev pub begins_truth : List Token → Bool
begins_truth i = begins_word w.True i || begins_word w.False i

unfoldable pub truth_reader : Parser Bool
truth_reader i = if begins_word w.True i then (expect w.True >> pure true) i else (expect w.False >> pure false) i

unfoldable pub subject_truth_reader : Parser Subject
subject_truth_reader = do
  one ← truth_reader
  pure (subject_as.Truth one)

unfoldable pub subject_condition_reader : ℕ → Parser Subject
subject_condition_reader depth = do
  one ← condition_reader depth
  pure (subject_as.Condition one)

abbrev pub subject_from : ℕ → Option Side → Parser Subject
subject_from depth (Some one) = pure (subject_as.Value one)
subject_from depth None = subject_condition_reader depth

unfoldable pub subject_asked_reader : ℕ → Parser Subject
subject_asked_reader depth = do
  one ← alone_reader depth
  subject_from depth one

unfoldable pub subject_reader : ℕ → Parser Subject
subject_reader depth i = if begins_truth i then subject_truth_reader i else subject_asked_reader depth i

-- ---- reading objects

abbrev pub through_by : ℕ → Reserved → Parser (Option Side)
through_by depth thru = do
  expect thru
  one ← side_reader depth
  pure (Some one)

unfoldable pub last_reader : ℕ → Parser (Option Side)
last_reader depth i =
    if begins_word w.Thru i then through_by depth w.Thru i else if begins_word w.Through i then through_by depth w.Through i else Ok (None, i)

unfoldable pub choice_any_reader : Parser Choice
choice_any_reader = do
  expect w.Any
  pure choice_as.Any

unfoldable pub choice_truth_reader : Parser Choice
choice_truth_reader = do
  one ← truth_reader
  pure (choice_as.Truth one)

unfoldable pub choice_condition_reader : ℕ → Parser Choice
choice_condition_reader depth = do
  one ← condition_reader depth
  pure (choice_as.Condition one)

unfoldable pub choice_value_reader : ℕ → Bool → Side → Parser Choice
choice_value_reader depth negated first = do
  last ← last_reader depth
  pure (choice_as.Value negated first last)

-- Where no value is alone, a condition begins where the object does.
abbrev pub choice_from : ℕ → List Token → Bool → Option Side → Parser Choice
choice_from depth i negated (Some first) = choice_value_reader depth negated first
choice_from depth i negated None = λ behind. choice_condition_reader depth i

unfoldable pub choice_asked_reader : ℕ → List Token → Parser Choice
choice_asked_reader depth i = do
  negated ← r.presence_reader (after_word w.Not)
  one ← alone_reader depth
  choice_from depth i negated one

unfoldable pub choice_reader : ℕ → Parser Choice
choice_reader depth i =
    if begins_word w.Any i then choice_any_reader i else if begins_truth i then choice_truth_reader i else choice_asked_reader depth i i

unfoldable pub object_reader : ℕ → Parser Object
object_reader depth = do
  place ← r.here
  one ← choice_reader depth
  pure (record { place = place; choice = one })
