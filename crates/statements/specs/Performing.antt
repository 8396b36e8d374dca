-- PERFORM: its rule, and how it is read.
use Rattle.std.specs.Prelude.{ℕ, ◌||◌, ◌&&◌, not, is_some, Bool, List, Option, None, Some, Ok, if◌then◌else◌}
use Rattle.tokens.specs.declared.reserved.Reserved.{Reserved}
use Rattle.tokens.specs.declared.reserved.Reserved.TheVariants as w
use Rattle.tokens.specs.declared.token.Token.{Token}
use Rattle.source_tree.specs.declared.name.Name.{Name}
use Rattle.source_tree.specs.declared.perform_statement.Performed.{Performed}
use Rattle.source_tree.specs.declared.perform_statement.Performed.TheVariants.{Procedures, Statements}
use Rattle.source_tree.specs.declared.perform_statement.Repetition.{Repetition}
use Rattle.source_tree.specs.declared.perform_statement.PerformStatement.{PerformStatement}
use Rattle.source_tree.specs.declared.statement.Verb.{Verb}
use Rattle.source_tree.specs.declared.statement.Verb.TheVariants as verb
use Rattle.source_tree.specs.declared.statement.Statement.{Statement}
use Rattle.grammar.specs.Parts.{Part, ◌then◌, ◌or◌, ◌but◌, absence_of, word, name, begins_name}
use Rattle.grammar.specs.Reading as read
use Rattle.grammar.specs.Reading.{Parser, ◌>>=◌, ◌>>◌, pure, expect, begins_word}
use Rattle.expressions.specs.Looking.{reference_before, after_reference_before}
use Rattle.statements.specs.Turning.{turns, turns_reader}

abbrev pub thru : Part
thru = word w.Thru or word w.Through

-- [{THRU|THROUGH} n]
abbrev pub last_named : Option Name → Part
last_named None = absence_of thru
last_named (Some last) = thru then name last

-- n, where no count stands: a reference before TIMES is one, and no procedure
abbrev pub first_named : Name → Part
first_named first = name first but reference_before w.Times

-- n [{THRU|THROUGH} n] [lp], where lp is how often
abbrev pub procedures : ℕ → Name → Option Name → Repetition → Part
procedures depth first last often = first_named first then last_named last then turns depth often

-- [lp] s END-PERFORM
abbrev pub in_line : ℕ → (List Statement → Part) → List Statement → Repetition → Part
in_line depth statements inside often = turns depth often then statements inside then word w.EndPerform

abbrev pub perform_body : ℕ → (List Statement → Part) → Performed Statement → Repetition → Part
perform_body depth statements (Procedures first last) often = procedures depth first last often
perform_body depth statements (Statements inside) often = in_line depth statements inside often

-- PERFORM procedures or statements (COBOL-85, Nucleus, "The PERFORM statement"). `depth` is how deep a condition may nest.
abbrev pub perform_statement : ℕ → (List Statement → Part) → PerformStatement Statement → Part
perform_statement depth statements one = word w.Perform then perform_body depth statements one.performed one.turns

-- ---- reading

abbrev pub begins_thru : List Token → Bool
begins_thru i = begins_word w.Thru i || begins_word w.Through i

abbrev pub through_by : Reserved → Parser (Option Name)
through_by thru = do
  expect thru
  last ← read.name
  pure (Some last)

-- from THRU or THROUGH on
unfoldable pub through_reader : Parser (Option Name)
through_reader i = if begins_word w.Thru i then through_by w.Thru i else through_by w.Through i

unfoldable pub through_name_reader : Parser (Option Name)
through_name_reader i = if begins_thru i then through_reader i else Ok (None, i)

unfoldable pub procedures_reader : {S : Type 0} → ℕ → Parser (Verb S)
procedures_reader depth = do
  first ← read.name
  last ← through_name_reader
  often ← turns_reader depth
  pure (verb.PerformStatement (record { performed = Procedures first last; turns = often }))

unfoldable pub in_line_reader : {S : Type 0} → ℕ → Parser (List S) → Parser (Verb S)
in_line_reader depth statements = do
  often ← turns_reader depth
  inside ← statements
  expect w.EndPerform
  pure (verb.PerformStatement (record { performed = Statements inside; turns = often }))

-- a name that isn't of a count before TIMES
abbrev pub begins_procedures : List Token → Bool
begins_procedures i = begins_name i && not (is_some (after_reference_before w.Times i))

abbrev pub performed_reader : {S : Type 0} → ℕ → Parser (List S) → Parser (Verb S)
performed_reader depth statements i = if begins_procedures i then procedures_reader depth i else in_line_reader depth statements i

unfoldable pub perform_reader : {S : Type 0} → ℕ → Parser (List S) → Parser (Verb S)
perform_reader depth statements = do
  expect w.Perform
  performed_reader depth statements
