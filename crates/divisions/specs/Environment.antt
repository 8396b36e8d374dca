-- The environment division, whose configuration section is looked past: which tokens spell it, and how it is read (COBOL-85, Nucleus,
-- "Environment division").
use Rattle.std.specs.Prelude.{Bool, true, false, if◌then◌else◌, List, [], ◌∷◌, Option, None, Some, Ok}
use Rattle.tokens.specs.declared.reserved.Reserved.{Reserved}
use Rattle.tokens.specs.declared.reserved.Reserved.TheVariants as w
use Rattle.tokens.specs.declared.token.Kind.{Kind}
use Rattle.tokens.specs.declared.token.Kind.TheVariants as k
use Rattle.tokens.specs.declared.token.Token.{Token}
use Rattle.source_tree.specs.declared.select.Select.{Select}
use Rattle.grammar.specs.Parts.{Part, ◌then◌, ◌or◌, absence_of, some_of, several, lookahead, token_with, begins_telling, period, heading}
use Rattle.grammar.specs.Reading as r
use Rattle.grammar.specs.Reading.{Parser, ◌>>=◌, ◌>>◌}
use Rattle.grammar.specs.Listed.{◌unless_no◌, listed_from, unless_none, list_from}
use Rattle.file_control.specs.Selects.{input_output, input_output_reader}

-- the words of what may come after a description
abbrev pub follows_description : Reserved → Bool
follows_description w.ObjectComputer = true
follows_description w.InputOutput = true
follows_description w.Data = true
follows_description w.Procedure = true
follows_description _ = false

abbrev pub ends_description : Kind → Bool
ends_description k.Period = true
ends_description (k.Reserved one) = follows_description one
ends_description _ = false

abbrev pub something_unless : Bool → Option (Unit {0})
something_unless true = None
something_unless false = Some tt

-- any token but a period and these words
abbrev pub described_in : Token → Option (Unit {0})
described_in one = something_unless (ends_description one.kind)

abbrev pub begins_description : List Token → Bool
begins_description = begins_telling described_in

-- [any... .]
abbrev pub description : Part
description = (some_of (several (token_with described_in) (lookahead begins_description)) then period) or absence_of (lookahead begins_description)

-- [SOURCE-COMPUTER . [any... .]], and the same for OBJECT-COMPUTER
abbrev pub computer : Reserved → Part
computer one = (heading (one ∷ []) then description) unless_no one

-- [CONFIGURATION SECTION . [SOURCE-COMPUTER . ..] [OBJECT-COMPUTER . ..]]
abbrev pub configuration : Part
configuration =
    (heading (w.Configuration ∷ w.Section ∷ []) then computer w.SourceComputer then computer w.ObjectComputer) unless_no w.Configuration

-- ENVIRONMENT DIVISION . [CONFIGURATION SECTION . ..] [INPUT-OUTPUT SECTION . ..]
abbrev pub sections : List Select → Part
sections selects = heading (w.Environment ∷ w.Division ∷ []) then configuration then input_output selects

-- [ENVIRONMENT DIVISION . ..]: it is left out only where ENVIRONMENT does not stand.
abbrev pub environment : List Select → Part
environment = listed_from w.Environment sections

-- ---- reading

-- the tokens after a description
unfoldable pub past_description : List Token → List Token
past_description [] = []
past_description (first ∷ more) = if ends_description first.kind then first ∷ more else past_description more

abbrev pub pass_description : Parser (Unit {0})
pass_description i = Ok (tt, past_description i)

unfoldable pub some_description : Parser (Unit {0})
some_description = do
  pass_description
  r.period

unfoldable pub description_reader : Parser (Unit {0})
description_reader i = if begins_description i then some_description i else Ok (tt, i)

unfoldable pub computer_reader : Reserved → Parser (Unit {0})
computer_reader one = unless_none one (r.heading_reader (one ∷ []) >> description_reader)

unfoldable pub configuration_reader : Parser (Unit {0})
configuration_reader =
    unless_none w.Configuration (r.heading_reader (w.Configuration ∷ w.Section ∷ []) >> (computer_reader w.SourceComputer >> computer_reader w.ObjectComputer))

unfoldable pub environment_sections_reader : Parser (List Select)
environment_sections_reader = do
  r.heading_reader (w.Environment ∷ w.Division ∷ [])
  configuration_reader
  input_output_reader

unfoldable pub environment_reader : Parser (List Select)
environment_reader = list_from w.Environment environment_sections_reader
