-- Literals and figurative constants (COBOL-85, Nucleus, "Literals", "Figurative constants"): their rules, and how they are read.
use Rattle.std.specs.Prelude.{◌≡◌, ℕ, ◌||◌, if◌then◌else◌, Bool, true, false, List, Option, None, Some}
use Rattle.std.specs.Option.{option_map}
use Rattle.tokens.specs.declared.reserved.Reserved.{Reserved}
use Rattle.tokens.specs.declared.reserved.Reserved.TheVariants as w
use Rattle.tokens.specs.declared.token.Kind.{Kind}
use Rattle.tokens.specs.declared.token.Kind.TheVariants as k
use Rattle.tokens.specs.declared.token.Token.{Token}
use Rattle.lexical.specs.declared.place.Place.{Place}
use Rattle.source_tree.specs.declared.literal.Figurative.{Figurative}
use Rattle.source_tree.specs.declared.literal.Figurative.TheVariants as figurative
use Rattle.source_tree.specs.declared.literal.LiteralValue.{LiteralValue}
use Rattle.source_tree.specs.declared.literal.LiteralValue.TheVariants as value
use Rattle.source_tree.specs.declared.literal.Literal.{Literal}
use Rattle.grammar.specs.Parts.{Part, ◌then◌, ◌or◌, here, word, token_with, begins_telling}
use Rattle.grammar.specs.Reading as r
use Rattle.grammar.specs.Reading.{Parser, ◌>>=◌, ◌>>◌, pure, expect, one_token, begins_word}

-- the figurative constant that a word is, in singular and plural the same
abbrev pub figurative_of : Reserved → Option Figurative
figurative_of w.Zero = Some figurative.Zero
figurative_of w.Zeros = Some figurative.Zero
figurative_of w.Zeroes = Some figurative.Zero
figurative_of w.Space = Some figurative.Space
figurative_of w.Spaces = Some figurative.Space
figurative_of w.HighValue = Some figurative.HighValue
figurative_of w.HighValues = Some figurative.HighValue
figurative_of w.LowValue = Some figurative.LowValue
figurative_of w.LowValues = Some figurative.LowValue
figurative_of w.Quote = Some figurative.Quote
figurative_of w.Quotes = Some figurative.Quote
figurative_of _ = None

-- the value of a literal of one token
abbrev pub value_by : Kind → Option LiteralValue
value_by (k.Reserved one) = option_map value.Figurative (figurative_of one)
value_by (k.Numeric number) = Some (value.Numeric number)
value_by (k.Nonnumeric bytes) = Some (value.Nonnumeric bytes)
value_by _ = None

abbrev pub literal_at : Place → LiteralValue → Literal
literal_at place one = record { value = one; place = place }

abbrev pub plain_in : Token → Option Literal
plain_in one = option_map (literal_at one.place) (value_by one.kind)

abbrev pub bytes_by : Kind → Option (List ℕ)
bytes_by (k.Nonnumeric bytes) = Some bytes
bytes_by _ = None

-- the bytes of a nonnumeric literal
abbrev pub bytes_in : Token → Option (List ℕ)
bytes_in one = bytes_by one.kind

-- ALL alit
abbrev pub all_literal : Literal → Part
all_literal one = λ from rest. (bytes : List ℕ) × (one ≡ literal_at one.place (value.All bytes)) × (here one.place then word w.All then token_with bytes_in bytes) from rest

-- nlit|alit|fig
abbrev pub literal : Literal → Part
literal one = token_with plain_in one or all_literal one

abbrev pub begins_literal : List Token → Bool
begins_literal i = begins_word w.All i || begins_telling plain_in i

unfoldable pub all_literal_reader : Parser Literal
all_literal_reader = do
  place ← r.here
  expect w.All
  bytes ← one_token bytes_in
  pure (literal_at place (value.All bytes))

unfoldable pub literal_reader : Parser Literal
literal_reader i = if begins_word w.All i then all_literal_reader i else one_token plain_in i

-- ---- where a number is wanted

abbrev pub zero_in : Option Figurative → Bool
zero_in (Some figurative.Zero) = true
zero_in _ = false

abbrev pub is_zero : Reserved → Bool
is_zero one = zero_in (figurative_of one)

abbrev pub number_value_by : Kind → Option LiteralValue
number_value_by (k.Reserved one) = if is_zero one then Some (value.Figurative figurative.Zero) else None
number_value_by (k.Numeric number) = Some (value.Numeric number)
number_value_by _ = None

-- nlit|ZERO
abbrev pub number_literal_in : Token → Option Literal
number_literal_in one = option_map (literal_at one.place) (number_value_by one.kind)
