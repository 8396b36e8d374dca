-- BEFORE and AFTER of an entry of INSPECT, and the texts there: their rules, and how they are read.
use Rattle.std.specs.Prelude.{◌&&◌, not, is_some, if◌then◌else◌, Bool, true, false, List, Option, None, Some, Ok}
use Rattle.tokens.specs.declared.reserved.Reserved.{Reserved}
use Rattle.tokens.specs.declared.reserved.Reserved.TheVariants as w
use Rattle.tokens.specs.declared.token.Token.{Token}
use Rattle.source_tree.specs.declared.expression.Operand.{Operand}
use Rattle.source_tree.specs.declared.inspect_statement.Limits.{Limits}
use Rattle.grammar.specs.Parts.{Part, ◌then◌, ◌but◌, optional, absence_of, nowhere, word}
use Rattle.grammar.specs.Reading.{Parser, ◌>>=◌, ◌>>◌, pure, refuse, after_word, begins_word, skip}
use Rattle.expressions.specs.Operands.{operand, begins_operand, operand_reader}

-- x, but never ALL with a literal: ALL begins an entry (COBOL-85, Nucleus, "The INSPECT statement")
abbrev pub text : Operand → Part
text one = operand one but word w.All

abbrev pub begins_text : List Token → Bool
begins_text i = begins_operand i && not (begins_word w.All i)

-- [INITIAL] x
abbrev pub bound : Operand → Part
bound one = optional (word w.Initial) then text one

-- {BEFORE|AFTER} [INITIAL] x
abbrev pub limit : Reserved → Operand → Part
limit which one = word which then bound one

-- [{BEFORE|AFTER} [INITIAL] x]
abbrev pub limit_phrase : Reserved → Option Operand → Part
limit_phrase which None = absence_of (word which)
limit_phrase which (Some one) = limit which one

-- The two in either order, each at most once. With AFTER alone, BEFORE stands neither in front of it nor after it.
abbrev pub ordered_limits : Option Operand → Option Operand → Bool → Part
ordered_limits None (Some after) false = limit w.After after then absence_of (word w.Before)
ordered_limits (Some before) (Some after) true = limit w.After after then limit w.Before before
ordered_limits before after false = limit_phrase w.Before before then limit_phrase w.After after
ordered_limits before after true = nowhere

-- [BEFORE [INITIAL] x] [AFTER [INITIAL] x], in either order
abbrev pub limit_phrases : Limits → Part
limit_phrases one = ordered_limits one.before one.after one.after_first

-- ---- reading

unfoldable pub text_reader : Parser Operand
text_reader i = if begins_word w.All i then refuse i else operand_reader i

unfoldable pub bound_reader : Parser Operand
bound_reader = do
  skip w.Initial
  text_reader

-- by the tokens after BEFORE or AFTER
abbrev pub limit_at : Option (List Token) → Parser (Option Operand)
limit_at None i = Ok (None, i)
limit_at (Some behind) i = (bound_reader >>= (λ one. pure (Some one))) behind

unfoldable pub limit_reader : Reserved → Parser (Option Operand)
limit_reader which i = limit_at (after_word which i) i

-- where AFTER isn't in front
unfoldable pub before_first_reader : Parser Limits
before_first_reader = do
  before ← limit_reader w.Before
  after ← limit_reader w.After
  pure (record { before = before; after = after; after_first = false })

-- after an AFTER in front
unfoldable pub after_first_reader : Parser Limits
after_first_reader = do
  after ← bound_reader
  before ← limit_reader w.Before
  pure (record { before = before; after = Some after; after_first = is_some before })

-- by the tokens after AFTER
abbrev pub limits_at : Option (List Token) → Parser Limits
limits_at None i = before_first_reader i
limits_at (Some behind) i = after_first_reader behind

unfoldable pub limits_reader : Parser Limits
limits_reader i = limits_at (after_word w.After i) i
