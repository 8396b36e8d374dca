-- Looking past references and parentheses, and what shows that an operand goes on.
use Rattle.std.specs.Prelude.{◌||◌, if◌then◌else◌, ℕ, zero, suc, Bool, true, false, List, [], ◌∷◌, Option, Some, None}
use Rattle.tokens.specs.declared.reserved.Reserved.{Reserved}
use Rattle.tokens.specs.declared.token.Kind.{Kind}
use Rattle.tokens.specs.declared.token.Kind.TheVariants as k
use Rattle.tokens.specs.declared.token.Token.{Token}
use Rattle.grammar.specs.Parts.{Part, ◌then◌, some_of, word, begins_telling, begins_name}
use Rattle.grammar.specs.Reading.{Words, tokens_past, and_past, past_any, also_after}
use Rattle.expressions.specs.Marks.{left_in, right_in, colon_in, begins_left, begins_colon, sum_in, product_in}
use Rattle.expressions.specs.Subscripts.{begins_subscript, subscript_reader}
use Rattle.expressions.specs.Literals.{number_literal_in}
use Rattle.expressions.specs.References.{reference, reference_reader}
use Rattle.expressions.specs.Expressions.{begins_nested}

-- the tokens after the first, where it passed a test
abbrev pub past_first : Bool → Words
past_first false i = None
past_first true [] = None
past_first true (first ∷ more) = Some more

-- ---- the numbers in parentheses after a name

abbrev pub past_token : {A : Type 0} → (Token → Option A) → Words
past_token tells i = past_first (begins_telling tells i) i

abbrev pub past_subscript : Words
past_subscript = tokens_past subscript_reader

abbrev pub past_length : Words
past_length i = if begins_subscript i then past_subscript i else Some i

-- after the first place
abbrev pub past_part_from : Words
past_part_from i = and_past (and_past (past_token colon_in i) past_length) (past_token right_in)

abbrev pub past_part : Words
past_part i = and_past (and_past (past_token left_in i) past_subscript) past_part_from

abbrev pub past_part_behind : Words
past_part_behind i = if begins_left i then past_part i else Some i

-- after the first subscript
abbrev pub past_subscripted : Words
past_subscripted i = and_past (and_past (past_any past_subscript begins_subscript i) (past_token right_in)) past_part_behind

abbrev pub past_after_number : Words
past_after_number i = if begins_colon i then past_part_from i else past_subscripted i

abbrev pub past_enclosed : Words
past_enclosed i = and_past (and_past (past_token left_in i) past_subscript) past_after_number

abbrev pub past_numbers : Words
past_numbers i = if begins_left i then past_enclosed i else Some i

-- ---- references

-- the tokens after a reference, where one stands
abbrev pub past_reference : Words
past_reference = tokens_past reference_reader

-- a reference and this word, as in `d FOR` and `d TIMES`
abbrev pub reference_before : Reserved → Part
reference_before one = some_of reference then word one

abbrev pub after_reference_before : Reserved → Words
after_reference_before one i = also_after one (past_reference i)

-- ---- parentheses

-- how many parentheses are open after a token
abbrev pub still_open : Kind → ℕ → ℕ
still_open k.LeftParenthesis unclosed = suc (suc unclosed)
still_open k.RightParenthesis unclosed = unclosed
still_open _ unclosed = suc unclosed

-- the tokens after those that close as many parentheses as are open
unfoldable pub past_closing : List Token → ℕ → Option (List Token)
past_closing [] zero = Some []
past_closing [] (suc unclosed) = None
past_closing (first ∷ more) zero = Some (first ∷ more)
past_closing (first ∷ more) (suc unclosed) = past_closing more (still_open first.kind unclosed)

-- the tokens after a left parenthesis and the right one that closes it
abbrev pub past_parentheses : Words
past_parentheses [] = None
past_parentheses (first ∷ more) = past_closing more (suc zero)

-- ---- expressions

-- where an expression begins
abbrev pub begins_expression : List Token → Bool
begins_expression i = begins_name i || (begins_nested i || begins_telling number_literal_in i)

-- an operator follows, with which an operand goes on
abbrev pub begins_operator : List Token → Bool
begins_operator i = begins_telling product_in i || begins_telling sum_in i
