-- The token or separator at the front of some characters.
use Rattle.std.specs.Prelude.{ℕ, Bool, false, not, ◌&&◌, if◌then◌else◌, ◌==◌, List, [], ◌∷◌, take, Option, None, Some, Ok}
use Rattle.source_lines.specs.declared.lines.Character.{Character}
use Rattle.lexical.specs.declared.place.Place.{Place}
use Rattle.tokens.specs.declared.character.Class.TheVariants as class
use Rattle.tokens.specs.declared.fault.FaultKind.TheVariants as fault
use Rattle.tokens.specs.declared.context.Context.{Context}
use Rattle.tokens.specs.declared.token.Kind.TheVariants as k
use Rattle.tokens.specs.declared.token.Operator.{Operator}
use Rattle.tokens.specs.declared.token.Operator.TheVariants as o
use Rattle.lexical.specs.declared.number.Sign.{Sign}
use Rattle.lexical.specs.declared.number.Sign.TheVariants as sign
use Rattle.tokens.specs.Characters.{is_in, run_size, begins_with_class, has_class}
use Rattle.tokens.specs.Literals.{begins_number, numeric, nonnumeric}
use Rattle.tokens.specs.Contexts.{is_joined, awaits_picture}
use Rattle.tokens.specs.Pictures.{separator, picture}
use Rattle.tokens.specs.Words.{Outcome, refusal_at, token, word}

-- ---- periods, parentheses and operators (COBOL-85, Nucleus, "Separators", "Arithmetic expressions", "Relation conditions")

-- A period ends a sentence before a space or at the end.
abbrev pub period : Place → List Character → Outcome
period place more = if begins_with_class class.Nonblank more then refusal_at fault.StrayCharacter place else Ok (token k.Period 1)

abbrev pub is_equal_sign : List Character → Bool
is_equal_sign [] = false
is_equal_sign (c ∷ more) = c.byte == 61

abbrev pub operator : Operator → ℕ → Outcome
operator one size = Ok (token (k.Operator one) size)

unfoldable pub comparison : Operator → Operator → List Character → Outcome
comparison alone with_equal more = if is_equal_sign more then operator with_equal 2 else operator alone 1

unfoldable pub punctuation : Place → ℕ → List Character → Outcome
punctuation place first more =
    if first == 46 then period place more
    else (if first == 40 then Ok (token k.LeftParenthesis 1)
    else (if first == 41 then Ok (token k.RightParenthesis 1)
    else (if first == 58 then Ok (token k.Colon 1)
    else (if first == 43 then operator o.Plus 1
    else (if first == 45 then operator o.Minus 1
    else (if first == 42 then operator o.Times 1
    else (if first == 47 then operator o.Divide 1
    else (if first == 61 then operator o.Equal 1
    else (if first == 62 then comparison o.Greater o.GreaterOrEqual more
    else (if first == 60 then comparison o.Less o.LessOrEqual more
    else refusal_at fault.StrayCharacter place))))))))))

-- ---- words, literals and pictures

-- The longest run of letters, digits and hyphens is a word if a letter is in it.
abbrev pub begins_word : List Character → Bool
begins_word characters = has_class class.Letter (take (run_size class.InWord characters) characters)

abbrev pub word_or_number : Place → List Character → Outcome
word_or_number place characters = if begins_word characters then word place characters else numeric place sign.Unsigned characters

-- A plus or minus is a sign directly before a number, unless it stands directly after a word, a literal or `)`: own choice.
abbrev pub sign_here : Context → ℕ → List Character → Option Sign
sign_here before first more =
    if not (is_joined before) && begins_number more then (if first == 43 then Some sign.Plus else (if first == 45 then Some sign.Minus else None)) else None

abbrev pub signed_lexeme : Option Sign → Place → ℕ → List Character → Outcome
signed_lexeme None place first more = punctuation place first more
signed_lexeme (Some one) place first more = numeric place one more

unfoldable pub plain_lexeme : Context → Character → List Character → Outcome
plain_lexeme before first more =
    if is_in class.Separator first.byte then Ok separator
    else (if is_in class.LetterOrDigit first.byte then word_or_number first.place (first ∷ more)
    else (if begins_number (first ∷ more) then numeric first.place sign.Unsigned (first ∷ more)
    else (if is_in class.Mark first.byte then nonnumeric first.place first.byte more
    else signed_lexeme (sign_here before first.byte more) first.place first.byte more)))

unfoldable pub lexeme : Context → Character → List Character → Outcome
lexeme before first more =
    if awaits_picture before && is_in class.Nonblank first.byte then Ok (picture before first.byte (first ∷ more)) else plain_lexeme before first more
