-- What is a token of each kind, or a separator: this text, before this rest, after what is before it.
use Rattle.std.specs.Prelude.{◌≡◌, ◌≤◌, ◌⊎◌, ℕ, ◌+◌, Bool, true, false, not, ◌&&◌, ◌==◌, List, [], ◌∷◌, ◌++◌, length, drop, Option, None, Some}
use Rattle.source_lines.specs.declared.lines.Character.{Character}
use Rattle.tokens.specs.declared.character.Class.{Class}
use Rattle.tokens.specs.declared.character.Class.TheVariants as class
use Rattle.tokens.specs.declared.context.Context.{Context}
use Rattle.tokens.specs.declared.reserved.Reserved.TheVariants as w
use Rattle.tokens.specs.declared.token.Kind.{Kind}
use Rattle.tokens.specs.declared.token.Kind.TheVariants as k
use Rattle.lexical.specs.declared.number.NumericLiteral.{NumericLiteral}
use Rattle.tokens.specs.declared.token.Operator.{Operator}
use Rattle.tokens.specs.declared.token.Operator.TheVariants as o
use Rattle.lexical.specs.declared.number.Sign.{Sign}
use Rattle.lexical.specs.declared.number.Sign.TheVariants.{Unsigned, Plus, Minus}
use Rattle.tokens.specs.Characters.{bytes, bytes_in_upper_case, begins_with_class, ends_with_class, has_class}
use Rattle.tokens.specs.Contexts.{is_joined, awaits_picture, may_be_is}
use Rattle.tokens.specs.Lexemes.{is_equal_sign, begins_word}
use Rattle.tokens.specs.Literals.{begins_number}
use Rattle.tokens.specs.Pictures.{is_is}
use Rattle.tokens.specs.Spelled.{All, IsNumberText, IsQuoted, operator_text}
use Rattle.tokens.specs.Spelling.{reserved_word}

-- the characters are of the class, and none of it follows
abbrev pub IsRun : Class → List Character → List Character → Type 0
IsRun class text rest = All class (bytes text) × (begins_with_class class rest ≡ false)

-- A run of letters, digits and hyphens that begins with a letter or digit and has a letter in it, at most 30, a hyphen not last
-- (COBOL-85, Nucleus, "COBOL words").
abbrev pub IsWord : List Character → List Character → Type 0
IsWord text rest =
    IsRun class.InWord text rest × (begins_with_class class.LetterOrDigit text ≡ true) × (has_class class.Letter text ≡ true) × (length text ≤ 30) × (ends_with_class class.Hyphen text ≡ false)

-- whether what follows a number with these decimals belongs to it: a digit, or where it has no decimals, a point with a digit
abbrev pub has_more_digits : List ℕ → List Character → Bool
has_more_digits [] rest = begins_number rest
has_more_digits (d ∷ more) rest = begins_with_class class.Digit rest

-- A sign stands only apart from a word, a literal and `)` (own choice). Digits in a run with a letter are a word.
abbrev pub MayBegin : Context → Sign → List Character → Type 0
MayBegin before Unsigned characters = begins_word characters ≡ false
MayBegin before Plus characters = is_joined before ≡ false
MayBegin before Minus characters = is_joined before ≡ false

-- 1 to 18 digits, and no more follow (COBOL-85, Nucleus, "Literals")
abbrev pub IsNumericLiteral : Context → NumericLiteral → List Character → List Character → Type 0
IsNumericLiteral before literal text rest =
    IsNumberText literal text × (1 ≤ length literal.whole + length literal.decimals) × (length literal.whole + length literal.decimals ≤ 18)
    × (has_more_digits literal.decimals rest ≡ false) × MayBegin before literal.sign (text ++ rest)

abbrev pub begins_with : ℕ → List Character → Bool
begins_with mark [] = false
begins_with mark (c ∷ more) = c.byte == mark

-- 1 to 160 characters between two marks, and no third mark follows (COBOL-85, Nucleus, "Literals")
abbrev pub IsNonnumericLiteral : ℕ → List ℕ → List Character → List Character → Type 0
IsNonnumericLiteral mark literal text rest = IsQuoted mark literal text × (1 ≤ length literal) × (length literal ≤ 160) × (begins_with mark rest ≡ false)

-- Nonblank characters before a space or the end, or before one last period, comma or semicolon that stands so (COBOL-85, Nucleus,
-- "PICTURE clause").
abbrev pub IsPicture : List Character → List Character → Type 0
IsPicture text rest =
    (1 ≤ length text) × All class.Nonblank (bytes text)
    × (((ends_with_class class.Ending text ≡ false) × (begins_with_class class.Nonblank rest ≡ false)) ⊎ ((begins_with_class class.Ending rest ≡ true) × (begins_with_class class.Nonblank (drop 1 rest) ≡ false)))

-- whether what follows an operator belongs to it: an equal sign, or for a sign a number
abbrev pub has_more : Context → Operator → List Character → Bool
has_more before o.Plus rest = not (is_joined before) && begins_number rest
has_more before o.Minus rest = not (is_joined before) && begins_number rest
has_more before o.Greater rest = is_equal_sign rest
has_more before o.Less rest = is_equal_sign rest
has_more before _ rest = false

-- After PIC or PICTURE stand IS, a picture, or a period.
abbrev pub IsToken : Context → Kind → List Character → List Character → Type 0
IsToken before (k.Word word) text rest = (awaits_picture before ≡ false) × IsWord text rest × (reserved_word (bytes_in_upper_case text) ≡ None) × (word ≡ bytes_in_upper_case text)
IsToken before (k.Reserved word) text rest =
    ((awaits_picture before ≡ false) × IsWord text rest × (reserved_word (bytes_in_upper_case text) ≡ Some word))
    ⊎ (((may_be_is before && is_is (bytes text)) ≡ true) × IsPicture text rest × (word ≡ w.Is))
IsToken before (k.Numeric literal) text rest = (awaits_picture before ≡ false) × IsNumericLiteral before literal text rest
IsToken before (k.Nonnumeric literal) text rest = (awaits_picture before ≡ false) × ((mark : ℕ) × IsNonnumericLiteral mark literal text rest)
IsToken before (k.Picture picture) text rest = (awaits_picture before ≡ true) × ((may_be_is before && is_is (bytes text)) ≡ false) × IsPicture text rest × (picture ≡ bytes text)
IsToken before k.Period text rest = (bytes text ≡ 46 ∷ []) × (begins_with_class class.Nonblank rest ≡ false)
IsToken before k.LeftParenthesis text rest = (awaits_picture before ≡ false) × (bytes text ≡ 40 ∷ [])
IsToken before k.RightParenthesis text rest = (awaits_picture before ≡ false) × (bytes text ≡ 41 ∷ [])
IsToken before k.Colon text rest = (awaits_picture before ≡ false) × (bytes text ≡ 58 ∷ [])
IsToken before (k.Operator one) text rest = (awaits_picture before ≡ false) × (bytes text ≡ operator_text one) × (has_more before one rest ≡ false)

-- A space, comma or semicolon; where a picture is awaited, a comma or semicolon only before a space or the end.
abbrev pub IsSeparator : Context → List Character → List Character → Type 0
IsSeparator before text rest =
    (length text ≡ 1) × (begins_with_class class.Separator text ≡ true) × ((awaits_picture before && (begins_with_class class.Nonblank text && begins_with_class class.Nonblank rest)) ≡ false)

abbrev pub IsFront : Context → Option Kind → List Character → List Character → Type 0
IsFront before None text rest = IsSeparator before text rest
IsFront before (Some kind) text rest = IsToken before kind text rest
