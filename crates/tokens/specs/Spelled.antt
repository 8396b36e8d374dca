-- What the characters of a token spell.
use Rattle.std.specs.Prelude.{◌≡◌, ℕ, ◌-◌, true, if◌then◌else◌, ◌==◌, List, [], ◌∷◌, ◌++◌, take, drop, Option, None, Some}
use Rattle.source_lines.specs.declared.lines.Character.{Character}
use Rattle.tokens.specs.declared.character.Class.{Class}
use Rattle.tokens.specs.declared.character.Class.TheVariants as class
use Rattle.tokens.specs.declared.token.Kind.{Kind}
use Rattle.tokens.specs.declared.token.Kind.TheVariants as k
use Rattle.lexical.specs.declared.number.NumericLiteral.{NumericLiteral}
use Rattle.tokens.specs.declared.token.Operator.{Operator}
use Rattle.tokens.specs.declared.token.Operator.TheVariants as o
use Rattle.lexical.specs.declared.number.Sign.{Sign}
use Rattle.lexical.specs.declared.number.Sign.TheVariants.{Unsigned, Plus, Minus}
use Rattle.tokens.specs.declared.token.Token.{Token}
use Rattle.tokens.specs.Characters.{is_in, bytes, bytes_in_upper_case, begins_with_class}
use Rattle.tokens.specs.Spelling.{reserved_word}

abbrev pub operator_text : Operator → List ℕ
operator_text o.Plus = 43 ∷ []
operator_text o.Minus = 45 ∷ []
operator_text o.Times = 42 ∷ []
operator_text o.Divide = 47 ∷ []
operator_text o.Equal = 61 ∷ []
operator_text o.Greater = 62 ∷ []
operator_text o.Less = 60 ∷ []
operator_text o.GreaterOrEqual = 62 ∷ 61 ∷ []
operator_text o.LessOrEqual = 60 ∷ 61 ∷ []

-- each of these bytes is of the class
abbrev pub All : Class → List ℕ → Type 0
All class [] = Unit {0}
All class (b ∷ more) = (is_in class b ≡ true) × All class more

-- ---- literals (COBOL-85, Nucleus, "Literals")

abbrev pub sign_text : Sign → List ℕ
sign_text Unsigned = []
sign_text Plus = 43 ∷ []
sign_text Minus = 45 ∷ []

-- the decimals with the point before them
abbrev pub decimals_text : List ℕ → List ℕ
decimals_text [] = []
decimals_text (d ∷ more) = 46 ∷ d ∷ more

-- the text is the literal's sign, digits, and decimals after a point
abbrev pub IsNumberText : NumericLiteral → List Character → Type 0
IsNumberText literal text =
    (bytes text ≡ sign_text literal.sign ++ (literal.whole ++ decimals_text literal.decimals)) × All class.Digit literal.whole × All class.Digit literal.decimals

abbrev pub doubled_marks : ℕ → List ℕ → List ℕ
doubled_marks mark [] = []
doubled_marks mark (b ∷ more) = if b == mark then mark ∷ mark ∷ doubled_marks mark more else b ∷ doubled_marks mark more

-- the text is the literal between two of these marks, with each such mark in it doubled
abbrev pub IsQuoted : ℕ → List ℕ → List Character → Type 0
IsQuoted mark literal text = (is_in class.Mark mark ≡ true) × (bytes text ≡ mark ∷ (doubled_marks mark literal ++ (mark ∷ [])))

-- ---- every kind

abbrev pub IsKindOf : Kind → List Character → Type 0
IsKindOf (k.Word word) text = (word ≡ bytes_in_upper_case text) × (reserved_word word ≡ None)
IsKindOf (k.Reserved word) text = reserved_word (bytes_in_upper_case text) ≡ Some word
IsKindOf (k.Picture picture) text = picture ≡ bytes text
IsKindOf k.Period text = bytes text ≡ 46 ∷ []
IsKindOf k.LeftParenthesis text = bytes text ≡ 40 ∷ []
IsKindOf k.RightParenthesis text = bytes text ≡ 41 ∷ []
IsKindOf k.Colon text = bytes text ≡ 58 ∷ []
IsKindOf (k.Operator one) text = bytes text ≡ operator_text one
IsKindOf (k.Numeric literal) text = IsNumberText literal text
IsKindOf (k.Nonnumeric literal) text = (mark : ℕ) × IsQuoted mark literal text

-- A front that is no token is one space, comma or semicolon.
abbrev pub Front : Option Kind → ℕ → List Character → Type 0
Front None size characters = (size ≡ 1) × (begins_with_class class.Separator characters ≡ true)
Front (Some kind) size characters = IsKindOf kind (take size characters)

-- each token's kind is what the slice of the characters at its span spells
abbrev pub AreSpelledBy : List Character → List Token → Type 0
AreSpelledBy characters [] = Unit {0}
AreSpelledBy characters (t ∷ more) = IsKindOf t.kind (take (t.span.end - t.span.start) (drop t.span.start characters)) × AreSpelledBy characters more

-- the characters from this one on up to the first span, between spans, and after the last one, are spaces, commas and semicolons
abbrev pub AreSeparated : ℕ → List Character → List Token → Type 0
AreSeparated from characters [] = All class.Separator (bytes (drop from characters))
AreSeparated from characters (t ∷ more) = All class.Separator (bytes (take (t.span.start - from) (drop from characters))) × AreSeparated t.span.end characters more
