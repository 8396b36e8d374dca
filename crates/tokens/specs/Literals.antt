-- Literals (COBOL-85, Nucleus, "Literals").
use Rattle.std.specs.Prelude.{ℕ, ◌+◌, Bool, true, false, ◌||◌, if◌then◌else◌, ◌==◌, nat_lt, List, [], ◌∷◌, ◌++◌, length, take, drop, Option, None, Some, Ok}
use Rattle.source_lines.specs.declared.lines.Character.{Character}
use Rattle.lexical.specs.declared.place.Place.{Place}
use Rattle.tokens.specs.declared.character.Class.TheVariants as class
use Rattle.tokens.specs.declared.fault.FaultKind.TheVariants as fault
use Rattle.lexical.specs.declared.number.Sign.{Sign}
use Rattle.lexical.specs.declared.number.Sign.TheVariants.{Unsigned, Plus, Minus}
use Rattle.tokens.specs.declared.token.Kind.TheVariants as k
use Rattle.tokens.specs.Characters.{bytes, run_size, begins_with_class}
use Rattle.tokens.specs.Words.{Outcome, refusal_at, token}

-- ---- numeric literals: 1 to 18 digits, at most one point, not last, a sign directly before them

abbrev pub after_point : List Character → List Character
after_point [] = []
after_point (c ∷ more) = if c.byte == 46 then more else []

-- a digit, or a point with a digit
abbrev pub begins_number : List Character → Bool
begins_number characters = begins_with_class class.Digit characters || begins_with_class class.Digit (after_point characters)

abbrev pub sign_size : Sign → ℕ
sign_size Unsigned = 0
sign_size Plus = 1
sign_size Minus = 1

-- the size of the decimals with their point; without decimals a point is no part of the literal
abbrev pub point_size : ℕ → ℕ
point_size decimals = if decimals == 0 then 0 else 1

-- The characters are those after the sign.
unfoldable pub numeric : Place → Sign → List Character → Outcome
numeric place sign characters =
    let whole = run_size class.Digit characters in
    let fraction = after_point (drop whole characters) in
    let decimals = run_size class.Digit fraction in
    if nat_lt 18 (whole + decimals) then refusal_at fault.WrongNumericLiteral place
    else Ok (token
    (k.Numeric (record { sign = sign; whole = bytes (take whole characters); decimals = bytes (take decimals fraction) }))
    (sign_size sign + whole + point_size decimals + decimals))

-- ---- nonnumeric literals: 1 to 160 characters between two marks, the mark doubled inside for one

-- The text up to the mark that closes it, and how many characters were passed with that mark. After a mark a second one
-- stands for one, and anything else has closed the text.
abbrev pub quoted_characters : ℕ → Bool → List ℕ → ℕ → List Character → Option (List ℕ × ℕ)
quoted_characters mark true text size [] = Some (text, size)
quoted_characters mark false text size [] = None
quoted_characters mark true text size (c ∷ more) = if c.byte == mark then quoted_characters mark false (text ++ mark ∷ []) (size + 1) more else Some (text, size)
quoted_characters mark false text size (c ∷ more) =
    if c.byte == mark then quoted_characters mark true text (size + 1) more else quoted_characters mark false (text ++ c.byte ∷ []) (size + 1) more

abbrev pub closed_literal : Place → Option (List ℕ × ℕ) → Outcome
closed_literal place None = refusal_at fault.WrongNonnumericLiteral place
closed_literal place (Some (text, size)) =
    if length text == 0 || nat_lt 160 (length text) then refusal_at fault.WrongNonnumericLiteral place
    else Ok (token (k.Nonnumeric text) size)

-- The characters are those after the opening mark.
unfoldable pub nonnumeric : Place → ℕ → List Character → Outcome
nonnumeric place mark characters = closed_literal place (quoted_characters mark false [] 1 characters)
