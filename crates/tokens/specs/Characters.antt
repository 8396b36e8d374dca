-- Classes of characters, and runs of them (COBOL-85, Nucleus, "Character set"). Lower case equals upper case: own choice.
use Rattle.std.specs.Prelude.{ℕ, Bool, false, ◌||◌, not, ◌==◌, ◌-◌, List, [], ◌∷◌, length, map, slice_get, Option, None, Some}
use Rattle.std.specs.List.{prefix_len}
use Rattle.std.specs.Char.{is_ascii_digit, is_ascii_alphabetic, is_ascii_alphanumeric, to_ascii_uppercase}
use Rattle.source_lines.specs.declared.lines.Character.{Character}
use Rattle.tokens.specs.declared.character.Class.{Class}
use Rattle.tokens.specs.declared.character.Class.TheVariants as class

abbrev pub is_in : Class → ℕ → Bool
is_in class.Digit b = is_ascii_digit b
is_in class.Letter b = is_ascii_alphabetic b
is_in class.LetterOrDigit b = is_ascii_alphanumeric b
is_in class.Hyphen b = b == 45
is_in class.InWord b = is_ascii_alphanumeric b || b == 45
is_in class.Nonblank b = not (b == 32)
is_in class.Separator b = b == 32 || b == 44 || b == 59
is_in class.Ending b = b == 46 || b == 44 || b == 59
is_in class.Mark b = b == 34 || b == 39

abbrev pub bytes : List Character → List ℕ
bytes characters = map (λ c. c.byte) characters

abbrev pub bytes_in_upper_case : List Character → List ℕ
bytes_in_upper_case characters = map (λ c. to_ascii_uppercase c.byte) characters

-- how many characters the longest run of the class has that stands at the front
abbrev pub run_size : Class → List Character → ℕ
run_size class characters = prefix_len (λ c. is_in class c.byte) characters

abbrev pub begins_with_class : Class → List Character → Bool
begins_with_class class [] = false
begins_with_class class (c ∷ more) = is_in class c.byte

abbrev pub is_last : Class → Option Character → Bool
is_last class None = false
is_last class (Some c) = is_in class c.byte

abbrev pub ends_with_class : Class → List Character → Bool
ends_with_class class characters = is_last class (slice_get characters (length characters - 1))

abbrev pub has_class : Class → List Character → Bool
has_class class [] = false
has_class class (c ∷ more) = is_in class c.byte || has_class class more
