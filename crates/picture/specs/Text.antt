-- The text of a picture (COBOL-85, Nucleus, the PICTURE clause, general rules): at most 30 characters, in which `c(k)` is k times
-- c. Lower case equals upper case (own choice). Repetition is read before the symbols are, so `C(1)R` is CR.
use Rattle.std.specs.Prelude.{◌≡◌, ℕ, zero, suc, ◌+◌, ◌-◌, ◌*◌, ◌^◌, ◌≤◌, Bool, true, ◌&&◌, ◌==◌, ◌⊎◌, List, [], ◌∷◌, ◌++◌, length, Option, Some, None, nat_le, if◌then◌else◌}
use Rattle.std.specs.Char.{to_ascii_uppercase}
use Rattle.picture.specs.declared.run.Run.{Run}
use Rattle.picture.specs.declared.symbol.Symbol.{Symbol}
use Rattle.picture.specs.declared.symbol.Symbol.TheVariants as s

abbrev pub most_characters : ℕ
most_characters = 30

-- No number that is written in so few digits reaches it.
abbrev pub count_limit : ℕ
count_limit = 10 ^ most_characters

abbrev pub left_parenthesis : ℕ
left_parenthesis = 40

abbrev pub right_parenthesis : ℕ
right_parenthesis = 41

abbrev pub is_digit : ℕ → Bool
is_digit byte = nat_le 48 byte && nat_le byte 57

-- the character that writes a symbol, or the first of two
abbrev pub letter : Symbol → ℕ
letter s.A = 65
letter s.X = 88
letter s.Nine = 57
letter s.S = 83
letter s.V = 86
letter s.B = 66
letter s.Zero = 48
letter s.Slash = 47
letter s.Comma = 44
letter s.Point = 46
letter s.Z = 90
letter s.Star = 42
letter s.Plus = 43
letter s.Minus = 45
letter s.Currency = 36
letter s.Cr = 67
letter s.Db = 68

-- ---- which text spells which runs

-- the number that digits write
abbrev pub number_from : ℕ → List ℕ → ℕ
number_from before [] = before
number_from before (digit ∷ more) = number_from (before * 10 + (digit - 48)) more

abbrev pub AreDigits : List ℕ → Type 0
AreDigits [] = Unit {0}
AreDigits (digit ∷ more) = (is_digit digit ≡ true) × AreDigits more

-- `(k)`, k above 0, leading zeros or not
abbrev pub InParentheses : ℕ → List ℕ → Type 0
InParentheses count text = (digits : List ℕ) × (text ≡ left_parenthesis ∷ (digits ++ right_parenthesis ∷ [])) × AreDigits digits × (number_from 0 digits ≡ count) × (1 ≤ count)

-- What stands after a character that is repeated so often: nothing for once, or `(k)`.
abbrev pub Times : ℕ → List ℕ → Type 0
Times count text = ((text ≡ []) × (count ≡ 1)) ⊎ InParentheses count text

-- The character, in either case, count times.
abbrev pub Repeats : ℕ → ℕ → List ℕ → Type 0
Repeats character count text = (byte : ℕ) × (after : List ℕ) × (text ≡ byte ∷ after) × (to_ascii_uppercase byte ≡ character) × Times count after

-- Two characters, each once.
abbrev pub Pair : ℕ → ℕ → ℕ → List ℕ → Type 0
Pair first second count text = (count ≡ 1) × (one : List ℕ) × (other : List ℕ) × (text ≡ one ++ other) × Repeats first 1 one × Repeats second 1 other

abbrev pub Writes : Symbol → ℕ → List ℕ → Type 0
Writes s.Cr count text = Pair 67 82 count text
Writes s.Db count text = Pair 68 66 count text
Writes symbol count text = Repeats (letter symbol) count text

abbrev pub SpellsRuns : List Run → List ℕ → Type 0
SpellsRuns [] text = text ≡ []
SpellsRuns (run ∷ more) text = (front : List ℕ) × (rest : List ℕ) × (text ≡ front ++ rest) × Writes run.symbol run.count front × SpellsRuns more rest

-- ---- reading, as a function

unfoldable pub symbol_of : ℕ → Option Symbol
symbol_of c =
    if c == 65 then Some s.A else if c == 88 then Some s.X else if c == 57 then Some s.Nine else if c == 83 then Some s.S
    else if c == 86 then Some s.V else if c == 66 then Some s.B else if c == 48 then Some s.Zero else if c == 47 then Some s.Slash
    else if c == 44 then Some s.Comma else if c == 46 then Some s.Point else if c == 90 then Some s.Z else if c == 42 then Some s.Star
    else if c == 43 then Some s.Plus else if c == 45 then Some s.Minus else if c == 36 then Some s.Currency else None

-- the number that the digits in front write, and what comes after them
unfoldable pub number_at : ℕ → List ℕ → ℕ × List ℕ
number_at before [] = (before, [])
number_at before (byte ∷ more) = if is_digit byte then number_at (before * 10 + (byte - 48)) more else (before, byte ∷ more)

unfoldable pub count_before_parenthesis : ℕ → List ℕ → Option (ℕ × List ℕ)
count_before_parenthesis number [] = None
count_before_parenthesis number (byte ∷ more) = if (byte == right_parenthesis) && nat_le 1 number then Some (number, more) else None

-- how often the character before stands there, and what comes after that
unfoldable pub count_at : List ℕ → Option (ℕ × List ℕ)
count_at [] = Some (1, [])
count_at (byte ∷ more) = if byte == left_parenthesis then count_before_parenthesis (number_at 0 more).0 (number_at 0 more).1 else Some (1, byte ∷ more)

abbrev pub with_character : ℕ → Option (ℕ × List ℕ) → Option (ℕ × ℕ × List ℕ)
with_character byte None = None
with_character byte (Some counted) = Some (to_ascii_uppercase byte, counted.0, counted.1)

unfoldable pub character_at : List ℕ → Option (ℕ × ℕ × List ℕ)
character_at [] = None
character_at (byte ∷ more) = with_character byte (count_at more)

abbrev pub with_symbol : Option Symbol → ℕ → List ℕ → Option (Run × List ℕ)
with_symbol None count rest = None
with_symbol (Some symbol) count rest = Some (record { symbol = symbol; count = count }, rest)

abbrev pub with_second : ℕ → Symbol → Option (ℕ × ℕ × List ℕ) → Option (Run × List ℕ)
with_second second symbol None = None
with_second second symbol (Some x) = if (x.0 == second) && (x.1 == 1) then Some (record { symbol = symbol; count = 1 }, x.2) else None

unfoldable pub pair_at : ℕ → Symbol → ℕ → List ℕ → Option (Run × List ℕ)
pair_at second symbol count rest = if count == 1 then with_second second symbol (character_at rest) else None

unfoldable pub run_from : ℕ → ℕ → List ℕ → Option (Run × List ℕ)
run_from character count rest =
    if character == 67 then pair_at 82 s.Cr count rest
    else if character == 68 then pair_at 66 s.Db count rest
    else with_symbol (symbol_of character) count rest

abbrev pub after_character : Option (ℕ × ℕ × List ℕ) → Option (Run × List ℕ)
after_character None = None
after_character (Some x) = run_from x.0 x.1 x.2

-- the run in front, and what comes after it
unfoldable pub run_at : List ℕ → Option (Run × List ℕ)
run_at text = after_character (character_at text)

abbrev pub then_runs : Option (Run × List ℕ) → (Run → List ℕ → Option (List Run)) → Option (List Run)
then_runs None next = None
then_runs (Some x) next = next x.0 x.1

-- Each turn takes a run, so as many turns as there are characters are enough.
unfoldable pub runs_from : ℕ → List Run → List ℕ → Option (List Run)
runs_from turns found [] = Some found
runs_from zero found (byte ∷ more) = None
runs_from (suc turns) found (byte ∷ more) = then_runs (run_at (byte ∷ more)) (λ run rest. runs_from turns (found ++ run ∷ []) rest)

-- the runs of a text, if it is one of symbols and not too long
unfoldable pub runs_of : List ℕ → Option (List Run)
runs_of text = if nat_le (length text) most_characters then runs_from most_characters [] text else None
