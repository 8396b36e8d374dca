-- Which runs a text of at most 30 characters can spell, by the shortest text of each (COBOL-85, Nucleus, the PICTURE clause,
-- general rules).
use Rattle.std.specs.Prelude.{ℕ, zero, suc, ◌+◌, ◌-◌, ◌/◌, ◌%◌, ◌^◌, ◌==◌, Bool, true, false, ◌&&◌, List, [], ◌∷◌, ◌++◌, length, nat_le, nat_lt, if◌then◌else◌}
use Rattle.picture.specs.declared.run.Run.{Run}
use Rattle.picture.specs.declared.symbol.Symbol.{Symbol}
use Rattle.picture.specs.declared.symbol.Symbol.TheVariants as s
use Rattle.picture.specs.Text.{letter, left_parenthesis, right_parenthesis, most_characters}

-- The digits of a count that stands in such a text, beside a symbol and two parentheses.
abbrev pub most_count_digits : ℕ
most_count_digits = 27

abbrev pub count_most : ℕ
count_most = 10 ^ most_count_digits

-- A number of at most so many digits, without leading zeros.
unfoldable pub decimal : ℕ → ℕ → List ℕ
decimal zero number = []
decimal (suc most) number = if nat_lt number 10 then (48 + number) ∷ [] else decimal most (number / 10) ++ (48 + number % 10) ∷ []

-- What follows a symbol that comes so often.
abbrev pub repeat_count_text : ℕ → List ℕ
repeat_count_text count = if count == 1 then [] else left_parenthesis ∷ (decimal most_count_digits count ++ right_parenthesis ∷ [])

abbrev pub is_pair : Symbol → Bool
is_pair s.Cr = true
is_pair s.Db = true
is_pair _ = false

abbrev pub letters : Symbol → List ℕ
letters s.Cr = 67 ∷ 82 ∷ []
letters s.Db = 68 ∷ 66 ∷ []
letters symbol = letter symbol ∷ []

abbrev pub run_text : Run → List ℕ
run_text run = letters run.symbol ++ repeat_count_text run.count

-- The count of a symbol: 1 of CR and DB.
abbrev pub can_repeat : Symbol → ℕ → Bool
can_repeat symbol count = nat_le 1 count && nat_lt count (if is_pair symbol then 2 else count_most)

-- The runs can be spelled in so many characters.
unfoldable pub fit_in : ℕ → List Run → Bool
fit_in room [] = true
fit_in room (run ∷ more) =
    can_repeat run.symbol run.count && nat_le (length (run_text run)) room && fit_in (room - length (run_text run)) more

abbrev pub are_spelled : List Run → Bool
are_spelled runs = fit_in most_characters runs

-- The text of the runs: of each the symbol, and its count in parentheses where that isn't 1.
abbrev pub spelling_of : List Run → List ℕ
spelling_of [] = []
spelling_of (run ∷ more) = run_text run ++ spelling_of more
