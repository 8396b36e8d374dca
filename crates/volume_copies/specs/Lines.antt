-- The lines of a text.
use Rattle.std.specs.Prelude.{◌==◌, ℕ, List, [], ◌∷◌, if◌then◌else◌}

abbrev pub line_feed : ℕ
line_feed = 10

-- a byte in front of the first line
abbrev pub with_first : ℕ → List (List ℕ) → List (List ℕ)
with_first byte [] = (byte ∷ []) ∷ []
with_first byte (line ∷ lines) = (byte ∷ line) ∷ lines

-- A line ends with a line feed, or with the text.
abbrev pub lines_of : List ℕ → List (List ℕ)
lines_of [] = []
lines_of (byte ∷ more) = if byte == line_feed then [] ∷ lines_of more else with_first byte (lines_of more)
