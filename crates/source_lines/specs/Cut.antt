-- The lines of a text: each ends by a line feed, and a carriage return directly before it is dropped; the last line may lack the
-- line feed (own choice).
use Rattle.std.specs.Prelude.{ℕ, ◌==◌, if◌then◌else◌, List, [], ◌∷◌}
use Rattle.std.specs.List.{onto_first}
use Rattle.std.specs.Str.Lines.{lines_of_parts}

abbrev pub before_part : ℕ → List (List ℕ) → List (List ℕ)
before_part byte parts = if byte == 10 then [] ∷ parts else onto_first byte parts

-- what stands between line feeds
abbrev pub parts : List ℕ → List (List ℕ)
parts [] = [] ∷ []
parts (byte ∷ more) = before_part byte (parts more)

-- the lines in the parts: an empty last part is no line, and only a part before a line feed loses its carriage return
abbrev pub lines : List ℕ → List (List ℕ)
lines source = lines_of_parts (parts source)
