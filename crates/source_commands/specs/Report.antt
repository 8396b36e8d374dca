-- The report about a place of a source text, in the form that editors read.
use Rattle.std.specs.Prelude.{ℕ, ◌-◌, List, [], ◌∷◌, ◌++◌, Option, None, Some, codes, decimal, map, replicate}
use Rattle.lexical.specs.declared.place.Place.{Place}
use Rattle.source_advice.specs.Lines.{shown_byte, shown_line}

abbrev pub line_feed : ℕ
line_feed = 10

abbrev pub place_text : List ℕ → Place → List ℕ
place_text name place = name ++ codes ":" ++ decimal place.line ++ codes ":" ++ decimal place.column ++ codes ": "

abbrev pub kind_text : Option ℕ → List ℕ
kind_text None = codes "warning: "
kind_text (Some number) = codes "error: "

abbrev pub fault_text : Option ℕ → List ℕ
fault_text None = line_feed ∷ []
fault_text (Some number) = codes " [fault " ++ decimal number ++ codes "]" ++ line_feed ∷ []

-- the line of a place, and a caret below its column
abbrev pub line_text : List ℕ → Place → List ℕ
line_text source place =
    shown_line source place.line ++ line_feed ∷ [] ++ replicate (place.column - 1) 32 ++ codes "^\n"

-- What is said of a place of a source text of this name: of a fault if there is a number.
abbrev pub report : List ℕ → List ℕ → Place → Option ℕ → List ℕ → List ℕ → List ℕ
report name source place number message cure =
    place_text name place ++ kind_text number ++ map shown_byte message ++ fault_text number
    ++ line_text source place ++ cure
