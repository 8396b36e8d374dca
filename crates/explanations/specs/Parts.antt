-- Parts of a text, by the words and line feeds around them.
use Rattle.std.specs.Prelude.{◌≡◌, ◌+◌, ℕ, List, [], Option, Some, None, length, take, drop}
use Rattle.memchr.specs.Find.{FindsNeedle, IsFirstByte, is_byte}

-- up to before the first `end`, or all of it
abbrev pub before_place : List ℕ → Option ℕ → List ℕ
before_place text None = text
before_place text (Some size) = take size text

abbrev pub IsBefore : List ℕ → List ℕ → List ℕ → Type 0
IsBefore text end part = (place : Option ℕ) × FindsNeedle text end 0 place × (part ≡ before_place text place)

-- what is between the first `begin` and the next `end`, or nothing where `begin` isn't there
abbrev pub IsBetweenAt : List ℕ → List ℕ → List ℕ → Option ℕ → Option (List ℕ) → Type 0
IsBetweenAt text begin end None part = part ≡ None
IsBetweenAt text begin end (Some start) None = ⊥
IsBetweenAt text begin end (Some start) (Some part) = IsBefore (drop (start + length begin) text) end part

abbrev pub IsBetween : List ℕ → List ℕ → List ℕ → Option (List ℕ) → Type 0
IsBetween text begin end part = (place : Option ℕ) × FindsNeedle text begin 0 place × IsBetweenAt text begin end place part

abbrev pub line_feed : ℕ
line_feed = 10

abbrev pub IsFirstLine : List ℕ → List ℕ → Type 0
IsFirstLine text line = (place : Option ℕ) × IsFirstByte (is_byte line_feed) text place × (line ≡ before_place text place)

abbrev pub after_place : List ℕ → Option ℕ → List ℕ
after_place text None = []
after_place text (Some size) = drop (size + 1) text

abbrev pub AreOtherLines : List ℕ → List ℕ → Type 0
AreOtherLines text lines = (place : Option ℕ) × IsFirstByte (is_byte line_feed) text place × (lines ≡ after_place text place)
