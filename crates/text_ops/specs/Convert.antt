-- INSPECT CONVERTING (COBOL-85, Nucleus): REPLACING ALL of each character of a text by the character at its place in
-- another one, all with the same limits.
use Rattle.std.specs.Prelude.{ℕ, zero, suc, ◌+◌, ◌==◌, nat_le, ◌&&◌, if◌then◌else◌, List, [], ◌∷◌, Option, Some, None}
use Rattle.text_ops.specs.Beginnings.{text_of}
use Rattle.text_ops.specs.Inspect.{replaced_subject}
use Rattle.text_ops.specs.declared.entry.Span.{Span}
use Rattle.text_ops.specs.declared.entry.Fit.TheVariants as f
use Rattle.text_ops.specs.declared.entry.Entry.{Entry}

-- one character of all texts
abbrev pub character_span : ℕ → Span
character_span at = record { start = at; length = 1 }

-- an entry of REPLACING ALL for one character, with the limits of the whole entry
abbrev pub character_entry : Entry → ℕ → ℕ → Entry
character_entry one from by = record one { fit = f.All (character_span from); by = Some (character_span by) }

-- the same for so many characters, one after another
abbrev pub entries_from : Entry → ℕ → ℕ → ℕ → List Entry
entries_from one from by zero = []
entries_from one from by (suc more) = character_entry one from by ∷ entries_from one (from + 1) (by + 1) more

abbrev pub entries_between : Entry → Option Span → Option Span → List Entry
entries_between one (Some from) (Some by) = entries_from one from.start by.start from.length
entries_between one (Some from) None = []
entries_between one None by = []

-- An entry for each character of the entry's text.
abbrev pub character_entries : Entry → List Entry
character_entries one = entries_between one (text_of one.fit) one.by

-- By the first entry; without one nothing changes.
unfoldable pub converted_subject : List ℕ → List Entry → List ℕ → List ℕ
converted_subject texts [] subject = subject
converted_subject texts (one ∷ more) subject = replaced_subject texts (character_entries one) subject

-- ---- by character and place

-- What a character becomes: the first of two equal characters counts.
abbrev pub character_for : List ℕ → List ℕ → ℕ → ℕ
character_for [] by c = c
character_for (x ∷ from) [] c = c
character_for (x ∷ from) (y ∷ by) c = if x == c then y else character_for from by c

-- The characters of a text from this place on, each with `how` applied if it is within the limits.
abbrev pub changed_within : (ℕ → ℕ) → ℕ → ℕ → ℕ → List ℕ → List ℕ
changed_within how first limit at [] = []
changed_within how first limit at (c ∷ rest) =
    (if nat_le (at + 1) limit && nat_le first at then how c else c) ∷ changed_within how first limit (at + 1) rest
