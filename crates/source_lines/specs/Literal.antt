-- Nonnumeric literals that are open at the end of a line (COBOL-85, Nucleus, "Nonnumeric literals"). A doubled mark inside a
-- literal closes it and opens it again, which comes to the same here.
use Rattle.std.specs.Prelude.{ℕ, ◌==◌, Bool, ◌||◌, if◌then◌else◌, Option, None, Some}
use Rattle.std.specs.List.{fold}
use Rattle.source_lines.specs.declared.line.Line.{Line}
use Rattle.source_lines.specs.declared.lines.Character.{Character}
use Rattle.source_lines.specs.declared.literal.OpenLiteral.{OpenLiteral}
use Rattle.source_lines.specs.Line.{characters}

-- a quotation mark, or an apostrophe (own choice)
abbrev pub is_mark : ℕ → Bool
is_mark byte = byte == 34 || byte == 39

-- the literal that is open after a character
abbrev pub open_after : Option OpenLiteral → Character → Option OpenLiteral
open_after None character = if is_mark character.byte then Some (record { mark = character.byte; opening = character.place }) else None
open_after (Some literal) character = if literal.mark == character.byte then None else Some literal

-- the literal that is open at the end of a line, of which the columns count from this one on
abbrev pub open_at_end : Option OpenLiteral → Line → ℕ → Option OpenLiteral
open_at_end before line from = fold open_after before (characters line from 73)
