-- The characters of a source text as a function: its lines are read from the first on.
use Rattle.std.specs.Prelude.{ℕ, ◌+◌, ◌||◌, ◌&&◌, not, ◌==◌, nat_lt, nat_le, if◌then◌else◌, List, [], ◌∷◌, ◌++◌, length, Option, None, Some, Result, Ok, Err}
use Rattle.source_lines.specs.declared.fault.SourceFault.{SourceFault}
use Rattle.source_lines.specs.declared.fault.FaultKind.{FaultKind}
use Rattle.source_lines.specs.declared.fault.FaultKind.TheVariants.{ByteOutsideCharacterSet, WrongContinuation, SourceTooLarge, UnclosedLiteral}
use Rattle.source_lines.specs.declared.indicator.Indicator.{Indicator}
use Rattle.source_lines.specs.declared.indicator.Indicator.TheVariants.{Plain, Comment, Continuation}
use Rattle.source_lines.specs.declared.line.Line.{Line}
use Rattle.source_lines.specs.declared.lines.Character.{Character}
use Rattle.source_lines.specs.declared.literal.OpenLiteral.{OpenLiteral}
use Rattle.source_lines.specs.declared.reader.Before.{Before}
use Rattle.source_lines.specs.declared.reader.Before.TheVariants.{Nothing, LineEnd, Open, Dropped}
use Rattle.source_lines.specs.declared.reader.Reader.{Reader}
use Rattle.source_lines.specs.Cut.{lines}
use Rattle.source_lines.specs.Indicator.{indicator_of}
use Rattle.source_lines.specs.Line.{line, byte, place_in_line, fault, characters, first_nonblank, last_nonblank, first_outside, is_in_character_set}
use Rattle.source_lines.specs.Literal.{is_mark, open_at_end}
use Rattle.source_lines.specs.Paragraph.{begins_dropped}

-- the characters so far with what stands before the next line, or the fault that was met
abbrev pub Step : Type 0
Step = Result Reader SourceFault

abbrev pub refusal_step : Line → FaultKind → ℕ → Step
refusal_step line kind column = Err (fault line kind column)

abbrev pub unclosed_fault : OpenLiteral → SourceFault
unclosed_fault literal = record { kind = UnclosedLiteral; place = literal.opening }

abbrev pub at_start : Reader
at_start = record { characters = []; before = Nothing }

-- ---- what a line gives

abbrev pub with_columns : Line → ℕ → ℕ → Reader → Reader
with_columns line from end reader = record { characters = reader.characters ++ characters line from end; before = reader.before }

abbrev pub line_end : Before → List Character
line_end (LineEnd place) = record { byte = 32; place = place } ∷ []
line_end _ = []

-- A line's end counts as a space.
abbrev pub with_line_end : Reader → Reader
with_line_end reader = record { characters = reader.characters ++ line_end reader.before; before = reader.before }

-- With a literal open at its end a line runs through column 72. Else it counts up to its last nonblank (own choice).
abbrev pub characters_through : Line → ℕ → Option OpenLiteral → Reader → Reader
characters_through line from None reader = record {
  characters = reader.characters ++ characters line from (last_nonblank line + 1);
  before = LineEnd (place_in_line line (last_nonblank line + 1));
}
characters_through line from (Some literal) reader = record { characters = reader.characters ++ characters line from 73; before = Open literal }

abbrev pub unless_outside : Line → Option ℕ → Reader → Step
unless_outside line None reader = Ok reader
unless_outside line (Some column) reader = refusal_step line ByteOutsideCharacterSet column

-- a line from a column on, where this literal is open before it
unfoldable pub line_step : Line → ℕ → Option OpenLiteral → Reader → Step
line_step line from literal reader = unless_outside line (first_outside line) (characters_through line from (open_at_end literal line from) reader)

-- ---- plain lines

-- a plain line that stands at no end of an open literal, in no dropped paragraph
unfoldable pub plain_line_step : Line → ℕ → Reader → Step
plain_line_step line first reader =
    if begins_dropped line first then Ok (record { characters = reader.characters; before = Dropped })
    else line_step line 8 None reader

abbrev pub plain_after : Before → Line → ℕ → Reader → Step
plain_after Nothing line first reader = plain_line_step line first reader
plain_after (LineEnd _) line first reader = plain_line_step line first (with_line_end reader)
plain_after (Open literal) line first reader = Err (unclosed_fault literal)
plain_after Dropped line first reader = if nat_lt first 12 then plain_line_step line first reader else Ok reader

-- a blank line is skipped
abbrev pub plain_at : Option ℕ → Line → Reader → Step
plain_at None line reader = Ok reader
plain_at (Some first) line reader = plain_after reader.before line first reader

unfoldable pub after_plain : Line → Reader → Step
after_plain line reader = plain_at (first_nonblank line) line reader

-- ---- continuations

abbrev pub line_continued_at : Option ℕ → Line → Reader → Step
line_continued_at None line reader = refusal_step line WrongContinuation 7
line_continued_at (Some first) line reader =
    if nat_lt first 12 && is_mark (byte line first) then refusal_step line WrongContinuation first
    else line_step line first None reader

-- Without an open literal the first nonblank follows the last nonblank of the line before.
unfoldable pub line_continued : Line → Reader → Step
line_continued line reader = line_continued_at (first_nonblank line) line reader

abbrev pub literal_continued_at : Option ℕ → Line → OpenLiteral → Reader → Step
literal_continued_at None line literal reader = refusal_step line WrongContinuation 7
literal_continued_at (Some first) line literal reader =
    if not (is_in_character_set (byte line first)) then refusal_step line ByteOutsideCharacterSet first
    else if nat_lt first 12 || not (byte line first == literal.mark) then refusal_step line WrongContinuation first
    else line_step line (first + 1) (Some literal) reader

-- An open literal goes on after its mark, which is the first nonblank and in area B.
unfoldable pub literal_continued : Line → OpenLiteral → Reader → Step
literal_continued line literal reader = literal_continued_at (first_nonblank line) line literal reader

abbrev pub continuation_after : Before → Line → Reader → Step
continuation_after Nothing line reader = refusal_step line WrongContinuation 7
continuation_after (LineEnd _) line reader = line_continued line reader
continuation_after (Open literal) line reader = literal_continued line literal reader
continuation_after Dropped line reader = Ok reader

unfoldable pub after_continuation : Line → Reader → Step
after_continuation line reader = continuation_after reader.before line reader

-- ---- lines and texts

abbrev pub after_indicator : Result Indicator FaultKind → Line → Reader → Step
after_indicator (Ok Plain) line reader = after_plain line reader
after_indicator (Ok Comment) line reader = Ok reader
after_indicator (Ok Continuation) line reader = after_continuation line reader
after_indicator (Err kind) line reader = refusal_step line kind 7

unfoldable pub after_line : Line → Reader → Step
after_line line reader = after_indicator (indicator_of (byte line 7)) line reader

abbrev pub and_then : {A B : Type 0} → Result A SourceFault → (A → Result B SourceFault) → Result B SourceFault
and_then (Ok x) next = next x
and_then (Err fault) next = Err fault

unfoldable pub after_lines : List Line → Reader → Step
after_lines [] reader = Ok reader
after_lines (line ∷ more) reader = and_then (after_line line reader) (after_lines more)

abbrev pub text_at_end : Before → List Character → Result (List Character) SourceFault
text_at_end (Open literal) characters = Err (unclosed_fault literal)
text_at_end before characters = Ok (characters ++ line_end before)

-- the characters once each line was read
abbrev pub at_end : Reader → Result (List Character) SourceFault
at_end reader = text_at_end reader.before reader.characters

-- the lines of a text, numbered on from this one
abbrev pub numbered_lines : ℕ → List (List ℕ) → List Line
numbered_lines number [] = []
numbered_lines number (bytes ∷ more) = line number bytes ∷ numbered_lines (number + 1) more

abbrev pub lines_of : List ℕ → List Line
lines_of source = numbered_lines 1 (lines source)

abbrev pub too_large : SourceFault
too_large = record { kind = SourceTooLarge; place = record { line = 1; column = 1 } }

-- the characters of a source text, or its first fault from the left; at most 8,000,000 bytes (own choice)
unfoldable pub characters_of : List ℕ → Result (List Character) SourceFault
characters_of source =
    if nat_le (length source) 8000000 then and_then (after_lines (lines_of source) at_start) at_end else Err too_large
