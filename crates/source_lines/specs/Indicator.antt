-- The indicator area, column 7 (COBOL-85, Section IV, "Reference format": comment lines, debugging lines, continuation of lines).
use Rattle.std.specs.Prelude.{ℕ, ◌==◌, ◌||◌, if◌then◌else◌, Result, Ok, Err}
use Rattle.source_lines.specs.declared.fault.FaultKind.{FaultKind}
use Rattle.source_lines.specs.declared.fault.FaultKind.TheVariants.{ByteOutsideCharacterSet, UnknownIndicator}
use Rattle.source_lines.specs.declared.indicator.Indicator.{Indicator}
use Rattle.source_lines.specs.declared.indicator.Indicator.TheVariants.{Plain, Comment, Continuation}
use Rattle.source_lines.specs.Line.{is_in_character_set}

-- A space makes a plain line, a hyphen a continuation; an asterisk or a slant makes a comment line. A debugging line (D, or own
-- choice d) is a comment line here (own choice). Another byte is a fault (own choice).
abbrev pub indicator_of : ℕ → Result Indicator FaultKind
indicator_of byte =
    if byte == 32 then Ok Plain
    else if byte == 42 || byte == 47 || byte == 68 || byte == 100 then Ok Comment
    else if byte == 45 then Ok Continuation
    else if is_in_character_set byte then Err UnknownIndicator
    else Err ByteOutsideCharacterSet
