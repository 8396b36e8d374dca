-- The record that a line spells (own choice): its bytes, with spaces up to the record's length. A backslash begins an escape: it is
-- doubled, or `x` and two hexadecimal digits follow. Bytes below 20 and 7f are written as escapes alone.
use Rattle.std.specs.Prelude.{Bool, ◌&&◌, ◌||◌, ◌==◌, nat_lt, nat_le, ℕ, ◌+◌, ◌-◌, ◌*◌, List, [], ◌∷◌, ◌++◌, length, replicate}
use Rattle.std.specs.Prelude.{Option, Some, None, Result, Ok, Err, if◌then◌else◌}
use Rattle.volume_copies.specs.declared.load_end.LineFault.{LineFault}
use Rattle.volume_copies.specs.declared.load_end.LineFault.TheVariants.{Escape, Control, Long}
use Rattle.volume_copies.specs.declared.line_record.EscapeState.{EscapeState}
use Rattle.volume_copies.specs.declared.line_record.EscapeState.TheVariants.{Outside, Backslash, HighDigit, LowDigit}
use Rattle.volume_copies.specs.declared.line_record.ByteStep.{ByteStep}
use Rattle.volume_copies.specs.declared.line_record.ByteStep.TheVariants.{Begins, Spells, Breaks}

abbrev pub backslash : ℕ
backslash = 92

-- a small `x`
abbrev pub hexadecimal_sign : ℕ
hexadecimal_sign = 120

abbrev pub is_control : ℕ → Bool
is_control byte = nat_lt byte 0x20 || (byte == 0x7f)

abbrev pub is_between : ℕ → ℕ → ℕ → Bool
is_between least most byte = nat_le least byte && nat_le byte most

-- the value of 0 to 9, a to f or A to F
abbrev pub digit_value : ℕ → Option ℕ
digit_value byte =
    if is_between 48 57 byte then Some (byte - 48) else
    if is_between 97 102 byte then Some (byte - 87) else
    if is_between 65 70 byte then Some (byte - 55) else None

-- a byte in front of what is spelled
abbrev pub with_byte : ℕ → Result (List ℕ) LineFault → Result (List ℕ) LineFault
with_byte byte (Ok bytes) = Ok (byte ∷ bytes)
with_byte byte (Err fault) = Err fault

-- the byte of two digits
abbrev pub digits_step : Option ℕ → Option ℕ → ByteStep
digits_step (Some high) (Some low) = Spells (high * 16 + low)
digits_step high low = Breaks Escape

-- what a byte does in a state
abbrev pub byte_step : EscapeState → ℕ → ByteStep
byte_step Outside byte = if byte == backslash then Begins Backslash else if is_control byte then Breaks Control else Spells byte
byte_step Backslash byte =
    if byte == backslash then Spells backslash else if byte == hexadecimal_sign then Begins HighDigit else Breaks Escape
byte_step HighDigit byte = Begins (LowDigit byte)
byte_step (LowDigit high) byte = digits_step (digit_value high) (digit_value byte)

-- a line ends outside an escape
abbrev pub end_of_line : EscapeState → Result (List ℕ) LineFault
end_of_line Outside = Ok []
end_of_line Backslash = Err Escape
end_of_line HighDigit = Err Escape
end_of_line (LowDigit high) = Err Escape

abbrev pub after_step : ByteStep → (EscapeState → Result (List ℕ) LineFault) → Result (List ℕ) LineFault
after_step (Begins state) rest = rest state
after_step (Spells byte) rest = with_byte byte (rest Outside)
after_step (Breaks fault) rest = Err fault

-- the bytes that the rest of a line spells
abbrev pub bytes_from : EscapeState → List ℕ → Result (List ℕ) LineFault
bytes_from state [] = end_of_line state
bytes_from state (byte ∷ more) = after_step (byte_step state byte) (λ next. bytes_from next more)

abbrev pub line_bytes : List ℕ → Result (List ℕ) LineFault
line_bytes line = bytes_from Outside line

abbrev pub space : ℕ
space = 32

abbrev pub with_spaces : ℕ → Result (List ℕ) LineFault → Result (List ℕ) LineFault
with_spaces long (Err fault) = Err fault
with_spaces long (Ok bytes) = if nat_lt long (length bytes) then Err Long else Ok (bytes ++ replicate (long - length bytes) space)

-- the record of so many bytes
abbrev pub record_of : ℕ → List ℕ → Result (List ℕ) LineFault
record_of long line = with_spaces long (line_bytes line)
