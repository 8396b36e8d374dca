-- Reading an image from its first byte on, up to the first fault.
use Rattle.std.specs.Prelude.{ℕ, Bool, true, false, not, List, [], ◌∷◌, length, drop, Result, Ok, Err, nat_eq, ◌==◌, if◌then◌else◌}
use Rattle.std.specs.List.{starts_with}
use Rattle.data_image.specs.declared.fault.ImageFault.{ImageFault}
use Rattle.data_image.specs.declared.fault.ImageFault.TheVariants as faults
use Rattle.data_image.specs.Reading.{ReadResult, ◌>>=◌, byte_at, count_at, short_at, table_at}
use Rattle.data_image.specs.Tables.{tables_at}
use Rattle.data_image.specs.Instructions.{data_instruction_at}
use Rattle.file_image.specs.Spelling.{class_at, verb_at, file_at}
use Rattle.code_image.specs.declared.code.Code.{Code}
use Rattle.code_image.specs.declared.instruction.Instruction.{Instruction}
use Rattle.code_image.specs.declared.instruction.Instruction.TheVariants.{Tick, Show, Stop, Count, CountNumber, Turn, Accept, Date, Branch, Jump, Join, Perform, Back, File, TestStatus, Unheard, Data}
use Rattle.code_image.specs.Spelling.{mark, is_second}

-- whether the mark is that of the second version, and the bytes after it
unfoldable pub mark_at : List ℕ → ReadResult Bool
mark_at bytes =
    if starts_with nat_eq bytes (mark false) then Ok (false, drop 8 bytes)
    else if starts_with nat_eq bytes (mark true) then Ok (true, drop 8 bytes)
    else Err faults.Mark

abbrev pub tick_at : List ℕ → ReadResult Instruction
tick_at bytes = do
  line ← short_at bytes
  Ok (Tick line.0, line.1)

abbrev pub alone_at : Instruction → List ℕ → ReadResult Instruction
alone_at one bytes = Ok (one, bytes)

abbrev pub count_instruction_at : List ℕ → ReadResult Instruction
count_instruction_at bytes = do
  counter ← count_at bytes
  turns ← count_at counter.1
  Ok (Count (record { number = counter.0 }) turns.0, turns.1)

abbrev pub turn_at : List ℕ → ReadResult Instruction
turn_at bytes = do
  counter ← count_at bytes
  to ← count_at counter.1
  Ok (Turn (record { number = counter.0 }) to.0, to.1)

abbrev pub branch_at : List ℕ → ReadResult Instruction
branch_at bytes = do
  to ← count_at bytes
  Ok (Branch to.0, to.1)

abbrev pub jump_at : List ℕ → ReadResult Instruction
jump_at bytes = do
  to ← count_at bytes
  Ok (Jump to.0, to.1)

abbrev pub perform_at : List ℕ → ReadResult Instruction
perform_at bytes = do
  line ← short_at bytes
  first ← count_at line.1
  last ← count_at first.1
  Ok (Perform line.0 (record { number = first.0 }) (record { number = last.0 }), last.1)

abbrev pub back_at : List ℕ → ReadResult Instruction
back_at bytes = do
  paragraph ← count_at bytes
  Ok (Back (record { number = paragraph.0 }), paragraph.1)

abbrev pub count_number_at : List ℕ → ReadResult Instruction
count_number_at bytes = do
  counter ← count_at bytes
  Ok (CountNumber (record { number = counter.0 }), counter.1)

abbrev pub file_instruction_at : List ℕ → ReadResult Instruction
file_instruction_at bytes = do
  file ← byte_at bytes
  verb ← verb_at file.1
  Ok (File (record { number = file.0 }) verb.0, verb.1)

abbrev pub test_status_at : List ℕ → ReadResult Instruction
test_status_at bytes = do
  class ← class_at bytes
  Ok (TestStatus class.0, class.1)

-- an instruction on data, with its first byte
abbrev pub data_at : List ℕ → ReadResult Instruction
data_at bytes = do
  one ← data_instruction_at bytes
  Ok (Data one.0, one.1)

unfoldable pub instruction_at : List ℕ → ReadResult Instruction
instruction_at [] = Err faults.Length
instruction_at (byte ∷ bytes) =
    if byte == 1 then tick_at bytes
    else if byte == 2 then alone_at Show bytes
    else if byte == 3 then alone_at Stop bytes
    else if byte == 4 then count_instruction_at bytes
    else if byte == 5 then turn_at bytes
    else if byte == 6 then alone_at Accept bytes
    else if byte == 7 then alone_at Date bytes
    else if byte == 8 then branch_at bytes
    else if byte == 9 then jump_at bytes
    else if byte == 10 then alone_at Join bytes
    else if byte == 11 then perform_at bytes
    else if byte == 12 then back_at bytes
    else if byte == 13 then count_number_at bytes
    else if byte == 14 then file_instruction_at bytes
    else if byte == 15 then test_status_at bytes
    else if byte == 47 then alone_at Unheard bytes
    else data_at (byte ∷ bytes)

-- the version that a mark says is this
abbrev pub is_version : Bool → Bool → Bool
is_version true second = second
is_version false second = not second

-- The mark is that of the code's version.
abbrev pub with_version : Bool → Code → Result Code ImageFault
with_version second code = if is_version second (is_second code) then Ok code else Err faults.Value

-- all of the bytes
unfoldable pub code_at : List ℕ → Result Code ImageFault
code_at bytes = do
  first ← mark_at bytes
  tables ← tables_at first.1
  files ← table_at file_at tables.1
  starts ← table_at count_at files.1
  instructions ← table_at instruction_at starts.1
  if length instructions.1 == 0 then with_version first.0 (record { tables = tables.0; files = files.0; starts = starts.0; instructions = instructions.0 }) else Err faults.Length
