-- The parts of an image, one after the other.
use Rattle.std.proofs.Common.{ℕ, eqb, cond, List, length, Result, Ok, Err}
use Rattle.std.specs.Prelude.{Bool}
use Rattle.data_instructions.specs.declared.tables.DataTables.{DataTables}
use Rattle.data_image.specs.declared.fault.ImageFault.{ImageFault}
use Rattle.data_image.specs.declared.fault.ImageFault.TheVariants as faults
use Rattle.data_image.specs.Spelling.{count_bytes, table_bytes, IsCount, AreSpelled}
use Rattle.data_image.specs.Reading.{◌>>=◌, count_at, table_at}
use Rattle.data_image.specs.Tables.{tables_at}
use Rattle.data_image.proofs.Forms.{IsForm}
use Rattle.data_image.proofs.Numbers.{count_form}
use Rattle.data_image.proofs.TableForms.{table_form}
use Rattle.file_image.specs.declared.file.CodeFile.{CodeFile}
use Rattle.file_image.specs.Spelling.{file_bytes, file_at, IsFileSpelled}
use Rattle.file_image.proofs.FileForms.{file_form}
use Rattle.code_image.specs.declared.code.Code.{Code}
use Rattle.code_image.specs.declared.instruction.Instruction.{Instruction}
use Rattle.code_image.specs.Spelling.{instruction_bytes, HasNumbers}
use Rattle.code_image.specs.Reading.{instruction_at, with_version}
use Rattle.code_image.proofs.Forms.{instruction_form}

-- reading from each part on
abbrev pub end_from : Bool → DataTables → List CodeFile → List ℕ → List Instruction × List ℕ → Result Code ImageFault
end_from second tables files starts x = cond (eqb (length x.1) 0)
    (with_version second (record { tables = tables; files = files; starts = starts; instructions = x.0 }))
    (Err faults.Length)

abbrev pub instructions_from : Bool → DataTables → List CodeFile → List ℕ × List ℕ → Result Code ImageFault
instructions_from second tables files x = table_at instruction_at x.1 >>= end_from second tables files x.0

abbrev pub starts_from : Bool → DataTables → List CodeFile × List ℕ → Result Code ImageFault
starts_from second tables x = table_at count_at x.1 >>= instructions_from second tables x.0

abbrev pub files_from : Bool → DataTables × List ℕ → Result Code ImageFault
files_from second x = table_at file_at x.1 >>= starts_from second x.0

abbrev pub tables_from : Bool × List ℕ → Result Code ImageFault
tables_from x = tables_at x.1 >>= files_from x.0

pub file_table : IsForm (table_at file_at) (table_bytes file_bytes) (AreSpelled IsFileSpelled)
file_table = table_form file_at file_bytes IsFileSpelled file_form

pub start_table : IsForm (table_at count_at) (table_bytes count_bytes) (AreSpelled IsCount)
start_table = table_form count_at count_bytes IsCount count_form

pub instruction_table : IsForm (table_at instruction_at) (table_bytes instruction_bytes) (AreSpelled HasNumbers)
instruction_table = table_form instruction_at instruction_bytes HasNumbers instruction_form
