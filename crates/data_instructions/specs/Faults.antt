-- The faults that end a run, and their numbers (own choice).
use Rattle.std.specs.Prelude.{ℕ}
use Rattle.source_tree.specs.Evaluated as evaluated
use Rattle.source_tree.specs.Evaluated.{Fault}
use Rattle.data_instructions.specs.declared.fault.ProgramFault.{ProgramFault}
use Rattle.data_instructions.specs.declared.fault.ProgramFault.TheVariants as faults

-- the fault of the meaning
abbrev pub fault_of : ProgramFault → Fault
fault_of faults.Data = evaluated.Data
fault_of faults.Subscript = evaluated.Subscript
fault_of faults.Part = evaluated.Part
fault_of faults.FileStatus = evaluated.FileStatus

abbrev pub fault_number : Fault → ℕ
fault_number evaluated.Data = 90
fault_number evaluated.Subscript = 91
fault_number evaluated.FileStatus = 92
fault_number evaluated.Part = 93
