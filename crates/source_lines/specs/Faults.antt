-- The faults of a source text.
use Rattle.std.specs.Prelude.{ℕ, Option, None, Some}
use Rattle.source_lines.specs.declared.fault.SourceFault.{SourceFault}
use Rattle.source_lines.specs.declared.fault.FaultKind.{FaultKind}
use Rattle.source_lines.specs.declared.fault.FaultKind.TheVariants.{ByteOutsideCharacterSet, UnknownIndicator, WrongContinuation, SourceTooLarge, UnclosedLiteral}
use Rattle.source_lines.specs.declared.fault.SourceError.{SourceError}
use Rattle.source_lines.specs.declared.fault.SourceError.TheVariants.{Memory, Refused}

-- the fault of an error, or none where memory ran out
abbrev pub fault_of : SourceError → Option SourceFault
fault_of Memory = None
fault_of (Refused fault) = Some fault

-- the number that the product prints (own choice)
abbrev pub number_of : FaultKind → ℕ
number_of ByteOutsideCharacterSet = 10
number_of UnknownIndicator = 11
number_of WrongContinuation = 12
number_of SourceTooLarge = 13
number_of UnclosedLiteral = 14
