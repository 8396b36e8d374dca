-- Why there is no record of a line.
use Rattle.std.specs.Prelude.{Option, Some, None}
use Rattle.volume_copies.specs.declared.load_end.LineFault.{LineFault}
use Rattle.volume_copies.specs.declared.line_record.LineError.{LineError}
use Rattle.volume_copies.specs.declared.line_record.LineError.TheVariants.{Fault, Memory}

abbrev pub line_fault : LineError → Option LineFault
line_fault (Fault fault) = Some fault
line_fault Memory = None
