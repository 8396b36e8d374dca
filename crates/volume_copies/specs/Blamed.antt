-- Whose fault a copy meets.
use Rattle.std.specs.Prelude.{Result, Ok, Err}
use Rattle.records.specs.declared.fault.StoreFault.{StoreFault}
use Rattle.volume_copies.specs.declared.copied.VolumeCopy.{VolumeCopy}
use Rattle.volume_copies.specs.declared.copy_error.CopyError.{CopyError}
use Rattle.volume_copies.specs.declared.copy_error.CopyError.TheVariants.{New}

abbrev pub blamed_on_new : Result VolumeCopy StoreFault → Result VolumeCopy CopyError
blamed_on_new (Ok copy) = Ok copy
blamed_on_new (Err fault) = Err (New fault)
