-- The faults of images.
use Rattle.std.specs.Prelude.{ℕ, Option, None, Some}
use Rattle.data_image.specs.declared.fault.ImageFault.{ImageFault}
use Rattle.data_image.specs.declared.fault.ImageFault.TheVariants as faults
use Rattle.data_image.specs.declared.fault.ImageError.{ImageError}
use Rattle.data_image.specs.declared.fault.ImageError.TheVariants.{Memory, Refused}

-- the fault of an error, or none where memory ran out
abbrev pub fault_of : ImageError → Option ImageFault
fault_of Memory = None
fault_of (Refused fault) = Some fault

-- the number that the product prints (own choice)
abbrev pub number_of : ImageFault → ℕ
number_of faults.Mark = 70
number_of faults.Length = 71
number_of faults.Value = 72
number_of faults.Index = 73
number_of faults.Shape = 74
