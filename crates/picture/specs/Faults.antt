-- The faults of pictures.
use Rattle.std.specs.Prelude.{ℕ, Option, Some, None, Result, Ok, Err}
use Rattle.picture.specs.declared.fault.PictureFault.{PictureFault}
use Rattle.picture.specs.declared.fault.PictureFault.TheVariants.{NoForm}
use Rattle.picture.specs.declared.fault.PictureError.{PictureError}
use Rattle.picture.specs.declared.fault.PictureError.TheVariants.{Memory, Refused}

abbrev pub number_of : PictureFault → ℕ
number_of NoForm = 20

-- the fault of an error, or none where memory ran out
abbrev pub fault_of : PictureError → Option PictureFault
fault_of Memory = None
fault_of (Refused fault) = Some fault

-- What has been found, or the fault of a picture without a form.
abbrev pub or_no_form : {A : Type 0} → Option A → Result A PictureFault
or_no_form None = Err NoForm
or_no_form (Some a) = Ok a
