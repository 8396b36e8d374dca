-- Images, and why bytes are refused as one.
use Rattle.std.specs.Prelude.{◌≡◌, ◌⊎◌, ℕ, List, [], Ok, Err}
use Rattle.code_image.specs.declared.code.Code.{Code}
use Rattle.data_image.specs.declared.fault.ImageFault.{ImageFault}
use Rattle.code_image.specs.Reading.{code_at}
use Rattle.code_image.specs.Demands.{RefusesCode}
use Rattle.compiler.specs.Images.{IsImageOf}

-- The bytes are the image of some code.
abbrev pub IsImage : List ℕ → Type 0
IsImage image = (code : Code) × IsImageOf image code

-- where they are an image without files
abbrev pub IfImageWithoutFiles : List ℕ → Type 0 → Type 0
IfImageWithoutFiles image claim = (code : Code) → IsImageOf image code → code.files ≡ [] → claim

-- Why bytes are refused as an image: they spell no code, or code that breaks a demand of the machine.
abbrev pub RefusesImage : List ℕ → ImageFault → Type 0
RefusesImage image fault = (code_at image ≡ Err fault) ⊎ ((code : Code) × (code_at image ≡ Ok code) × RefusesCode code fault)
