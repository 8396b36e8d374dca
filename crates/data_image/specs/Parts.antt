-- Instructions that make parts, in an image (own choice).
use Rattle.std.specs.Prelude.{ℕ, List, [], ◌∷◌}
use Rattle.data_instructions.specs.declared.part.Part.{Part}
use Rattle.data_instructions.specs.declared.part.Part.TheVariants as p
use Rattle.data_instructions.specs.declared.instruction.DataInstruction.{DataInstruction}
use Rattle.data_instructions.specs.declared.instruction.DataInstruction.TheVariants as i
use Rattle.data_image.specs.Spelling.{short_bytes, FitsFourBytes}

abbrev pub part_bytes : Part → List ℕ
part_bytes (p.Fixed size) = 70 ∷ short_bytes size
part_bytes p.Counted = 71 ∷ []
part_bytes p.Rest = 72 ∷ []

abbrev pub HasSize : Part → Type 0
HasSize (p.Fixed size) = FitsFourBytes size
HasSize p.Counted = Unit {0}
HasSize p.Rest = Unit {0}

-- ---- reading

abbrev pub part_fixed : ℕ → DataInstruction
part_fixed size = i.Part (p.Fixed size)
