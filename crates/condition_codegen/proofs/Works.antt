-- Instructions on data, one after the other.
use Rattle.std.proofs.Common.{◌≡◌, List, [], ◌∷◌, refl, ap}
use Rattle.data_instructions.specs.declared.instruction.DataInstruction.{DataInstruction}
use Rattle.code_image.specs.declared.code.Code.{Code}
use Rattle.condition_codegen.specs.Fragments.{append, in_order}
use Rattle.condition_codegen.specs.DataCode.{work_fragment, works_fragment}

pub works_are : (all : List DataInstruction) (before : Code)
    → in_order work_fragment all before ≡ works_fragment all before
works_are [] before = refl
works_are (one ∷ more) before =
    ap (append (work_fragment one before)) (works_are more (append before (work_fragment one before)))
