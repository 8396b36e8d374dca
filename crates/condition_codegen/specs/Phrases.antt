-- Where two ways meet, in code whose branch and jump led nowhere yet.
use Rattle.std.specs.Prelude.{ℕ, ◌+◌, ◌-◌, List, [], ◌∷◌, ◌++◌, length, slice_set}
use Rattle.code_image.specs.declared.code.Code.{Code}
use Rattle.code_image.specs.declared.instruction.Instruction.{Instruction}
use Rattle.code_image.specs.declared.instruction.Instruction.TheVariants.{Branch, Jump, Join}

-- The branch at the first address leads to the second, and the jump in front of that one, which a `join` follows, after the last `join`.
abbrev pub patched_instructions : ℕ → ℕ → List Instruction → List Instruction
patched_instructions branch other all = slice_set (slice_set (all ++ Join ∷ []) branch (Branch other)) (other - 2) (Jump (length all + 1))

abbrev pub patched_code : ℕ → ℕ → Code → Code
patched_code branch other code = record code { instructions = patched_instructions branch other code.instructions }
