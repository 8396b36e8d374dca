-- Two ways that meet (own choice).
use Rattle.std.specs.Prelude.{ℕ, ◌+◌, [], ◌∷◌, length}
use Rattle.code_image.specs.declared.code.Code.{Code}
use Rattle.code_image.specs.declared.instruction.Instruction.TheVariants.{Branch, Jump, Join}
use Rattle.condition_codegen.specs.Fragments.{Fragment, empty_code, append, plain_code}

abbrev pub branch_code : ℕ → Code
branch_code to = plain_code (Branch to ∷ [])

abbrev pub jump_code : ℕ → Code
jump_code to = plain_code (Jump to ∷ Join ∷ [])

abbrev pub join_code : Code
join_code = plain_code (Join ∷ [])

-- Where the truth is true, the first piece; else the second. Both ways meet after the last `join`. While the first piece is made, the
-- place of the second isn't known, and 0 stands for it; no piece depends on it.
abbrev pub either_fragment : Fragment → Fragment → Fragment
either_fragment first second before =
    let one = first (append before (branch_code 0)) in
    let middle = append (branch_code 0) (append one (jump_code 0)) in
    let two = second (append before middle) in
    let other = length (append before middle).instructions in
    let end = length (append (append before middle) two).instructions + 1 in
    append (branch_code other) (append one (append (jump_code end) (append two join_code)))

-- a way without anything
abbrev pub nothing_fragment : Fragment
nothing_fragment before = empty_code
