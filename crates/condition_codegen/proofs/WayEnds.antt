-- Addresses of branches and jumps are within the code where their ways end.
use Rattle.std.proofs.Common.{◌≡◌, ℕ, ◌+◌, ◌<◌, ◌≤◌, length, ap, ◌∙◌, length-append, [], ◌∷◌, arith}
use Rattle.code_image.specs.declared.code.Code.{Code}
use Rattle.code_image.specs.declared.instruction.Instruction.TheVariants.{Branch, Jump, Join}
use Rattle.condition_codegen.specs.Fragments.{Fragment, append}
use Rattle.condition_codegen.specs.Meeting.{branch_code, jump_code}

branch_adds : (before begun : Code) → begun ≡ append before (branch_code 0)
    → length begun.instructions ≡ length before.instructions + 1
branch_adds before begun p =
    ap (λ (k : Code). length k.instructions) p ∙ length-append before.instructions (Branch 0 ∷ [])

pub jump_adds : (before middle : Code) → middle ≡ append before (jump_code 0)
    → length middle.instructions ≡ length before.instructions + 2
jump_adds before middle p =
    ap (λ (k : Code). length k.instructions) p ∙ length-append before.instructions (Jump 0 ∷ Join ∷ [])

piece_adds : (piece : Fragment) (before after : Code) → after ≡ append before (piece before)
    → length after.instructions ≡ length before.instructions + length (piece before).instructions
piece_adds piece before after p =
    ap (λ (k : Code). length k.instructions) p ∙ length-append before.instructions (piece before).instructions

-- of a branch before a piece
pub branch_within : (piece : Fragment) (before begun one : Code) (branch : ℕ) → begun ≡ append before (branch_code 0)
    → branch ≡ length before.instructions → one ≡ append begun (piece begun) → branch < length one.instructions
branch_within piece before begun one branch p q r =
    let a = branch_adds before begun p in
    let b = piece_adds piece begun one r in
    omega (arith, a, b, q)

-- of a branch and a jump right after it, before a piece
pub both_within : (piece : Fragment) (before begun middle two : Code) (branch other : ℕ)
    → begun ≡ append before (branch_code 0) → branch ≡ length before.instructions
    → middle ≡ append begun (jump_code 0) → other ≡ length begun.instructions + 2
    → two ≡ append middle (piece middle)
    → (branch < length two.instructions) × (2 ≤ other) × (other ≤ length two.instructions)
both_within piece before begun middle two branch other p q r s t =
    let a = branch_adds before begun p in
    let b = jump_adds begun middle r in
    let d = piece_adds piece middle two t in
    (omega (arith, a, b, d, q), omega (arith, s), omega (arith, b, d, s))
