use Rattle.std.proofs.Common.{◌≡◌, ℕ, ◌+◌, ◌-◌, List, [], ◌∷◌, ◌++◌, length, ap, ◌∙◌, arith, length-append}
use Rattle.std.specs.Prelude.{slice_set}
use Rattle.code_image.specs.declared.code.Code.{Code}
use Rattle.code_image.specs.declared.instruction.Instruction.{Instruction}
use Rattle.code_image.specs.declared.instruction.Instruction.TheVariants.{Branch, Jump, Join}
use Rattle.condition_codegen.specs.Fragments.{append}
use Rattle.condition_codegen.specs.Meeting.{join_code}
use Rattle.condition_codegen.specs.Phrases.{patched_code}
use Rattle.condition_codegen.proofs.Fragments.{joined_nothing}
use Rattle.condition_codegen.proofs.branches.emit_meeting.Goals as goal

joined_length : (old joined : Code) → joined ≡ append old join_code
    → length joined.instructions ≡ length old.instructions + 1
joined_length old joined e =
    ap (λ (c : Code). length c.instructions) e ∙ length-append old.instructions (Join ∷ [])

-- The addresses are set after the last `join`.
patched_so : (old joined : Code) (branched jumped : List Instruction) (branch other end : ℕ)
    → joined ≡ append old join_code → end ≡ length joined.instructions
    → branched ≡ slice_set joined.instructions branch (Branch other)
    → jumped ≡ slice_set branched (other - 2) (Jump end)
    → (let made : Code = record joined { instructions = jumped } in made ≡ patched_code branch other old)
patched_so old joined branched jumped branch other end e n b j =
    let patched =
    λ (l : List Instruction) (to : ℕ). slice_set (slice_set l branch (Branch other)) (other - 2) (Jump to) in
    let instructions : jumped ≡ patched (old.instructions ++ Join ∷ []) (length old.instructions + 1) =
    j ∙ ap (λ l. slice_set l (other - 2) (Jump end)) b ∙ ap (λ (c : Code). patched c.instructions end) e
    ∙ ap (patched (old.instructions ++ Join ∷ [])) (n ∙ joined_length old joined e) in
    let both = patched (old.instructions ++ Join ∷ []) (length old.instructions + 1) in
    let placed = λ (c : Code). record c { instructions = both } in
    ap (λ (l : List Instruction). record joined { instructions = l }) instructions ∙ ap placed e
    ∙ ap placed (joined_nothing old)

pub set-requires : goal.set-requires
set-requires c =
    omega (arith, joined_length c.args.code.now c.emit_instruction.new.code c.in_ok-emit_instruction.ensures)

pub returns : goal.returns
returns c =
    patched_so c.args.code.now c.emit_instruction.new.code c.set.new.self c.set-2.new.self c.args.branch c.args.other
    c.len-end.result c.in_ok-emit_instruction.ensures c.len-end.ensures c.set.ensures c.set-2.ensures
