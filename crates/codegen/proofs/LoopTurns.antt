-- A turn of a loop, with what leads back to its begin.
use Rattle.std.proofs.Common.{◌≡◌, ℕ, length, ap, ◌∙◌}
use Rattle.code_image.specs.declared.code.Code.{Code}
use Rattle.condition_codegen.specs.Fragments.{Fragment, append, sequence}
use Rattle.condition_codegen.specs.Meeting.{branch_code}
use Rattle.codegen.specs.Layout.{turn_end, counted_turn}
use Rattle.codegen.specs.UntilCode.{repetition_fragment}
use Rattle.condition_codegen.proofs.Sequences.{then_piece}

-- of a loop that counts its turns
pub counted_is : (turn : Fragment) (begin to : ℕ) (old turned new : Code) → to ≡ length old.instructions
    → turned ≡ append old (turn old) → new ≡ append turned (turn_end begin to)
    → new ≡ append old (counted_turn begin turn old)
counted_is turn begin to old turned new is p e =
    then_piece turn (λ b. turn_end begin to) old turned new p e
    ∙ ap (λ n. append old (sequence turn (λ b. turn_end begin n) old)) is

-- the same of a loop of which it is known where it begins
pub counted_from : (turn : Fragment) (begin from to : ℕ) (old turned new : Code) → begin ≡ from
    → to ≡ length old.instructions → turned ≡ append old (turn old) → new ≡ append turned (turn_end begin to)
    → new ≡ append old (counted_turn from turn old)
counted_from turn begin from to old turned new b is p e =
    counted_is turn begin to old turned new is p e ∙ ap (λ n. append old (counted_turn n turn old)) b

-- of a loop with a test at the end of each turn
pub turn_repeats : (turn one two : Fragment) (begin : ℕ) (old turned tested after new : Code)
    → begin ≡ length old.instructions → turned ≡ append old (turn old) → tested ≡ append turned (one turned)
    → after ≡ append tested (two tested) → new ≡ append after (branch_code begin)
    → new ≡ append old (repetition_fragment turn (sequence one two) old)
turn_repeats turn one two begin old turned tested after new is p q r e =
    let behind = sequence one two in
    then_piece (sequence turn behind) (λ b. branch_code begin) old after new
    (then_piece turn behind old turned after p (then_piece one two turned tested after q r)) e
    ∙ ap (λ n. append old (sequence (sequence turn behind) (λ b. branch_code n) old)) is
