use Rattle.std.proofs.Common.{◌≡◌, ℕ, List, subst, IfOk, ◌∙◌}
use Rattle.condition_codegen.proofs.NewBytes.{first_bytes, first_marks}
use Rattle.condition_codegen.proofs.overlays.first_overlay.Goals as goal

pub returns-in_ok-set_value-in-Some-clause-bytes : goal.returns-in_ok-set_value-in-Some-clause-bytes
returns-in_ok-set_value-in-Some-clause-bytes c =
    subst (λ (l : List ℕ). IfOk c.marked_bytes.result (λ made. made.bytes ≡ l))
    (c.in_ok-set_value-in-Some.ensures
    ∙ first_bytes c.args.item c.args.values.now c.in-Some.one.now c.in-Some.ensures.value)
    c.marked_bytes.ensures.bytes

pub returns-in_ok-set_value-in-Some-clause-marks : goal.returns-in_ok-set_value-in-Some-clause-marks
returns-in_ok-set_value-in-Some-clause-marks c =
    subst (λ (l : List ℕ). IfOk c.marked_bytes.result (λ made. made.marks ≡ l))
    (first_marks c.args.item c.args.values.now c.in-Some.one.now c.in_ok-set_value-in-Some.field-0
    c.in-Some.ensures.value c.in_ok-set_value-in-Some.ensures)
    c.marked_bytes.ensures.marks
