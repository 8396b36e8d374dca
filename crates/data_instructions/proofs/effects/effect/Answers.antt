use Rattle.std.proofs.Common.{◌≡◌, ◌∙◌, ap, Option, ℕ}
use Rattle.items.specs.declared.taken.Taken.{Taken}
use Rattle.data_instructions.specs.declared.shape.PlaceShape.{PlaceShape}
use Rattle.data_instructions.specs.declared.shape.Stacks.{Stacks}
use Rattle.data_instructions.specs.Shapes as spec
use Rattle.data_instructions.proofs.effects.effect.Goals as goal

same_parts : (s s' : Option Stacks) (l l' : Option ℕ) (t t' : Option (Option Taken)) → s ≡ s' → l ≡ l' → t ≡ t'
    → spec.shape_with s l t ≡ spec.shape_with s' l' t'
same_parts s s' l l' t t' stacks line sender =
    ap (λ x. spec.shape_with x l t) stacks ∙ ap (λ x. spec.shape_with s' x t) line ∙ ap (spec.shape_with s' l') sender

pub returns : goal.returns
returns c =
    let tables = c.args.tables.now in
    let one = c.args.one in
    let s = c.args.shape in
    c.shape_with.ensures
    ∙ same_parts _ _ _ _ _ _ c.in_ok-stacks.ensures c.in_ok-line.ensures c.sender_after-sender.ensures
    ∙ ap (λ (newest : Option PlaceShape). spec.shape_with (spec.stacks_after tables one s.stacks)
    (spec.line_after tables one newest s.line) (spec.sender_after tables one newest s.sender)) c.newest-newest.ensures
