use Rattle.std.proofs.Common.{sym, ap, ◌∙◌}
use Rattle.std.specs.Prelude.{reverse}
use Rattle.std.proofs.lemmas.List.{reverse-reverse}
use Rattle.data_instructions.proofs.shape.PlaceShapes.same.Goals as goal

pub returns : goal.returns
returns c = (
  λ h. sym c.self.view_is
      ∙ ap reverse (sym c.as_slice.ensures.value ∙ c.same_places.ensures.0 h ∙ c.as_slice-2.ensures.value)
      ∙ c.other.view_is,
  λ e. c.same_places.ensures.1 (c.as_slice.ensures.value ∙ (sym (reverse-reverse c.self.inside.shapes.items)
      ∙ ap reverse (c.self.view_is ∙ e ∙ sym c.other.view_is) ∙ reverse-reverse c.other.inside.shapes.items)
      ∙ sym c.as_slice-2.ensures.value),
)
