use Rattle.std.proofs.Common.{◌≡◌, sym, subst, inl, inr, length}
use Rattle.picture.specs.Pictures.{IsWithinBounds}
use Rattle.data_machine.proofs.fitting.has_places.Goals as goal

pub returns : goal.returns
returns c =
    elim c.requires as (λ w. c.args.picture.now.size ≡ length c.args.picture.now.places) [
      | inl edited ↦
          sym ((subst (λ category. IsWithinBounds category c.args.picture.now) edited c.laws.ensures.bounded).0.3)
      | inr numeric ↦
          sym ((subst (λ category. IsWithinBounds category c.args.picture.now) numeric c.laws.ensures.bounded).3)
    ]
