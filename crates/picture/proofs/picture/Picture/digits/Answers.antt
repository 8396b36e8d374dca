use Rattle.std.proofs.Common.{◌≤◌, subst}
use Rattle.picture.specs.declared.description.Description.{Description}
use Rattle.picture.proofs.Pictures.{any_digits}
use Rattle.picture.proofs.picture.Picture.digits.Goals as goal

pub returns-clause-most : goal.returns-clause-most
returns-clause-most c =
    subst (λ (p : Description). p.digits ≤ 18) c.self.view_is (any_digits c.self.inside.description c.self.invariant).0
