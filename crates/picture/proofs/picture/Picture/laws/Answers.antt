use Rattle.std.proofs.Common.{subst}
use Rattle.picture.specs.Pictures.{IsBounded}
use Rattle.picture.specs.Regions.{IsEditingPicture}
use Rattle.picture.proofs.Pictures.{any_bounded}
use Rattle.picture.proofs.Regions.{any_editing}
use Rattle.picture.proofs.picture.Picture.laws.Goals as goal

pub returns-clause-bounded : goal.returns-clause-bounded
returns-clause-bounded c = subst IsBounded c.self.view_is (any_bounded c.self.inside.description c.self.invariant)

pub returns-clause-editing : goal.returns-clause-editing
returns-clause-editing c =
    subst IsEditingPicture c.self.view_is (any_editing c.self.inside.description c.self.invariant)
