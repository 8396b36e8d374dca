use Rattle.std.proofs.Common.{subst}
use Rattle.picture.specs.Pictures.{IsWithinBounds}
use Rattle.edited_move.proofs.move_statement.text_places.Goals as goal

pub returns : goal.returns
returns c = (subst (λ category. IsWithinBounds category c.args.picture.now) c.requires c.laws.ensures.bounded).2
