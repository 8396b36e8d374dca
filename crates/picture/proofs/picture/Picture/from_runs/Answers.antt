use Rattle.std.proofs.Common.{rules, arith}
use Rattle.std.proofs.lemmas.Grind.{common_steps}
use Rattle.picture.proofs.picture.Picture.from_runs.Goals as goal

pub returns-in_err-description-clause-only : goal.returns-in_err-description-clause-only
returns-in_err-description-clause-only c =
    λ picture h. let o =
    c.in_err-description.ensures.only picture h in first_of (search (rules, o), grind (arith, common_steps, o))
