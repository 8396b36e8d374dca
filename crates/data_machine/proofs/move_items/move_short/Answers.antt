use Rattle.std.proofs.Common.{rules, FitsSigned, ◌∙◌}
use Rattle.std.specs.Int.{w64}
use Rattle.std.proofs.lemmas.Int.{to_z-of_z}
use Rattle.data_machine.proofs.ShortNumbers.{received_fitted}
use Rattle.data_machine.proofs.move_items.move_short.Goals as goal

pub returns-in-Some : goal.returns-in-Some
returns-in-Some c =
    let fits : FitsSigned w64 c.in-Some.coefficient = search rules in
    simp to_z-of_z at c.put_short.ensures
    ∙ received_fitted c.args.receiver c.args.x c.in-Some.coefficient c.in-Some.ensures.fits
