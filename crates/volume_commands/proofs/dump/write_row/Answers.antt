use Rattle.std.proofs.KnownBytes.{Keeps-refl}
use Rattle.volume_commands.proofs.Beginnings.{on_err, begins_with_nothing}
use Rattle.volume_commands.proofs.dump.write_row.Goals as goal

pub returns-in_err-make_line-clause-beginning : goal.returns-in_err-make_line-clause-beginning
returns-in_err-make_line-clause-beginning g c = on_err _ _ (begins_with_nothing _ _ _ (Keeps-refl _))
