use Rattle.std.proofs.Common.{◌≡◌}
use Rattle.std.proofs.lemmas.Result.{err_from_is_err_and}
use Rattle.volume_commands.proofs.Reading.{reads_refused}
use Rattle.volume_commands.proofs.stat_command.stat_volume.Goals as goal

pub returns-in_err-stat-clause-reads : goal.returns-in_err-stat-clause-reads
returns-in_err-stat-clause-reads g c =
    let p = err_from_is_err_and c.from_residual.result c.from_residual.ensures.1 in
    let same : p.0 ≡ c.in_err-stat.field-0.0 = cc p.2 in
    reads_refused g.D.Device _ _ c.in_err-stat.field-0.0 p.0 c.from_residual.result _ _ p.1 same
    c.in_err-stat.ensures.reads
