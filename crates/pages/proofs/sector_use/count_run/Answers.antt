use Rattle.std.proofs.Common.{◌*◌, arith}
use Rattle.pages.proofs.Runs.{run_counted}
use Rattle.pages.proofs.sector_use.count_run.Goals as goal

pub returns : goal.returns
returns c = omega (
  arith,
  run_counted c.args.used.now (1024 * c.args.run) c.min-end.result c.requires.start c.min-end.ensures,
  c.count_free.ensures,
)
