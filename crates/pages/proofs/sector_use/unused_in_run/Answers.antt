use Rattle.std.proofs.Common.{arith}
use Rattle.pages.specs.Runs.{used_flags}
use Rattle.pages.proofs.Runs.{length_marked, run_full}
use Rattle.pages.proofs.sector_use.unused_in_run.Goals as goal

pub returns-then-counts-run-eq0-clause-full : goal.returns-then-counts-run-eq0-clause-full
returns-then-counts-run-eq0-clause-full c = λ t after from below there.
    run_full (used_flags c.args.used.now) c.args.counts.now c.requires.runs c.args.run t c.requires.run
    c.if-counts-run-eq0.true from below (omega (arith, length_marked c.args.used.now))
