use Rattle.std.proofs.Common.{arith}
use Rattle.pages.specs.Runs.{used_flags}
use Rattle.pages.proofs.Runs.{room_counted, below_all}
use Rattle.pages.proofs.sector_use.count_between.Goals as goal

pub returns-in-Some : goal.returns-in-Some
returns-in-Some c =
    let got = c.in-Some.ensures.lookup.0 in
    omega
    (arith, room_counted c.args.used.now c.in-Some.sectors.now c.args.start c.args.end got.2, c.count_bytes.ensures)

pub returns-in-None : goal.returns-in-None
returns-in-None c = omega (arith, below_all (used_flags c.args.used.now) c.args.start)
