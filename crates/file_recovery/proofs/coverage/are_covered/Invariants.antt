use Rattle.std.proofs.Common.{List}
use Rattle.station.specs.Disk.{Sector}
use Rattle.pages.specs.Pages.{map_now}
use Rattle.file_recovery.proofs.Strays.{CoveredBelow}
use Rattle.file_recovery.proofs.coverage.are_covered.Given as goal

abbrev pub invariant-loop-page : goal.invariant-loop-page
invariant-loop-page l = (image : List Sector) → CoveredBelow (map_now l.pages image).pages l.seen l.page
