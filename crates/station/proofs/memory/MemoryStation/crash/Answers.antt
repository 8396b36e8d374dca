use Rattle.std.proofs.Common.{◌≡◌, sym, subst}
use Rattle.station.specs.Disk.{IsCrashImage}
use Rattle.station.specs.State.{State}
use Rattle.station.specs.Choice.{chosen_sectors}
use Rattle.station.specs.Journal.{journal_state}
use Rattle.station.proofs.Crash.{settled_image}
use Rattle.station.proofs.Restart.{chosen_image}
use Rattle.station.proofs.memory.MemoryStation.crash.Goals as goal

pub returns-clause-image : goal.returns-clause-image
returns-clause-image c =
    let old = journal_state c.args.self.now.journal in
    subst (λ (s : State). IsCrashImage old.disk s.disk.present) (sym c.crash.ensures.state)
    (chosen_image old.disk c.args.choose.now)

pub returns-clause-alone : goal.returns-clause-alone
returns-clause-alone c = λ image crash.
    let old = journal_state c.args.self.now.journal in
    subst (λ (s : State). image ≡ s.disk.present) (sym c.crash.ensures.state)
    (settled_image (chosen_sectors old.disk c.args.choose.now) image
    (subst (λ (s : State). IsCrashImage s.disk image) c.crash.ensures.state crash))
