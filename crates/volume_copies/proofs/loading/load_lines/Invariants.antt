use Rattle.std.proofs.Common.{◌≡◌, ◌+◌, ◌≤◌, length}
use Rattle.station.specs.Calls.{OnlyWrites}
use Rattle.records.specs.Files.{File, Files}
use Rattle.records.specs.Stores.{Has}
use Rattle.records.specs.Calls.{Represents}
use Rattle.volume_copies.specs.Loaded.{IsNext}
use Rattle.volume_copies.proofs.LinesAdded.{IsFront, IsSoFar}
use Rattle.volume_copies.proofs.loading.load_lines.Given as goal

abbrev pub invariant-loop-rest : goal.invariant-loop-rest
invariant-loop-rest g l =
    (l.rows + length l.rest ≤ length l.text)
    × (g.S.Keeps.needs l.store ≡ g.S.Keeps.needs l.initial.store)
    × OnlyWrites g.D.Device ⊥ l.initial.device l.device
    × IsFront l.text l.rest l.rows
    × ((files : Files) (held : File) → Represents g.S.Keeps g.D.Device l.initial.store l.initial.device files
    → Has files l.file held → IsNext l.first held
    → IsSoFar g.S.Keeps g.D.Device g.met.S.Store.held l.file l.text files l.initial.device l.rows l.number l.store
    l.device)

abbrev pub decreases-loop-rest : goal.decreases-loop-rest
decreases-loop-rest g l = length l.rest
