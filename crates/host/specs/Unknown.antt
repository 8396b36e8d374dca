-- A station on the host, of whose state no clause says anything.
use Rattle.std.specs.Prelude.{[]}
use Rattle.station.specs.Disk.{idle_disk}
use Rattle.station.specs.State.{State}

abbrev pub nothing_known : State
nothing_known = record { events = []; lines = []; disk = idle_disk [] }
