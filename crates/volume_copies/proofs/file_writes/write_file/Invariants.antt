use Rattle.std.proofs.Common.{◌≡◌}
use Rattle.volume_copies.specs.Copied.{KeepsDevice}
use Rattle.volume_copies.proofs.file_writes.write_file.Given as goal

abbrev pub invariant-loop-write : goal.invariant-loop-write
invariant-loop-write g l =
    KeepsDevice g.D.Device ⊥ l.fn.device l.device × (g.S.Keeps.needs l.store ≡ g.S.Keeps.needs l.fn.store)
