use Rattle.std.proofs.Common.{◌≤◌, length, take}
use Rattle.std.specs.Io.KnownBytes.{Appends}
use Rattle.volume_commands.proofs.output.write_text.Given as goal

abbrev pub invariant-loop : goal.invariant-loop
invariant-loop g l =
    (l.written ≤ length l.text)
    × Appends (g.W.Write.contents l.initial.out) (g.W.Write.contents l.out) (take l.written l.text)
