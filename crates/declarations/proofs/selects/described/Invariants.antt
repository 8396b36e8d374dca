use Rattle.std.proofs.Common.{◌≡◌, ◌+◌, drop}
use Rattle.source_tree.specs.ProgramFiles.{described_file}
use Rattle.declarations.proofs.selects.described.Given as goal

abbrev pub invariant-loop-i : goal.invariant-loop-i
invariant-loop-i l =
    described_file l.first l.name l.descriptions ≡ described_file (l.first + l.i) l.name (drop l.i l.descriptions)
