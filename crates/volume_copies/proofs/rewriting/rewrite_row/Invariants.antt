use Rattle.std.proofs.Common.{◌≡◌}
use Rattle.volume_copies.specs.Copied.{KeepsDevice}
use Rattle.volume_copies.proofs.rewriting.rewrite_row.Given as goal

abbrev pub invariant-loop-change : goal.invariant-loop-change
invariant-loop-change g l =
    KeepsDevice g.D.Device ⊥ l.initial.device l.device × (g.S.Keeps.needs l.store ≡ g.S.Keeps.needs l.initial.store)
