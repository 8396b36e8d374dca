use Rattle.std.proofs.Common.{◌≡◌, ◌+◌, ◌-◌, ◌≤◌, length, drop}
use Rattle.tokens.specs.Characters.{run_size}
use Rattle.tokens.proofs.character.run.Given as goal

abbrev pub invariant-loop-size : goal.invariant-loop-size
invariant-loop-size l = (l.size + run_size l.class (drop l.size l.characters) ≡ run_size l.class l.characters)
    × (l.size ≤ length l.characters)

abbrev pub decreases-loop-size : goal.decreases-loop-size
decreases-loop-size l = length l.characters - l.size
