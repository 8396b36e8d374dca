use Rattle.std.proofs.Common.{◌≡◌, ◌++◌, None, [], ◌∷◌}
use Rattle.std.specs.List.{repeat}
use Rattle.initial_storage.proofs.patterns.put_old.Given as goal

abbrev pub invariant-loop-turn : goal.invariant-loop-turn
invariant-loop-turn l = l.out.items ≡ l.initial.out.items ++ repeat l._turn (None ∷ [])
