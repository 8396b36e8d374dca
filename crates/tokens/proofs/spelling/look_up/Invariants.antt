use Rattle.std.proofs.Common.{◌≡◌, length, map}
use Rattle.tokens.specs.Spelling.{look_up}
use Rattle.tokens.proofs.spelling.look_up.Given as goal

abbrev pub invariant-loop-table : goal.invariant-loop-table
invariant-loop-table l = look_up (map (λ one. (one.0.now, one.1)) l.table) l.word
    ≡ look_up (map (λ one. (one.0.now, one.1)) l.initial.table) l.word

abbrev pub decreases-loop-table : goal.decreases-loop-table
decreases-loop-table l = length l.table
