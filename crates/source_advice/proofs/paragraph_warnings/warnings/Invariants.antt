use Rattle.std.specs.Prelude.{All}
use Rattle.source_advice.specs.Advice.{HasLines}
use Rattle.source_advice.proofs.paragraph_warnings.warnings.Given as goal

abbrev pub invariant-loop-number : goal.invariant-loop-number
invariant-loop-number l = All (λ one. HasLines one.advice) l.found.items
