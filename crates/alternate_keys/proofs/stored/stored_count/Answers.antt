use Rattle.std.proofs.Common.{List, ℕ, ap, ◌∙◌, arith}
use Rattle.std.specs.Prelude.{slice_index}
use Rattle.volume_format.proofs.Small.{few_alternates}
use Rattle.alternate_keys.proofs.Heads.{count_at}
use Rattle.alternate_keys.proofs.stored.stored_count.Goals as goal

pub returns-then-count-le7-clause-count : goal.returns-then-count-le7-clause-count
returns-then-count-le7-clause-count c = λ l spec says. ap (λ (v : List ℕ). slice_index v 7) says ∙ count_at l spec

pub returns-else-count-le7-clause-count : goal.returns-else-count-le7-clause-count
returns-else-count-le7-clause-count c = λ l spec says.
    let same = ap (λ (v : List ℕ). slice_index v 7) says ∙ count_at l spec in
    let few = few_alternates l.spec spec in
    let test = c.if-count-le7.false in
    absurd (omega (arith, same, few, test))
