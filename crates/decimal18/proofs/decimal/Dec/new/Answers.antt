use Rattle.std.proofs.Common.{arith, rules, ◌≡◌, ◌∙◌, ap, FitsSigned}
use Rattle.std.specs.Int.{w64, w128}
use Rattle.std.proofs.lemmas.Int.{to_z-of_z}
use Rattle.decimal18.specs.Halves.{high_part}
use Rattle.decimal18.proofs.Halves.{low_again, parts_kept, parts_view}
use Rattle.std.proofs.lemmas.Grind.{common_steps}
use Rattle.decimal18.proofs.decimal.Dec.new.Goals as goal

pub invariant_of-result : goal.invariant_of-result
invariant_of-result c =
    let z = c.args.coefficient in
    let high = c.high_part-high.result in
    let fits : FitsSigned w64 high = search rules in
    let same : high ≡ high_part z = c.high_part-high.ensures ∙ ap high_part (to_z-of_z w128 z c.ranges.coefficient) in
    parts_kept z _ _ c.args.scale (low_again z high c.ranges.coefficient fits same) (to_z-of_z w64 high fits ∙ same)
    c.requires.coefficient c.requires.scale

pub returns : goal.returns
returns c =
    let z = c.args.coefficient in
    let high = c.high_part-high.result in
    let fits : FitsSigned w64 high = search rules in
    let same : high ≡ high_part z = c.high_part-high.ensures ∙ ap high_part (to_z-of_z w128 z c.ranges.coefficient) in
    parts_view z _ _ c.args.scale (low_again z high c.ranges.coefficient fits same) (to_z-of_z w64 high fits ∙ same)

pub overflow_cast-result : goal.overflow_cast-result
overflow_cast-result c = grind (arith, common_steps)
