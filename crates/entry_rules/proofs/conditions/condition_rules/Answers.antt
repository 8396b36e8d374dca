use Rattle.std.proofs.Common.{ap, sym, ◌∙◌}
use Rattle.std.proofs.lemmas.Result.{err_from_is_err_and}
use Rattle.source_tree.specs.Broken.{each}
use Rattle.source_tree.specs.LookUp.{first}
use Rattle.source_tree.specs.ValueRules.{range_rules}
use Rattle.entry_rules.specs.Checks.{broken_of}
use Rattle.entry_rules.proofs.Firsts.{each_found}
use Rattle.entry_rules.proofs.conditions.condition_rules.Goals as goal

pub returns-in_err-range_rules : goal.returns-in_err-range_rules
returns-in_err-range_rules c =
    let p = err_from_is_err_and c.from_residual.result c.from_residual.ensures.1 in
    rw (p.1, p.2) (each_found (range_rules c.args.item) c.args.ranges.now c.loop-range.range-index c.range-item.result
    (each (range_rules c.args.item) c.args.ranges.now) (broken_of c.in_err-range_rules.field-0.0)
    c.loop-range-test.true c.loop-range.invariant
    (ap (λ r. first (range_rules c.args.item r)) (sym c.range-item.is) ∙ c.in_err-range_rules.ensures))
