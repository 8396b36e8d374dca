use Rattle.std.proofs.Common.{ap, ◌∙◌}
use Rattle.std.proofs.lemmas.Result.{err_from_is_err_and}
use Rattle.source_tree.specs.declared.select.FileDescription.{FileDescription}
use Rattle.entry_rules.specs.Checks.{broken_of}
use Rattle.entry_rules.proofs.FileEntries.{counted_next, counted_found}
use Rattle.entry_rules.proofs.descriptions.excess_rules.Goals as goal

pub returns-in_err-count_rules-clause-rules : goal.returns-in_err-count_rules-clause-rules
returns-in_err-count_rules-clause-rules c =
    let p = err_from_is_err_and c.from_residual.result c.from_residual.ensures.1 in
    rw (p.1, p.2) (counted_found c.one-item.result c.as_slice-entries.result.now
    (broken_of c.in_err-count_rules.field-0.0) c.loop-one-test.true
    (c.as_slice-entries.ensures ∙ ap (λ (one : FileDescription). one.entries) c.one-item.is) c.loop-one.invariant
    c.in_err-count_rules.ensures.rules)

pub loop-one-preserved : goal.loop-one-preserved
loop-one-preserved c =
    counted_next c.one-item.result c.as_slice-entries.result.now c.loop-one-test.true
    (c.as_slice-entries.ensures ∙ ap (λ (one : FileDescription). one.entries) c.one-item.is) c.loop-one.invariant
    c.in_ok-count_rules.ensures.few
