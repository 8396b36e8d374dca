use Rattle.std.proofs.lemmas.Result.{err_from_is_err_and}
use Rattle.source_tree.specs.Levels.{leading_conditions, forest_of}
use Rattle.entry_rules.specs.Checks.{broken_of}
use Rattle.entry_rules.specs.Walk.{redefinable_of}
use Rattle.entry_rules.proofs.Parts.{entry_found}
use Rattle.entry_rules.proofs.entry.entry_rules.Goals as goal

pub returns-in_err-own_rules : goal.returns-in_err-own_rules
returns-in_err-own_rules c =
    let p = err_from_is_err_and c.from_residual.result c.from_residual.ensures.1 in
    rw (p.1, p.2) (entry_found c.args.at c.args.one.now.entry.now (leading_conditions c.args.inner.now)
    c.args.one.now.item (forest_of c.args.inner.now) (redefinable_of c.args.last)
    (broken_of c.in_err-own_rules.field-0.0) c.in_err-own_rules.ensures)
