use Rattle.std.proofs.lemmas.Result.{err_from_is_err_and}
use Rattle.entry_rules.specs.Checks.{broken_of}
use Rattle.name_table.specs.Table.{names_of}
use Rattle.declarations.proofs.SelectFaults.{count_first, once_first, matched_first}
use Rattle.declarations.proofs.file_names.name_rules.Goals as goal

pub returns-in_err-count_rules : goal.returns-in_err-count_rules
returns-in_err-count_rules c =
    let p = err_from_is_err_and c.from_residual.result c.from_residual.ensures.1 in
    rw (p.1, p.2) (count_first (names_of c.args.selected.now) (names_of c.args.described.now)
    (broken_of c.in_err-count_rules.field-0.0) c.in_err-count_rules.ensures)

pub returns-in_err-once_rules : goal.returns-in_err-once_rules
returns-in_err-once_rules c =
    let p = err_from_is_err_and c.from_residual-in_err-once_rules.result c.from_residual-in_err-once_rules.ensures.1 in
    rw (p.1, p.2) (once_first (names_of c.args.selected.now) (names_of c.args.described.now)
    (broken_of c.in_err-once_rules.field-0.0) c.in_ok-count_rules.ensures c.in_err-once_rules.ensures)

pub returns-in_err-matched_rules : goal.returns-in_err-matched_rules
returns-in_err-matched_rules c =
    let p =
    err_from_is_err_and c.from_residual-in_err-matched_rules.result c.from_residual-in_err-matched_rules.ensures.1 in
    rw (p.1, p.2) (matched_first (names_of c.args.selected.now) (names_of c.args.described.now)
    (broken_of c.in_err-matched_rules.field-0.0) c.in_ok-count_rules.ensures c.in_ok-once_rules.ensures
    c.in_ok-once_rules-2.ensures c.in_err-matched_rules.ensures)
