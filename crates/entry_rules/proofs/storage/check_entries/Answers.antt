use Rattle.std.proofs.Common.{◌++◌, None, Some, false, drop}
use Rattle.std.proofs.lemmas.Result.{err_from_is_err_and}
use Rattle.source_tree.specs.Broken.{each}
use Rattle.source_tree.specs.EntryRules.{most_entries, excess, level_rules, homeless, forest_rules, outermost}
use Rattle.source_tree.specs.EntryRules.{storage_rules}
use Rattle.source_tree.specs.Levels.{leading_conditions, forest_of}
use Rattle.entry_rules.specs.Checks.{broken_of}
use Rattle.entry_rules.proofs.Firsts.{same_front, same_back}
use Rattle.entry_rules.proofs.storage.check_entries.Goals as goal

pub returns-in_err-count_rules-clause-rules : goal.returns-in_err-count_rules-clause-rules
returns-in_err-count_rules-clause-rules c =
    let p = err_from_is_err_and c.from_residual.result c.from_residual.ensures.1 in
    let entries = c.args.entries.now in
    let behind = each level_rules entries ++ (each homeless (leading_conditions entries)
    ++ (forest_rules (outermost false) None (forest_of entries) ++ storage_rules 0 (forest_of entries))) in
    rw (p.1, p.2) (same_front (Some (broken_of c.in_err-count_rules.field-0.0))
    (each excess (drop most_entries entries)) behind c.in_err-count_rules.ensures.rules)

pub returns-in_err-level_rules-clause-rules : goal.returns-in_err-level_rules-clause-rules
returns-in_err-level_rules-clause-rules c =
    let p =
    err_from_is_err_and c.from_residual-in_err-level_rules.result c.from_residual-in_err-level_rules.ensures.1 in
    let entries = c.args.entries.now in
    let fault = Some (broken_of c.in_err-level_rules.field-0.0) in
    let behind = each homeless (leading_conditions entries)
    ++ (forest_rules (outermost false) None (forest_of entries) ++ storage_rules 0 (forest_of entries)) in
    rw (p.1, p.2) (same_back fault (each excess (drop most_entries entries)) (each level_rules entries ++ behind)
    c.in_ok-count_rules.ensures.rules
    (same_front fault (each level_rules entries) behind c.in_err-level_rules.ensures.rules))
