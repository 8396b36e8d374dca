use Rattle.std.proofs.Common.{sym, subst, append_assoc, ◌∙◌}
use Rattle.std.proofs.lemmas.Result.{err_from_is_err_and}
use Rattle.source_tree.specs.EntryRules.{entry_rules}
use Rattle.entry_rules.specs.Checks.{IsFirst, fault_of}
use Rattle.declarations.specs.Declaring.{file_rules, data_rules, selects_rules}
use Rattle.declarations.specs.Found.{HasItems}
use Rattle.declarations.proofs.Firsts.{is_first_front}
use Rattle.declarations.proofs.ItemRules.{are_declared, storage_kept, files_kept, lengths_are, all_ruled}
use Rattle.declarations.proofs.ItemRules.{none_failed, second_failed, kept_rules, first_fault, kept_files}
use Rattle.declarations.proofs.declared_items.DeclaredItems.checked.Goals as goal

pub returns-in_err-lengths-clause-rules : goal.returns-in_err-lengths-clause-rules
returns-in_err-lengths-clause-rules c =
    let p = err_from_is_err_and c.from_residual.result c.from_residual.ensures.1 in
    let program = c.args.program.now in
    let fault = fault_of c.in_err-lengths.field-0.0 in
    rw (p.1, p.2)
    (subst (IsFirst fault) (append_assoc (entry_rules program.storage) (file_rules program) (selects_rules program))
    (is_first_front fault (data_rules program) (selects_rules program) c.in_err-lengths.ensures.rules))

pub selects_rules-ruled-requires-clause-declared : goal.selects_rules-ruled-requires-clause-declared
selects_rules-ruled-requires-clause-declared c =
    are_declared c.args.program.now c.in_ok-items.items c.in_ok-items.ensures

pub selects_rules-ruled-requires-clause-storage : goal.selects_rules-ruled-requires-clause-storage
selects_rules-ruled-requires-clause-storage c =
    storage_kept c.args.program.now c.in_ok-items.items c.in_ok-items.ensures c.in_ok-lengths.ensures.storage

pub selects_rules-ruled-requires-clause-files : goal.selects_rules-ruled-requires-clause-files
selects_rules-ruled-requires-clause-files c =
    files_kept c.args.program.now c.in_ok-items.items c.in_ok-items.ensures c.in_ok-lengths.ensures.files

pub selects_rules-ruled-requires-clause-lengths : goal.selects_rules-ruled-requires-clause-lengths
selects_rules-ruled-requires-clause-lengths c = c.deref.ensures.value
    ∙ lengths_are c.args.program.now c.in_ok-items.items c.in_ok-items.ensures _ c.in_ok-lengths.ensures.lengths

pub returns-in_err-items-2-clause-rules : goal.returns-in_err-items-2-clause-rules
returns-in_err-items-2-clause-rules c =
    let p = err_from_is_err_and c.from_residual-in_err-items-2.result c.from_residual-in_err-items-2.ensures.1 in
    let program = c.args.program.now in
    rw (p.1, p.2) (first_fault program c.selects_rules-ruled.result c.in_err-items-2.field-0.0
    (second_failed c.in_ok-items.items _ _ (sym c.beside.ensures ∙ c.in_err-items-2.was))
    (all_ruled program c.in_ok-items.items c.in_ok-items.ensures c.selects_rules-ruled.result
    c.in_ok-lengths.ensures.rules c.selects_rules-ruled.ensures))

pub returns-clause-items : goal.returns-clause-items
returns-clause-items c =
    let held = none_failed c.in_ok-items.items c.selects_rules-ruled.result c.in_ok-items-2.items tt
    (sym c.beside.ensures ∙ c.in_ok-items-2.was) in
    subst (HasItems c.args.program.now) (sym held.0) c.in_ok-items.ensures

pub returns-clause-rules : goal.returns-clause-rules
returns-clause-rules c =
    let program = c.args.program.now in
    let held = none_failed c.in_ok-items.items c.selects_rules-ruled.result c.in_ok-items-2.items tt
    (sym c.beside.ensures ∙ c.in_ok-items-2.was) in
    kept_rules program c.selects_rules-ruled.result tt held.1
    (all_ruled program c.in_ok-items.items c.in_ok-items.ensures c.selects_rules-ruled.result
    c.in_ok-lengths.ensures.rules c.selects_rules-ruled.ensures)

pub returns-clause-files : goal.returns-clause-files
returns-clause-files c =
    let program = c.args.program.now in
    let held = none_failed c.in_ok-items.items c.selects_rules-ruled.result c.in_ok-items-2.items tt
    (sym c.beside.ensures ∙ c.in_ok-items-2.was) in
    kept_files program (kept_rules program c.selects_rules-ruled.result tt held.1
    (all_ruled program c.in_ok-items.items c.in_ok-items.ensures c.selects_rules-ruled.result
    c.in_ok-lengths.ensures.rules c.selects_rules-ruled.ensures))
