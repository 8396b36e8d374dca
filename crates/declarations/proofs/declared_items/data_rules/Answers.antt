use Rattle.std.proofs.Common.{◌≡◌, List, [], subst}
use Rattle.std.proofs.lemmas.Result.{err_from_is_err_and}
use Rattle.source_tree.specs.declared.entry.Entry.{Entry}
use Rattle.source_tree.specs.declared.select.FileDescription.{FileDescription}
use Rattle.source_tree.specs.declared.select.Select.{Select}
use Rattle.source_tree.specs.Broken.{RuleBreach}
use Rattle.source_tree.specs.EntryRules.{entry_rules}
use Rattle.source_tree.specs.FileRules.{file_name_rules, select_names, description_names, descriptions_rules}
use Rattle.entry_rules.specs.Checks.{IsFirst, IsFirstFault, fault_of}
use Rattle.declarations.specs.Declaring.{file_rules}
use Rattle.declarations.proofs.Firsts.{is_first_front, fault_behind}
use Rattle.declarations.proofs.declared_items.data_rules.Goals as goal

abbrev names_in : List Select → List FileDescription → List RuleBreach
names_in selects files = file_name_rules (select_names selects) (description_names files)

pub returns-in_err-bytes-clause-rules : goal.returns-in_err-bytes-clause-rules
returns-in_err-bytes-clause-rules c =
    let p = err_from_is_err_and c.from_residual.result c.from_residual.ensures.1 in
    let program = c.args.program.now in
    let fault = fault_of c.in_err-bytes.field-0.0 in
    rw (p.1, p.2) (is_first_front fault (entry_rules program.storage) (file_rules program)
    (subst (λ (l : List Entry). IsFirst fault (entry_rules l)) c.as_slice.ensures c.in_err-bytes.ensures.rules))

pub returns-clause-rules : goal.returns-clause-rules
returns-clause-rules c =
    let program = c.args.program.now in
    let result = c.check_descriptions.result in
    fault_behind result (entry_rules program.storage) (file_rules program)
    (subst (λ (l : List Entry). entry_rules l ≡ []) c.as_slice.ensures c.in_ok-bytes.ensures.rules)
    (fault_behind result (names_in program.selects program.files) (descriptions_rules program.storage program.files)
    (subst (λ (l : List Select). names_in l program.files ≡ []) c.as_slice-2.ensures
    (subst (λ (l : List FileDescription). names_in c.as_slice-2.result.now l ≡ []) c.as_slice-files.ensures
    c.in_ok-file_name_rules.ensures))
    (subst (λ (l : List Entry). IsFirstFault result (descriptions_rules l program.files)) c.as_slice-3.ensures
    (subst (λ (l : List FileDescription). IsFirstFault result (descriptions_rules c.as_slice-3.result.now l))
    c.as_slice-files.ensures c.check_descriptions.ensures.rules)))
