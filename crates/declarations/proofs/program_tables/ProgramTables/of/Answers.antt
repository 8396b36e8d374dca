use Rattle.std.proofs.Common.{◌≡◌, List, [], subst, sym, ap, ◌∙◌}
use Rattle.std.specs.Prelude.{Vec, map}
use Rattle.std.specs.declared.alloc.Global.{Global}
use Rattle.std.proofs.lemmas.Result.{err_from_is_err_and}
use Rattle.source_tree.specs.declared.program.Section.{Section}
use Rattle.source_tree.specs.PerformRules.{procedure_name_rules}
use Rattle.source_tree.specs.Procedures.{procedures_of}
use Rattle.name_table.specs.Procedures.{AreProcedures}
use Rattle.declarations.specs.declared.listed.Procedure.{Procedure}
use Rattle.declarations.specs.Listed.{procedure_of}
use Rattle.entry_rules.specs.Checks.{IsFirst, IsFirstFault, fault_of}
use Rattle.declarations.proofs.ItemRules.{second_failed, second_made, three_held, of_ok}
use Rattle.declarations.proofs.program_tables.ProgramTables.of.Goals as goal

pub of-files-requires : goal.of-files-requires
of-files-requires c = record {
  table = c.requires.items.table;
  calls = c.requires.items.calls;
  items = c.requires.items.items;
  storage = c.requires.storage;
  rules = c.requires.files;
}

pub returns-in_err-named-clause-names : goal.returns-in_err-named-clause-names
returns-in_err-named-clause-names c =
    let p = err_from_is_err_and c.from_residual-in_err-named.result c.from_residual-in_err-named.ensures.1 in
    let error = c.in_err-named.field-0.0 in
    let failed = second_failed c.in_ok-procedure_list.procedure_list c.named_procedures-named.result error
    (sym c.beside.ensures ∙ c.in_err-named.was) in
    rw (p.1, p.2) (subst (λ (l : List Section). IsFirst (fault_of error) (procedure_name_rules l))
    c.as_slice-sections.ensures (subst (λ r. IsFirstFault r (procedure_name_rules c.as_slice-sections.result.now))
    failed c.named_procedures-named.ensures.names))

pub returns-clause-tables : goal.returns-clause-tables
returns-clause-tables c =
    let held = three_held c.in_ok-procedure_list.procedure_list c.named_procedures-named.result
    c.condition_names-conditions.result c.of-files.result c.in_ok-named.named c.in_ok-tables.tables _ _ _ _
    (sym c.beside.ensures ∙ c.in_ok-named.was) (sym c.beside-2.ensures ∙ c.in_ok-tables.was)
    (sym c.beside-3.ensures ∙ c.in_ok-procedure_list-2.was) in
    record {
      conditions = of_ok _ c.condition_names-conditions.result _ c.condition_names-conditions.ensures held.2;
      files = of_ok _ c.of-files.result _ c.of-files.ensures held.3;
      listed = ap (λ (l : Vec Procedure Global). map procedure_of l.items) held.0 ∙ c.in_ok-procedure_list.ensures
          ∙ ap procedures_of c.as_slice-sections.ensures;
      procedures = subst (λ (l : List Section). AreProcedures (procedures_of l) c.in_ok-procedure_list-2.procedures)
          c.as_slice-sections.ensures
          (of_ok _ c.named_procedures-named.result _ c.named_procedures-named.ensures.procedures held.1);
    }

pub returns-clause-names : goal.returns-clause-names
returns-clause-names c =
    let made = second_made c.in_ok-procedure_list.procedure_list c.named_procedures-named.result c.in_ok-named.named
    (sym c.beside.ensures ∙ c.in_ok-named.was) in
    subst (λ (l : List Section). procedure_name_rules l ≡ []) c.as_slice-sections.ensures
    (subst (λ r. IsFirstFault r (procedure_name_rules c.as_slice-sections.result.now)) made
    c.named_procedures-named.ensures.names)
