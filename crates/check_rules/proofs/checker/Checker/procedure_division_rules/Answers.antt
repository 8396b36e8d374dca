use Rattle.std.proofs.Common.{◌≡◌, [], List, ◌++◌, Some, sym, ap, ◌∙◌}
use Rattle.std.proofs.lemmas.Result.{err_from_is_err_and}
use Rattle.source_tree.specs.declared.program.Section.{Section}
use Rattle.source_tree.specs.LookUp.{first}
use Rattle.source_tree.specs.Rules.{sections_rules, procedure_rules, all_permitted}
use Rattle.source_tree.specs.Setting.{Scope, scope}
use Rattle.entry_rules.specs.Checks.{broken_of, fault_of}
use Rattle.declarations.specs.Declaring.{declaration_rules}
use Rattle.declarations.proofs.Declared.{same_scope, kept_by}
use Rattle.declarations.proofs.Firsts.{is_first_front, is_first_behind, both_none}
use Rattle.check_rules.proofs.Told.{told_first, told_back, program_none}
use Rattle.check_rules.proofs.checker.Checker.procedure_division_rules.Goals as goal

pub returns-in_err-sections_rules-clause-exact : goal.returns-in_err-sections_rules-clause-exact
returns-in_err-sections_rules-clause-exact c =
    let error = err_from_is_err_and c.from_residual.result c.from_residual.ensures.1 in
    let program = c.args.program.now in
    let declared = declaration_rules program in
    let statements = sections_rules (scope program) all_permitted program.sections in
    let broken = broken_of c.in_err-sections_rules.field-0.0 in
    let found : first statements ≡ Some broken =
    ap (λ (l : List Section). first (sections_rules (scope program) all_permitted l)) (sym c.as_slice.ensures)
    ∙ ap (λ (found : Scope). first (sections_rules found all_permitted c.as_slice.result.now))
    (sym (same_scope program c.args.self.now.declarations.now c.requires.program)) ∙ c.in_err-sections_rules.ensures in
    rw (error.1, error.2)
    (told_first program (Some broken) (is_first_front (Some broken) (declared ++ statements) (procedure_rules program)
    (is_first_behind (Some broken) declared statements c.requires.kept found)))

pub returns-in_err-procedure_rules-clause-exact : goal.returns-in_err-procedure_rules-clause-exact
returns-in_err-procedure_rules-clause-exact c =
    let error = err_from_is_err_and c.from_residual-in_err-procedure_rules.result
    c.from_residual-in_err-procedure_rules.ensures.1 in
    let program = c.args.program.now in
    let declared = declaration_rules program in
    let statements = sections_rules (scope program) all_permitted program.sections in
    let broken = broken_of c.in_err-procedure_rules.field-0.0 in
    let kept : statements ≡ [] = kept_by program c.args.self.now.declarations.now c.requires.program
    c.as_slice.result.now c.as_slice.ensures c.in_ok-sections_rules.ensures in
    rw (error.1, error.2)
    (told_first program (Some broken)
    (is_first_behind (Some broken) (declared ++ statements) (procedure_rules program)
    (both_none declared statements c.requires.kept kept) c.in_err-procedure_rules.ensures))

pub returns-in_err-recursion_rules-clause-exact : goal.returns-in_err-recursion_rules-clause-exact
returns-in_err-recursion_rules-clause-exact c =
    let error = err_from_is_err_and c.from_residual-in_err-recursion_rules.result
    c.from_residual-in_err-recursion_rules.ensures.1 in
    let program = c.args.program.now in
    let statements = sections_rules (scope program) all_permitted program.sections in
    let kept : statements ≡ [] = kept_by program c.args.self.now.declarations.now c.requires.program
    c.as_slice.result.now c.as_slice.ensures c.in_ok-sections_rules.ensures in
    rw (error.1, error.2)
    (told_back program (fault_of c.in_err-recursion_rules.field-0.0) (program_none program c.requires.kept kept
    c.in_ok-procedure_rules.ensures) c.in_err-recursion_rules.ensures.back)
