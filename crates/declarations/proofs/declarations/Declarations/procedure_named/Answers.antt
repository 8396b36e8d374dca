use Rattle.std.proofs.Common.{◌≡◌, List, None, sym, ap}
use Rattle.source_tree.specs.LookUp.{first}
use Rattle.source_tree.specs.NameRules.{unique_name_rules}
use Rattle.source_tree.specs.PerformRules.{no_rules}
use Rattle.source_tree.specs.Procedures.{Procedure, range_named}
use Rattle.name_table.proofs.Noting.{not_given}
use Rattle.declarations.specs.Named.{procedures_in}
use Rattle.declarations.proofs.declarations.Declarations.procedure_named.Goals as goal

pub returns-in-None-clause-rules : goal.returns-in-None-clause-rules
returns-in-None-clause-rules c =
    let all = c.args.self.now in
    let procedures = procedures_in all in
    let name = c.args.name.now in
    let none : range_named procedures name ≡ None = sym (c.in-None.ensures procedures all.declared.procedures) in
    ap (λ (l : List Procedure). first (unique_name_rules name.place no_rules l))
    (not_given procedures all.procedures name all.declared.procedures none)
