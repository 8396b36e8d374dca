use Rattle.std.proofs.Common.{ap, ◌∙◌}
use Rattle.std.proofs.lemmas.Result.{err_from_is_err_and}
use Rattle.records.specs.Spec.{is_name}
use Rattle.entry_rules.specs.Checks.{fault_of}
use Rattle.declarations.specs.Found.{items_of}
use Rattle.declarations.specs.Selecting.{described_of}
use Rattle.declarations.proofs.SelectFaults.{organization_first}
use Rattle.declarations.proofs.declared_items.DeclaredItems.select_rules.Goals as goal

pub returns-in_err-organization_rules : goal.returns-in_err-organization_rules
returns-in_err-organization_rules c =
    let p = err_from_is_err_and c.from_residual-in_err-organization_rules.result
    c.from_residual-in_err-organization_rules.ensures.1 in
    rw (p.1, p.2) (organization_first (items_of c.args.self.now) c.args.areas (described_of c.args.there) c.args.one.now
    c.is_name.result (fault_of c.in_err-organization_rules.field-0.0)
    (c.is_name.ensures ∙ ap is_name c.as_slice.ensures) c.in_ok-broken_if.ensures
    c.in_err-organization_rules.ensures)
