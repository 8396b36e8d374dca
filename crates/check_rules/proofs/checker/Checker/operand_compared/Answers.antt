use Rattle.std.proofs.Common.{Some, sym, ap, ◌∙◌}
use Rattle.source_tree.specs.declared.expression.Operand.{Operand}
use Rattle.source_tree.specs.ConditionRules.{compared_alone}
use Rattle.source_tree.specs.Parts.{items_referred}
use Rattle.entry_rules.specs.Checks.{broken_of}
use Rattle.declarations.specs.Named.{items_in}
use Rattle.check_rules.proofs.SideLayers.{either_unnamed}
use Rattle.check_rules.proofs.checker.Checker.operand_compared.Goals as goal

pub returns-in-Err : goal.returns-in-Err
returns-in-Err c =
    let items = items_in c.args.self.now.declarations.now in
    let reference = c.in-Item.reference in
    sym (ap (λ (o : Operand). compared_alone items (Some o)) c.in-Item.is
    ∙ either_unnamed reference.item.name.place (items_referred items reference) (broken_of c.in-Err.field-0)
    c.in-Err.ensures)
