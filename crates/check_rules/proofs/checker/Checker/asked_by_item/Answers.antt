use Rattle.std.proofs.Common.{ap, sym}
use Rattle.source_tree.specs.Parts.{items_referred}
use Rattle.entry_rules.specs.Checks.{broken_of}
use Rattle.declarations.specs.Named.{items_in}
use Rattle.check_rules.specs.Asking.{asked_by}
use Rattle.check_rules.proofs.Parts.{sends_nothing}
use Rattle.check_rules.proofs.checker.Checker.asked_by_item.Goals as goal

pub returns-in-Err : goal.returns-in-Err
returns-in-Err c =
    let items = items_in c.args.self.now.declarations.now in
    let reference = c.args.sender.now in
    sym (ap asked_by (sends_nothing reference.item.name.place (items_referred items reference)
    (broken_of c.in-Err.field-0) c.in-Err.ensures))
