use Rattle.std.proofs.Common.{sym}
use Rattle.source_tree.specs.Parts.{items_referred}
use Rattle.entry_rules.specs.Checks.{broken_of}
use Rattle.declarations.specs.Named.{items_in}
use Rattle.check_rules.proofs.Parts.{no_length}
use Rattle.check_rules.proofs.checker.Checker.length_shown.Goals as goal

pub returns-in-Err : goal.returns-in-Err
returns-in-Err c =
    let one = c.args.one.now in
    sym (no_length one.item.name.place (items_referred (items_in c.args.self.now.declarations.now) one)
    (broken_of c.in-Err.field-0) c.in-Err.ensures)
