use Rattle.std.proofs.lemmas.Result.{err_from_is_err_and}
use Rattle.source_tree.specs.NameRules.{number_rules_of}
use Rattle.entry_rules.specs.Checks.{broken_of}
use Rattle.declarations.specs.Named.{items_in}
use Rattle.check_rules.specs.References.{named_rules}
use Rattle.check_rules.specs.Asking.{asks}
use Rattle.declarations.proofs.Firsts.{first_front}
use Rattle.check_rules.proofs.checker.Checker.item_rules.Goals as goal

pub returns-in_err-named_rules : goal.returns-in_err-named_rules
returns-in_err-named_rules c =
    let p = err_from_is_err_and c.from_residual.result c.from_residual.ensures.1 in
    let items = items_in c.args.self.now.declarations.now in
    rw (p.1, p.2) (first_front (named_rules items (asks c.args.asked) c.args.one.now)
    (number_rules_of items c.args.one.now)
    (broken_of c.in_err-named_rules.field-0.0) c.in_err-named_rules.ensures)
