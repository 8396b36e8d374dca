use Rattle.std.proofs.lemmas.Result.{err_from_is_err_and}
use Rattle.source_tree.specs.LookUp.{items_named, conditions_named}
use Rattle.source_tree.specs.NameRules.{number_rules_of}
use Rattle.source_tree.specs.SettingRules.{set_name}
use Rattle.entry_rules.specs.Checks.{broken_of}
use Rattle.declarations.specs.Named.{items_in}
use Rattle.declarations.proofs.Firsts.{first_front}
use Rattle.check_rules.proofs.checker.Checker.set_one_rules.Goals as goal

pub returns-in_err-set_name_rules : goal.returns-in_err-set_name_rules
returns-in_err-set_name_rules c =
    let p = err_from_is_err_and c.from_residual.result c.from_residual.ensures.1 in
    let items = items_in c.args.self.now.declarations.now in
    let one = c.args.one.now in
    rw (p.1, p.2) (first_front
    (set_name one.item.name.place one (items_named items one.item) (conditions_named items one.item))
    (number_rules_of items one) (broken_of c.in_err-set_name_rules.field-0.0) c.in_err-set_name_rules.ensures)
