use Rattle.std.proofs.Common.{ap, ◌∙◌}
use Rattle.std.proofs.lemmas.Result.{err_from_is_err_and}
use Rattle.source_tree.specs.declared.reference.Subscript as written
use Rattle.source_tree.specs.LookUp.{first}
use Rattle.source_tree.specs.NameRules.{adjustment_rules, subscript_rules}
use Rattle.entry_rules.specs.Checks.{broken_of}
use Rattle.declarations.specs.Named.{items_in}
use Rattle.check_rules.specs.References.{subscript_rules_of}
use Rattle.declarations.proofs.Firsts.{first_front}
use Rattle.check_rules.proofs.checker.Checker.subscript_rules.Goals as goal

pub returns-in_err-subscript_item_rules-in-Item : goal.returns-in_err-subscript_item_rules-in-Item
returns-in_err-subscript_item_rules-in-Item c =
    let p = err_from_is_err_and c.from_residual.result c.from_residual.ensures.1 in
    let items = items_in c.args.self.now.declarations.now in
    rw (p.1, p.2) (ap (λ (one : written.Subscript). first (subscript_rules items one)) c.in-Item.is
    ∙ first_front (subscript_rules_of items c.in-Item.item) (adjustment_rules c.in-Item.adjustment)
    (broken_of c.in_err-subscript_item_rules-in-Item.field-0.0) c.in_err-subscript_item_rules-in-Item.ensures)
