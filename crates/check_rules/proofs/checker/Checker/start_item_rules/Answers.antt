use Rattle.std.proofs.Common.{subst, ◌∙◌}
use Rattle.std.specs.Prelude.{Bool, not, slice_get}
use Rattle.std.proofs.lemmas.Result.{err_from_is_err_and}
use Rattle.source_tree.specs.Broken.{where_so}
use Rattle.source_tree.specs.FilingRules.{start_key_item}
use Rattle.source_tree.specs.LookUp.{items_named}
use Rattle.name_table.specs.Table.{calls_in}
use Rattle.file_descriptions.specs.Files.{file_in}
use Rattle.entry_rules.specs.Checks.{IsFirstBreach, broken_of}
use Rattle.declarations.specs.Named.{items_in}
use Rattle.check_rules.proofs.KeysFound.{start_found}
use Rattle.check_rules.proofs.Parts.{part_first, asked_behind}
use Rattle.check_rules.proofs.checker.Checker.start_item_rules.Goals as goal

pub returns-in_err-no_part_rules : goal.returns-in_err-no_part_rules
returns-in_err-no_part_rules c =
    let p = err_from_is_err_and c.from_residual-in_err-no_part_rules.result
    c.from_residual-in_err-no_part_rules.ensures.1 in
    let items = items_in c.args.self.now.declarations.now in
    let key = c.args.key.now in
    let found = c.in_ok-number.ensures in
    rw (p.1, p.2) (part_first key.item.name.place (start_key_item (file_in items c.args.file.now) key) key
    (items_named items key.item) found.0 found.1 (broken_of c.in_err-no_part_rules.field-0.0)
    c.in_err-no_part_rules.ensures)

pub returns : goal.returns
returns c =
    let items = items_in c.args.self.now.declarations.now in
    let file = c.args.file.now in
    let key = c.args.key.now in
    let place = key.item.name.place in
    let found = c.in_ok-number.ensures in
    let called = slice_get (calls_in c.args.self.now.declarations.now.names) c.in_ok-number.number in
    asked_behind place (start_key_item (file_in items file) key) key (items_named items key.item) found.0 found.1
    c.broken_if.result c.in_ok-no_part_rules.ensures
    (subst (λ (b : Bool). IsFirstBreach c.broken_if.result (where_so (not b) 63 place))
    (c.is_start_item-is_start.ensures
    ∙ start_found items file key found.0 c.in_ok-number.found.now called found.2 found.3)
    c.broken_if.ensures)
