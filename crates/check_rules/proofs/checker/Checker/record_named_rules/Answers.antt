use Rattle.std.proofs.Common.{ℕ, Err, ap}
use Rattle.std.proofs.lemmas.Result.{err_from_is_err_and}
use Rattle.layout.specs.declared.placed.PlacedItem.{PlacedItem}
use Rattle.source_tree.specs.FilingRules.{record_item}
use Rattle.source_tree.specs.NameRules.{no_part_rules}
use Rattle.source_tree.specs.Parts.{seen_through}
use Rattle.entry_rules.specs.Checks.{broken_of}
use Rattle.declarations.specs.Named.{files_in, items_in}
use Rattle.declarations.proofs.Firsts.{first_front}
use Rattle.check_rules.specs.Filed.{whole_record}
use Rattle.check_rules.proofs.Parts.{shape_refused, shape_kept, record_kept}
use Rattle.check_rules.proofs.checker.Checker.record_named_rules.Goals as goal

pub returns-in_err-shape_rules : goal.returns-in_err-shape_rules
returns-in_err-shape_rules g c =
    let p =
    err_from_is_err_and c.from_residual-in_err-shape_rules.result c.from_residual-in_err-shape_rules.ensures.1 in
    let items = items_in c.args.self.now.declarations.now in
    let one = c.args.one.now in
    let named = c.in_ok-number.ensures in
    rw (p.1, p.2) (shape_refused items one named.0 c.in_ok-number.found.now named.1 named.2
    (whole_record items (files_in c.args.self.now.declarations.now) c.args.phrases.now one)
    (broken_of c.in_err-shape_rules.field-0.0) c.in_err-shape_rules.ensures)

pub returns-in_err-no_part_rules : goal.returns-in_err-no_part_rules
returns-in_err-no_part_rules g c =
    let p = err_from_is_err_and c.from_residual-in_err-no_part_rules.result
    c.from_residual-in_err-no_part_rules.ensures.1 in
    let items = items_in c.args.self.now.declarations.now in
    let files = files_in c.args.self.now.declarations.now in
    let one = c.args.one.now in
    let named = c.in_ok-number.ensures in
    let asked = whole_record items files c.args.phrases.now one in
    let broken = c.in_err-no_part_rules.field-0.0 in
    rw (p.1, p.2) (shape_kept items one named.0 c.in_ok-number.found.now named.1 named.2 asked {A = ℕ} (Err broken)
    c.in_ok-shape_rules.ensures (first_front (no_part_rules one)
    (record_item items files c.args.phrases.now one.item.name.place (seen_through one named.0)) (broken_of broken)
    c.in_err-no_part_rules.ensures))

pub returns : goal.returns
returns g c =
    let named = c.in_ok-number.ensures in
    record_kept (items_in c.args.self.now.declarations.now) (files_in c.args.self.now.declarations.now)
    c.args.phrases.now c.args.one.now named.0 c.in_ok-number.found.now c.record_item_rules.result named.1 named.2
    c.in_ok-shape_rules.ensures c.in_ok-no_part_rules.ensures
    (c.record_item_rules.ensures named.0 named.4 (ap (λ (p : PlacedItem). p.area) named.2))
