use Rattle.std.proofs.lemmas.Result.{err_from_is_err_and}
use Rattle.source_tree.specs.NameRules.{subscript_rules, length_rules}
use Rattle.entry_rules.specs.Checks.{broken_of}
use Rattle.declarations.specs.Named.{items_in}
use Rattle.declarations.proofs.Firsts.{first_front}
use Rattle.check_rules.proofs.checker.Checker.place_rules.Goals as goal

pub returns-in_err-subscript_rules : goal.returns-in_err-subscript_rules
returns-in_err-subscript_rules c =
    let p = err_from_is_err_and c.from_residual.result c.from_residual.ensures.1 in
    let items = items_in c.args.self.now.declarations.now in
    let one = c.args.one.now in
    rw (p.1, p.2) (first_front (subscript_rules items one.first) (length_rules items one.length)
    (broken_of c.in_err-subscript_rules.field-0.0) c.in_err-subscript_rules.ensures)
