use Rattle.std.proofs.Common.{◌++◌}
use Rattle.std.proofs.lemmas.Result.{err_from_is_err_and}
use Rattle.source_tree.specs.FilingRules.{from_rules}
use Rattle.source_tree.specs.NameRules.{number_rules_of}
use Rattle.entry_rules.specs.Checks.{broken_of}
use Rattle.declarations.specs.Named.{files_in, items_in}
use Rattle.check_rules.specs.Filed.{whole_record}
use Rattle.check_rules.specs.References.{named_rules}
use Rattle.declarations.proofs.Firsts.{first_front}
use Rattle.check_rules.proofs.checker.Checker.record_rules.Goals as goal

pub returns-in_err-record_named_rules : goal.returns-in_err-record_named_rules
returns-in_err-record_named_rules g c =
    let p = err_from_is_err_and c.from_residual.result c.from_residual.ensures.1 in
    let items = items_in c.args.self.now.declarations.now in
    let files = files_in c.args.self.now.declarations.now in
    let one = c.args.one.now in
    let broken = broken_of c.in_err-record_named_rules.field-0.0 in
    let own = named_rules items (whole_record items files c.args.phrases.now one) one in
    let subscripts = number_rules_of items one in
    rw (p.1, p.2) (first_front (own ++ subscripts) (from_rules items files one c.args.from.now) broken
    (first_front own subscripts broken c.in_err-record_named_rules.ensures))
