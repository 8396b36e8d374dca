use Rattle.std.proofs.Common.{◌++◌}
use Rattle.std.proofs.lemmas.Result.{err_from_is_err_and}
use Rattle.source_tree.specs.FilingRules.{start_key_rules, phrase_kind_rules}
use Rattle.entry_rules.specs.Checks.{broken_of}
use Rattle.file_descriptions.specs.Files.{file_in}
use Rattle.check_rules.specs.Filed.{start_file_rules}
use Rattle.declarations.specs.Named.{files_in, items_in}
use Rattle.declarations.proofs.Firsts.{first_front, first_back}
use Rattle.check_rules.proofs.checker.Checker.start_found_rules.Goals as goal

pub returns-in_err-start_file_rules : goal.returns-in_err-start_file_rules
returns-in_err-start_file_rules g c =
    let p = err_from_is_err_and c.from_residual.result c.from_residual.ensures.1 in
    let items = items_in c.args.self.now.declarations.now in
    let files = files_in c.args.self.now.declarations.now in
    let file = file_in items c.args.file.now in
    let broken = broken_of c.in_err-start_file_rules.field-0.0 in
    let own = start_file_rules c.args.place file in
    let keys = start_key_rules items files file c.args.key.now in
    rw (p.1, p.2) (first_front (own ++ keys) (phrase_kind_rules items files c.args.place c.args.phrases.now file) broken
    (first_front own keys broken c.in_err-start_file_rules.ensures))

pub returns-in_err-start_key_rules : goal.returns-in_err-start_key_rules
returns-in_err-start_key_rules g c =
    let p = err_from_is_err_and c.from_residual-in_err-start_key_rules.result
    c.from_residual-in_err-start_key_rules.ensures.1 in
    let items = items_in c.args.self.now.declarations.now in
    let files = files_in c.args.self.now.declarations.now in
    let file = file_in items c.args.file.now in
    let broken = broken_of c.in_err-start_key_rules.field-0.0 in
    let own = start_file_rules c.args.place file in
    let keys = start_key_rules items files file c.args.key.now in
    rw (p.1, p.2) (first_front (own ++ keys) (phrase_kind_rules items files c.args.place c.args.phrases.now file) broken
    (first_back own keys broken c.in_ok-start_file_rules.ensures c.in_err-start_key_rules.ensures))
