use Rattle.std.proofs.Common.{◌++◌, ap, sym, ◌∙◌}
use Rattle.std.specs.Prelude.{Bool}
use Rattle.std.proofs.lemmas.Result.{err_from_is_err_and}
use Rattle.source_tree.specs.Filing.{is_in_sequence}
use Rattle.source_tree.specs.FilingRules.{read_key_rules, into_rules}
use Rattle.source_tree.specs.LookUp.{first}
use Rattle.entry_rules.specs.Checks.{broken_of}
use Rattle.file_descriptions.specs.Files.{file_in}
use Rattle.check_rules.specs.Filed.{read_file_rules}
use Rattle.declarations.specs.Named.{files_in, items_in}
use Rattle.declarations.proofs.Firsts.{first_front, first_back}
use Rattle.check_rules.proofs.checker.Checker.read_found_rules.Goals as goal

pub returns-in_err-read_file_rules : goal.returns-in_err-read_file_rules
returns-in_err-read_file_rules g c =
    let p = err_from_is_err_and c.from_residual.result c.from_residual.ensures.1 in
    let items = items_in c.args.self.now.declarations.now in
    let files = files_in c.args.self.now.declarations.now in
    let file = file_in items c.args.file.now in
    let broken = broken_of c.in_err-read_file_rules.field-0.0 in
    let own = read_file_rules c.args.place c.args.next c.args.phrases.now file in
    let keys = read_key_rules items files (is_in_sequence file c.args.next) file c.args.key.now in
    rw (p.1, p.2) (first_front (own ++ keys) (into_rules items files file c.args.into.now) broken
    (first_front own keys broken c.in_err-read_file_rules.ensures))

pub returns-in_err-read_key_rules : goal.returns-in_err-read_key_rules
returns-in_err-read_key_rules g c =
    let p =
    err_from_is_err_and c.from_residual-in_err-read_key_rules.result c.from_residual-in_err-read_key_rules.ensures.1 in
    let items = items_in c.args.self.now.declarations.now in
    let files = files_in c.args.self.now.declarations.now in
    let file = file_in items c.args.file.now in
    let broken = broken_of c.in_err-read_key_rules.field-0.0 in
    let own = read_file_rules c.args.place c.args.next c.args.phrases.now file in
    let keys = read_key_rules items files (is_in_sequence file c.args.next) file c.args.key.now in
    let found =
    ap (λ (b : Bool). first (read_key_rules items files b file c.args.key.now)) (sym c.is_in_sequence.ensures)
    ∙ c.in_err-read_key_rules.ensures in
    rw (p.1, p.2) (first_front (own ++ keys) (into_rules items files file c.args.into.now) broken
    (first_back own keys broken c.in_ok-read_file_rules.ensures found))
