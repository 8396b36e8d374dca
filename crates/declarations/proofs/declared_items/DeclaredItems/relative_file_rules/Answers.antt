use Rattle.std.proofs.Common.{◌++◌}
use Rattle.std.proofs.lemmas.Result.{err_from_is_err_and}
use Rattle.source_tree.specs.Broken.{each}
use Rattle.source_tree.specs.FileRules.{another_clause, another_key, in_clause, relative_rules}
use Rattle.entry_rules.specs.Checks.{broken_of}
use Rattle.declarations.specs.Found.{items_of}
use Rattle.declarations.specs.Selecting.{described_of}
use Rattle.declarations.proofs.Firsts.{first_front}
use Rattle.declarations.proofs.declared_items.DeclaredItems.relative_file_rules.Goals as goal

pub returns-in_err-relative_rules : goal.returns-in_err-relative_rules
returns-in_err-relative_rules c =
    let p = err_from_is_err_and c.from_residual.result c.from_residual.ensures.1 in
    let one = c.args.one.now in
    let broken = broken_of c.in_err-relative_rules.field-0.0 in
    let keys = relative_rules (items_of c.args.self.now) (described_of c.args.there) one one.relative_key in
    rw (p.1, p.2)
    (first_front (keys ++ in_clause another_clause one.record_key) (each another_key one.alternate_keys) broken
    (first_front keys (in_clause another_clause one.record_key) broken c.in_err-relative_rules.ensures))
