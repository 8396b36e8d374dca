use Rattle.std.proofs.Common.{◌≤◌, length, refl, arith}
use Rattle.std.proofs.lemmas.Result.{err_from_is_err_and}
use Rattle.source_tree.specs.Broken.{each}
use Rattle.source_tree.specs.EntryRules.{most_storage}
use Rattle.source_tree.specs.FileRules.{select_rules}
use Rattle.source_tree.specs.Records.{storage_areas}
use Rattle.layout.proofs.KeptFiles.{not_many_files}
use Rattle.entry_rules.specs.Checks.{fault_of}
use Rattle.declarations.specs.Found.{items_of}
use Rattle.declarations.specs.Selecting.{described_of}
use Rattle.declarations.proofs.Firsts.{each_first}
use Rattle.declarations.proofs.SelectFaults.{select_first}
use Rattle.declarations.proofs.declared_items.DeclaredItems.selects_rules.Goals as goal

pub described-there-requires-clause-areas : goal.described-there-requires-clause-areas
described-there-requires-clause-areas c =
    let files = c.args.self.now.descriptions.now in
    let few : length files ≤ most_storage = not_many_files c.args.self.now.storage.now files c.requires.files in
    let most = c.storage_areas-areas.ensures.most in
    omega (arith, few, most)

pub returns-in_err-select_rules : goal.returns-in_err-select_rules
returns-in_err-select_rules c =
    let p = err_from_is_err_and c.from_residual.result c.from_residual.ensures.1 in
    let all = c.args.self.now in
    let items = items_of all in
    let areas = storage_areas all.storage.now in
    let files = all.descriptions.now in
    let fault = fault_of c.in_err-select_rules.field-0.0 in
    let rules = select_rules items areas files in
    let one = c.one-item.result in
    let found = select_first items areas c.storage_areas-areas.result files files
    (described_of c.described-there.result) one fault c.storage_areas-areas.ensures.value refl
    c.described-there.ensures c.in_err-select_rules.ensures in
    rw (p.1, p.2) (each_first rules all.selects.now c.loop-one.one-index one (each rules all.selects.now)
    fault c.loop-one-test.true c.loop-one.invariant c.one-item.is found)
