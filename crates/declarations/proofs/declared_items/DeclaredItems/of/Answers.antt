use Rattle.std.proofs.Common.{length, ◌++◌, drop}
use Rattle.std.specs.Prelude.{◌-◌, sum}
use Rattle.source_tree.specs.Broken.{each}
use Rattle.source_tree.specs.EntryRules.{most_entries, excess}
use Rattle.source_tree.specs.FileRules.{file_entries, description_rules, record_storage_rules}
use Rattle.source_tree.specs.Levels.{forest_of}
use Rattle.source_tree.specs.Rooms.{area_lengths}
use Rattle.declarations.proofs.Firsts.{left_none, right_none}
use Rattle.declarations.proofs.declared_items.DeclaredItems.of.Goals as goal

pub item_names-requires-clause-files : goal.item_names-requires-clause-files
item_names-requires-clause-files c =
    let program = c.args.program.now in
    let past = each excess (drop (most_entries - length program.storage) (file_entries program.files)) in
    let own = each description_rules program.files in
    let areas = record_storage_rules (sum (area_lengths (forest_of program.storage))) program.files in
    right_none past own (left_none (past ++ own) areas c.requires.files)

pub returns : goal.returns
returns c = record {
  selects = c.as_slice.ensures;
  descriptions = c.as_slice-2.ensures;
  storage = c.as_slice-3.ensures;
  table = c.in_ok-names.ensures.table;
  calls = c.in_ok-names.ensures.calls;
  items = c.in_ok-layout.ensures;
}
