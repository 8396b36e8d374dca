use Rattle.std.proofs.Common.{◌≡◌, ◌++◌, List, drop}
use Rattle.source_tree.specs.declared.entry.ItemEntry.{ItemEntry}
use Rattle.declarations.specs.Entries.{items_among}
use Rattle.source_commands.specs.Layout.{item_lines, items_after}
use Rattle.source_commands.proofs.layout_text.push_entries.Given as goal

abbrev pub invariant-loop-entry : goal.invariant-loop-entry
invariant-loop-entry l =
    let all : List ItemEntry = items_among l.entries in
    let left : List ItemEntry = items_among (drop l.entry-index l.entries) in
    (l.out.items ++ item_lines l.rest left ≡ l.initial.out.items ++ item_lines l.initial.rest all)
    × (items_after l.rest left ≡ items_after l.initial.rest all)
