use Rattle.std.proofs.Common.{◌≡◌, ◌∙◌, List, ◌++◌, ap, map}
use Rattle.source_tree.specs.declared.entry.ItemEntry.{ItemEntry}
use Rattle.source_tree.specs.ProgramFiles.{ProgramFile, files_of}
use Rattle.layout.specs.declared.placed.PlacedItem.{PlacedItem}
use Rattle.layout.specs.Placing.{placed_item}
use Rattle.declarations.specs.Entries.{items_among}
use Rattle.declarations.specs.Named.{data_in, items_in}
use Rattle.source_commands.specs.Layout.{heading, item_lines, items_after, file_lines}
use Rattle.source_commands.proofs.layout_text.layout_text.Goals as goal

pub returns : goal.returns
returns c =
    let all = c.args.declared.now in
    let items : List PlacedItem = map placed_item (items_in all) in
    let entries : List ItemEntry = items_among all.storage.now in
    let files : List ProgramFile = files_of (items_in all) (data_in all) in
    let placed : c.as_slice-items.result.now ≡ items = c.as_slice-items.ensures ∙ all.declared.items in
    let lines : c.push_entries.new.out.items ≡ heading ++ item_lines items entries = c.in_ok-rest.ensures.lines
    ∙ ap (λ out. out ++ item_lines c.as_slice-items.result.now entries) c.in_ok-out.ensures.items
    ∙ ap (λ all. heading ++ item_lines all entries) placed in
    let rest : c.in_ok-rest.rest.now ≡ items_after items entries =
    c.in_ok-rest.ensures.rest ∙ ap (λ all. items_after all entries) placed in
    c.in_ok-push_files.ensures (items_in all) (data_in all) all.declared.files
    ∙ ap (λ out. out ++ file_lines files c.in_ok-rest.rest.now all.descriptions.now) lines
    ∙ ap (λ l. heading ++ item_lines items entries ++ file_lines files l all.descriptions.now) rest
