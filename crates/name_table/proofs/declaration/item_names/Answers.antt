use Rattle.std.proofs.Common.{[], ◌++◌, ap, sym, ◌∙◌}
use Rattle.source_tree.specs.Levels.{forest_of}
use Rattle.name_table.specs.Items.{item_calls, record_calls}
use Rattle.name_table.proofs.ItemCalls.{of_program}
use Rattle.name_table.proofs.declaration.item_names.Goals as goal

pub returns-clause-calls : goal.returns-clause-calls
returns-clause-calls c =
    c.in_ok-declare_records.ensures.calls
    ∙ ap (λ l. l ++ record_calls c.as_slice.result.now) (c.in_ok-declare_group.ensures.calls
    ∙ ap (λ l. l ++ item_calls [] (forest_of c.as_slice-storage.result.now)) c.new-table.ensures.calls)
    ∙ ap (λ l. item_calls [] (forest_of l) ++ record_calls c.as_slice.result.now) c.as_slice-storage.ensures
    ∙ ap (λ l. item_calls [] (forest_of c.args.program.now.storage) ++ record_calls l) c.as_slice.ensures
    ∙ sym (of_program c.args.program.now)
