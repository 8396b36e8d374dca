use Rattle.std.proofs.Common.{◌+◌, [], ◌∷◌, ◌++◌, drop, subst, sym, ap, ◌∙◌}
use Rattle.source_tree.specs.Levels.{forest_of}
use Rattle.data_entries.specs.Nesting.{AreTold}
use Rattle.name_table.specs.Items.{item_calls}
use Rattle.name_table.specs.Table.{calls_in}
use Rattle.name_table.proofs.Records.{rest_at, first_kept, others_kept, declared_step}
use Rattle.name_table.proofs.declaration.declare_records.Goals as goal

pub declare_group-requires-clause-told : goal.declare_group-requires-clause-told
declare_group-requires-clause-told c =
    let files = c.args.files.now in
    let i = c.loop-file.file-index in
    let one = c.file-item.result in
    let rest = rest_at files i one c.loop-file-test.true c.file-item.is in
    subst (λ l. AreTold (forest_of l)) (sym c.as_slice.ensures)
    (c.record_levels_are_told.ensures one
    (first_kept (drop i files) (drop (i + 1) files) one rest c.loop-file.invariant.rules))

pub loop-file-preserved : goal.loop-file-preserved
loop-file-preserved c =
    let files = c.args.files.now in
    let i = c.loop-file.file-index in
    let one = c.file-item.result in
    let rest = rest_at files i one c.loop-file-test.true c.file-item.is in
    record {
      rules = others_kept (drop i files) (drop (i + 1) files) one rest c.loop-file.invariant.rules;
      table = c.in_ok-declare_group.ensures.table;
      calls = declared_step (drop i files) (drop (i + 1) files) one rest (calls_in c.declare_group.new.table)
          (calls_in c.loop-file.table) _
          (c.in_ok-declare_group.ensures.calls ∙ ap (λ l. calls_in c.loop-file.table
          ++ item_calls (one.name ∷ []) (forest_of l)) c.as_slice.ensures) c.loop-file.invariant.calls;
    }
