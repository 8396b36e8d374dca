use Rattle.std.proofs.Common.{ap, ◌∙◌}
use Rattle.std.specs.Option.{option_copied}
use Rattle.std.proofs.lemmas.Result.{on_ok_weaker}
use Rattle.source_tree.specs.Levels.{forest_of}
use Rattle.source_tree.specs.Names.{with_name}
use Rattle.name_table.specs.Table.{calls_in, names_of}
use Rattle.name_table.proofs.ItemCalls.{entered}
use Rattle.name_table.proofs.declaration.+declaring.Goals as goal

pub declare_item-returns-clause-calls : goal.declare_item-returns-clause-calls
declare_item-returns-clause-calls t c =
    on_ok_weaker c.declare_group.result (λ h.
    entered (calls_in c.declare_group.new.table) (calls_in c.add.new.self) (calls_in c.args.table.now)
    c.args.one.entry.now.name
    (option_copied c.as_ref-name.result) (names_of c.args.groups.now) (names_of c.in_ok-around.around.items)
    (names_of c.deref.result.now) (forest_of c.args.one.inner.now)
    h c.in_ok-add.ensures.calls c.as_ref-name.ensures.value
    (ap names_of c.in_ok-around.ensures.items) (ap names_of c.deref.ensures.value ∙ c.in_ok-within.ensures
    ∙ ap (λ n. with_name n (names_of c.args.groups.now)) c.as_ref-name.ensures.value))
    c.declare_group.ensures.calls
