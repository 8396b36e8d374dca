use Rattle.std.proofs.Common.{◌∙◌}
use Rattle.declarations.specs.Named.{items_in}
use Rattle.codegen.proofs.StorageItems.{items_more}
use Rattle.codegen.proofs.storage.put_data.Goals as goal

pub loop-one-preserved : goal.loop-one-preserved
loop-one-preserved c =
    items_more (items_in c.args.declarations.now) c.as_slice-one-items.result.now c.loop-one.one-index c.one-item.result
    c.in_ok-data_item.field-0 c.loop-one.items c.push.new.self
    (c.as_slice-one-items.ensures ∙ c.args.declarations.now.declared.items) c.loop-one-test.true c.one-item.is
    c.in_ok-data_item.ensures
    c.loop-one.invariant c.in_ok-push.ensures.ok
