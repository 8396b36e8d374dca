use Rattle.std.proofs.Common.{◌∙◌}
use Rattle.run_unit.proofs.Connecting.{no_entries, entries_grow, connectors_grow}
use Rattle.run_unit.proofs.over.connect.Goals as goal

pub loop-file-init : goal.loop-file-init
loop-file-init g c = record {
  entries = c.new-connectors.ensures.entries ∙ no_entries c.args.code.now.tables c.as_slice-file-items.result.now;
  connectors = c.new-connectors.ensures.connectors;
  needs = c.new-connectors.ensures.over.needs;
  spent = c.new-connectors.ensures.over.spent;
  stands = c.new-connectors.ensures.stands;
}

pub loop-file-preserved : goal.loop-file-preserved
loop-file-preserved g c =
    let files = c.as_slice-file-items.result.now in
    let so_far = c.loop-file.invariant in
    record {
      entries = entries_grow c.args.code.now.tables files c.loop-file.file-index c.file-item.result _ _ _
          c.loop-file-test.true c.file-item.is
          so_far.entries c.in_ok-select.ensures c.in-Ok.ensures.entries;
      connectors =
          connectors_grow files c.loop-file.file-index c.file-item.result _ _ c.loop-file-test.true c.file-item.is
          so_far.connectors c.in-Ok.ensures.connectors;
      needs = c.add.ensures.wider.needs ∙ so_far.needs;
      spent = c.add.ensures.wider.spent ∙ so_far.spent;
      stands = λ disk files stands. c.add.ensures.wider.stands disk files (so_far.stands disk files stands);
    }
