use Rattle.initial_storage.specs.Fits.{FitsFile}
use Rattle.initial_storage.specs.Formed.{FormsFile}
use Rattle.source_tree.specs.Clauses.{nothing_around}
use Rattle.initial_storage.proofs.Counted.{item_in_file, item_past_file, others_have, found_if}
use Rattle.initial_storage.proofs.outlines.record_item_at.Goals as goal

pub returns-then-left-within : goal.returns-then-left-within
returns-then-left-within c = found_if _ _ c.args.number c.loop-file.left c.item_at.result
    (item_in_file c.args.files.now c.loop-file.file-index c.file-item.result _ c.loop-file.left _ c.args.number
    c.loop-file-test.true c.file-item.is c.as_slice-entries.ensures
    (c.count_items-within.ensures nothing_around) c.loop-file.invariant.same c.if-left-within.true) c.item_at.ensures

pub loop-file-preserved : goal.loop-file-preserved
loop-file-preserved c =
    let inv = c.loop-file.invariant in
    let files = c.args.files.now in
    let i = c.loop-file.file-index in
    record {
      fits = others_have FitsFile files i _ c.loop-file-test.true c.file-item.is inv.fits;
      formed = others_have FormsFile files i _ c.loop-file-test.true c.file-item.is inv.formed;
      same = item_past_file files i _ _ c.loop-file.left _ c.args.number c.loop-file-test.true c.file-item.is
          c.as_slice-entries.ensures (c.count_items-within.ensures nothing_around) inv.same c.if-left-within.false;
    }
