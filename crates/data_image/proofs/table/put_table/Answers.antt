use Rattle.std.proofs.Common.{sym, arith}
use Rattle.std.proofs.lemmas.List.{append-nil}
use Rattle.std.proofs.lemmas.Result.{err_from_is_err_and}
use Rattle.data_image.proofs.Entries.{puts_more, fits_more, puts_all, fits_all}
use Rattle.data_image.proofs.table.put_table.Goals as goal

pub returns-in_err-put_count : goal.returns-in_err-put_count
returns-in_err-put_count g c =
    let p = err_from_is_err_and c.from_residual.result c.from_residual.ensures.1 in
    rw p.1 (record { bytes = tt; count = tt; fits = tt })

pub loop-entry-init : goal.loop-entry-init
loop-entry-init g c = record {
  bytes = sym (append-nil c.put_count.new.out.items);
  fits = λ k d within. absurd (omega arith);
}

pub returns-in_err-put : goal.returns-in_err-put
returns-in_err-put g c =
    let p = err_from_is_err_and c.from_residual-in_err-put.result c.from_residual-in_err-put.ensures.1 in
    rw p.1 (record { bytes = tt; count = tt; fits = tt })

pub loop-entry-preserved : goal.loop-entry-preserved
loop-entry-preserved g c = record {
  bytes = puts_more g.T.TableEntry.spelled c.args.entries.now c.loop-entry.entry-index c.entry-item.result
      c.put_count.new.out.items _ _ c.loop-entry-test.true c.entry-item.is c.loop-entry.invariant.bytes
      c.in_ok-put.ensures.bytes;
  fits = fits_more g.T.TableEntry.fits c.args.entries.now c.loop-entry.entry-index c.entry-item.result
      c.loop-entry-test.true c.entry-item.is c.loop-entry.invariant.fits c.in_ok-put.ensures.fits;
}

pub returns : goal.returns
returns g c = record {
  bytes = puts_all g.T.TableEntry.spelled c.args.entries.now c.loop-entry.entry-index _ _ _ c.loop-entry-test.false
      c.in_ok-put_count.ensures.bytes c.loop-entry.invariant.bytes;
  count = c.put_count.ensures.fits;
  fits = fits_all g.T.TableEntry.fits c.args.entries.now c.loop-entry.entry-index c.loop-entry-test.false
      c.loop-entry.invariant.fits;
}
