use Rattle.std.proofs.Common.{arith}
use Rattle.std.specs.Prelude.{slice_index}
use Rattle.data_machine.proofs.Inspects.{fits_more}
use Rattle.data_machine.proofs.inspect_statement.fits_together.Goals as goal

pub loop-number-preserved : goal.loop-number-preserved
loop-number-preserved c =
    let inv = c.loop-number.invariant in
    let is = fits_more (slice_index c.args.counts.now) c.args.from c.loop-number.number c.loop-number.fits
    c.from-fits.result inv.value c.from-fits.ensures in
    record { value = is; small = omega arith }
