use Rattle.std.proofs.Common.{◌≡◌, ◌-◌, length, subst, refl, arith}
use Rattle.picture.specs.declared.symbol.Symbol.TheVariants.{A}
use Rattle.edited_move.proofs.Apart.{Spread, run_fits, spread_start, spread_run, spread_end}
use Rattle.edited_move.proofs.characters.edit_characters.Goals as goal

pub loop-run-init : goal.loop-run-init
loop-run-init c =
    let none : 0 ≡ length c.args.bytes.now - length c.args.bytes.now = omega arith in
    record {
      size = refl;
      within = omega arith;
      spread = subst (λ n. Spread c.args.runs.now c.args.bytes.now 0 n c.args.bytes.now) none
          (spread_start c.args.runs.now c.args.bytes.now c.requires);
    }

pub put_run-count-requires : goal.put_run-count-requires
put_run-count-requires c =
    let i = c.loop-run.invariant in
    (run_fits c.args.runs.now c.loop-run.run-index (length c.args.bytes.now - c.loop-run.left)
    (record { symbol = A; count = 0 }) c.loop-run.bytes c.loop-run-test.true i.spread.places).0

pub overflow_sub-left : goal.overflow_sub-left
overflow_sub-left c =
    let i = c.loop-run.invariant in
    let fits = (run_fits c.args.runs.now c.loop-run.run-index (length c.args.bytes.now - c.loop-run.left)
    (record { symbol = A; count = 0 }) c.loop-run.bytes c.loop-run-test.true i.spread.places).1 in
    omega (arith, fits, c.put_run-count.ensures.count, i.size, i.within)

pub loop-run-preserved : goal.loop-run-preserved
loop-run-preserved c =
    let i = c.loop-run.invariant in
    let next = spread_run c.args.runs.now c.args.bytes.now c.loop-run.bytes c.put_run-count.new.bytes _
    c.loop-run.run-index c.loop-run.left c.put_run-count.result (record { symbol = A; count = 0 }) c.loop-run-test.true
    i.size i.within i.spread c.put_run-count.ensures.bytes c.put_run-count.ensures.count refl in
    record { size = next.0; within = omega (arith, i.within); spread = next.1 }

pub returns : goal.returns
returns c = spread_end c.args.runs.now c.args.bytes.now c.loop-run.bytes c.loop-run.run-index
    (length c.args.bytes.now - c.loop-run.left) c.loop-run-test.false c.loop-run.invariant.spread
