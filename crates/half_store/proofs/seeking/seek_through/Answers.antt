use Rattle.std.proofs.Common.{◌≡◌, ◌-◌, ◌+◌, ℕ, length, subst, arith}
use Rattle.records.specs.Stores.{spec_of, bound_at}
use Rattle.half_store.specs.Seeking.{IsBest}
use Rattle.half_store.proofs.Sought.{none_best}
use Rattle.half_store.proofs.seeking.seek_through.Goals as goal

pub loop-back-init : goal.loop-back-init
loop-back-init c = record {
  placed = tt;
  best = λ k is. none_best (spec_of c.args.spec.now) c.args.key (bound_at c.args.side c.args.value.now c.args.number)
      c.args.rows.now k (omega (arith, is));
}

pub loop-back-preserved : goal.loop-back-preserved
loop-back-preserved c = record {
  placed = c.better-best.ensures.bound;
  best = λ k is. subst (λ (n : ℕ). IsBest (spec_of c.args.spec.now) c.args.key
      (bound_at c.args.side c.args.value.now c.args.number) c.args.rows.now n c.better-best.result)
      (let e : length c.args.rows.now - 1 - c.loop-back.back ≡ k = omega (arith, is) in e)
      (c.better-best.ensures.best
      (c.loop-back.invariant.best (length c.args.rows.now - 1 - c.loop-back.back + 1) (omega arith)));
}

pub returns-clause-row : goal.returns-clause-row
returns-clause-row c = c.loop-back.invariant.best 0 (omega (arith, c.loop-back-test.false))
