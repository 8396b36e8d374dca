use Rattle.std.proofs.Common.{◌≡◌, ◌+◌, ◌*◌, ℕ, ◌∙◌, ap, rules, arith}
use Rattle.std.specs.Prelude.{None}
use Rattle.records.specs.declared.fault.StoreFault.TheVariants.{Memory}
use Rattle.records.specs.Stores.{spec_of}
use Rattle.half_store.specs.Read.{row_size}
use Rattle.half_store.proofs.Passed.{if_refused, refused_never}
use Rattle.half_store.proofs.Rested.{stepped, passed, row_more}
use Rattle.half_store.proofs.reading.read_rows.Goals as goal

pub loop-row-preserved : goal.loop-row-preserved
loop-row-preserved c =
    let spec = spec_of c.args.spec.now in
    let k = c.loop-row._row in
    let before = c.loop-row.invariant in
    record {
      place = ap (λ (n : ℕ). c.loop-row.place + n) c.row_size-size.ensures.size
          ∙ stepped c.args.at (row_size spec) k c.loop-row.place before.place;
      within = search rules;
      rows = row_more spec c.args.bytes.now c.args.at k c.loop-row.place c.loop-row.rows.items c.push.new.self.items
          c.in_ok-row.row before.place before.rows c.in_ok-row.ensures.row c.in_ok-push.ensures.items;
    }

pub returns-clause-end : goal.returns-clause-end
returns-clause-end c =
    let all : c.loop-row._row ≡ c.args.count = omega (arith, c.loop-row.auto._row-end, c.loop-row-test.false) in (
      c.loop-row.invariant.place ∙ ap (λ (n : ℕ). c.args.at + row_size (spec_of c.args.spec.now) * n) all,
      c.loop-row.invariant.within,
    )

pub returns-then-bytes-place-clause-none : goal.returns-then-bytes-place-clause-none
returns-then-bytes-place-clause-none c = λ told.
    let e = passed c.args.at (row_size (spec_of c.args.spec.now)) c.loop-row._row c.args.count c.loop-row.place
    c.loop-row.invariant.place c.loop-row-test.true in
    omega (arith, e, c.if-bytes-place.true, c.row_size-size.ensures.size)

pub returns-in_err-row-clause-rows : goal.returns-in_err-row-clause-rows
returns-in_err-row-clause-rows c = if_refused c.from_residual.result c.in_err-row.field-0.0 c.from_residual.ensures.1 _

pub returns-in_err-row-clause-end : goal.returns-in_err-row-clause-end
returns-in_err-row-clause-end c = if_refused c.from_residual.result c.in_err-row.field-0.0 c.from_residual.ensures.1 _

pub returns-in_err-row-clause-none : goal.returns-in_err-row-clause-none
returns-in_err-row-clause-none c =
    λ told. refused_never c.from_residual.result c.in_err-row.field-0.0 None c.from_residual.ensures.1 told

pub returns-in_err-push-clause-rows : goal.returns-in_err-push-clause-rows
returns-in_err-push-clause-rows c =
    if_refused c.from_residual-in_err-push.result Memory c.from_residual-in_err-push.ensures.1 _

pub returns-in_err-push-clause-end : goal.returns-in_err-push-clause-end
returns-in_err-push-clause-end c =
    if_refused c.from_residual-in_err-push.result Memory c.from_residual-in_err-push.ensures.1 _

pub returns-in_err-push-clause-none : goal.returns-in_err-push-clause-none
returns-in_err-push-clause-none c =
    λ told. refused_never c.from_residual-in_err-push.result Memory None c.from_residual-in_err-push.ensures.1 told
