use Rattle.std.proofs.Common.{refl}
use Rattle.std.proofs.lemmas.Result.{err_from_is_err_and}
use Rattle.data_image.specs.Faults.{fault_of}
use Rattle.data_image.specs.Tables.{tables_at}
use Rattle.data_image.proofs.Steps.{fails_here, fails_later, ok_later}
use Rattle.data_image.proofs.tables.read_tables.Goals as goal

pub returns-in_err-areas : goal.returns-in_err-areas
unfolding tables_at
returns-in_err-areas c =
    let p = err_from_is_err_and c.from_residual.result c.from_residual.ensures.1 in
    let fault = fault_of c.in_err-areas.field-0.0 in
    rw (p.1, p.2) (fails_here fault _ _ c.in_err-areas.ensures)

pub returns-in_err-items : goal.returns-in_err-items
unfolding tables_at
returns-in_err-items c =
    let p = err_from_is_err_and c.from_residual-in_err-items.result c.from_residual-in_err-items.ensures.1 in
    let fault = fault_of c.in_err-items.field-0.0 in
    rw (p.1, p.2) (fails_later fault _ _ _ c.in_ok-areas.ensures
    (fails_here fault _ _ c.in_err-items.ensures))

pub returns-in_err-numbers : goal.returns-in_err-numbers
unfolding tables_at
returns-in_err-numbers c =
    let p = err_from_is_err_and c.from_residual-in_err-numbers.result c.from_residual-in_err-numbers.ensures.1 in
    let fault = fault_of c.in_err-numbers.field-0.0 in
    rw (p.1, p.2) (fails_later fault _ _ _ c.in_ok-areas.ensures
    (fails_later fault _ _ _ c.in_ok-items.ensures
    (fails_here fault _ _ c.in_err-numbers.ensures)))

pub returns-in_err-senders : goal.returns-in_err-senders
unfolding tables_at
returns-in_err-senders c =
    let p = err_from_is_err_and c.from_residual-in_err-senders.result c.from_residual-in_err-senders.ensures.1 in
    let fault = fault_of c.in_err-senders.field-0.0 in
    rw (p.1, p.2) (fails_later fault _ _ _ c.in_ok-areas.ensures
    (fails_later fault _ _ _ c.in_ok-items.ensures
    (fails_later fault _ _ _ c.in_ok-numbers.ensures
    (fails_here fault _ _ c.in_err-senders.ensures))))

pub returns-in_err-texts : goal.returns-in_err-texts
unfolding tables_at
returns-in_err-texts c =
    let p = err_from_is_err_and c.from_residual-in_err-texts.result c.from_residual-in_err-texts.ensures.1 in
    let fault = fault_of c.in_err-texts.field-0.0 in
    rw (p.1, p.2) (fails_later fault _ _ _ c.in_ok-areas.ensures
    (fails_later fault _ _ _ c.in_ok-items.ensures
    (fails_later fault _ _ _ c.in_ok-numbers.ensures
    (fails_later fault _ _ _ c.in_ok-senders.ensures
    (fails_here fault _ _ c.in_err-texts.ensures)))))

pub returns-in_err-inspections : goal.returns-in_err-inspections
unfolding tables_at
returns-in_err-inspections c =
    let r = c.from_residual-in_err-inspections in
    let p = err_from_is_err_and r.result r.ensures.1 in
    let fault = fault_of c.in_err-inspections.field-0.0 in
    rw (p.1, p.2) (fails_later fault _ _ _ c.in_ok-areas.ensures
    (fails_later fault _ _ _ c.in_ok-items.ensures
    (fails_later fault _ _ _ c.in_ok-numbers.ensures
    (fails_later fault _ _ _ c.in_ok-senders.ensures
    (fails_later fault _ _ _ c.in_ok-texts.ensures
    (fails_here fault _ _ c.in_err-inspections.ensures))))))

pub returns : goal.returns
unfolding tables_at
returns c =
    ok_later _ _ _ _ c.in_ok-areas.ensures
    (ok_later _ _ _ _ c.in_ok-items.ensures (ok_later _ _ _ _ c.in_ok-numbers.ensures
    (ok_later _ _ _ _ c.in_ok-senders.ensures (ok_later _ _ _ _ c.in_ok-texts.ensures
    (ok_later _ _ _ _ c.in_ok-inspections.ensures refl)))))
