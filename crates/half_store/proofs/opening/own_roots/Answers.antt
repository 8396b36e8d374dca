use Rattle.std.proofs.Common.{sym, subst}
use Rattle.half_store.specs.Opened.{IsOpenRefusal}
use Rattle.records.specs.declared.fault.StoreFault.{StoreFault}
use Rattle.half_store.proofs.Opened.{roots_refused}
use Rattle.half_store.proofs.opening.own_roots.Goals as goal

pub returns-in-Err-clause-refused : goal.returns-in-Err-clause-refused
returns-in-Err-clause-refused g c = λ honest.
    let present = (g.D.Device.state c.args.device.now).disk.present in
    subst (λ (f : StoreFault). IsOpenRefusal present f) (sym c.fault_of.ensures)
    (roots_refused present c.in-Err.error (c.in-Err.ensures.roots honest))
