use Rattle.std.proofs.Common.{◌≡◌, Ok, Err, ap, sym, subst, ◌∙◌}
use Rattle.records.specs.declared.fault.StoreFault.TheVariants.{Memory}
use Rattle.records.specs.Spec.{Spec}
use Rattle.volume_copies.specs.Record.{record_of}
use Rattle.volume_copies.specs.declared.load_end.LoadEnd.TheVariants.{Malformed, Refused, Rejected}
use Rattle.records.specs.declared.status.Status.TheVariants.{Boundary}
use Rattle.volume_copies.specs.OneLine.{IsPast}
use Rattle.volume_copies.proofs.Inserted.{past_next}
use Rattle.volume_copies.proofs.OneRow.{row_moments, row_adds, row_rejects, line_stays, memory_not_damaged}
use Rattle.volume_copies.proofs.loading.add_line.Goals as goal

pub returns-then-is_row-clause-adds : goal.returns-then-is_row-clause-adds
returns-then-is_row-clause-adds g c = λ files file stands has next.
    row_adds c.args.file.now c.args.number c.args.line.now c.deref.result.now files file has
    (c.is_number_of.ensures.new c.if-not-is_number_of.false) next (c.in-Ok.ensures ∙ ap Ok (sym c.deref.ensures.value))
    g.S.Keeps g.D.Device c.args.store.now c.args.device.now c.insert.new.self c.insert.new.device _
    (c.in-Ok-insert.ensures.outcome files file stands has) (c.in-Ok-insert.ensures.turns files file stands has)
    (sym c.is_row.ensures ∙ c.if-is_row.true)

pub returns-in-Ok-insert-clause-adds : goal.returns-in-Ok-insert-clause-adds
returns-in-Ok-insert-clause-adds g c = λ files file stands has next.
    row_rejects c.args.file.now c.args.number c.args.line.now c.deref.result.now files file has
    (c.is_number_of.ensures.new c.if-not-is_number_of.false) next (c.in-Ok.ensures ∙ ap Ok (sym c.deref.ensures.value))
    g.S.Keeps g.D.Device c.args.store.now c.args.device.now c.insert.new.self c.insert.new.device _
    (c.in-Ok-insert.ensures.outcome files file stands has) (c.in-Ok-insert.ensures.turns files file stands has)
    (sym c.is_row.ensures ∙ c.if-is_row.false)

pub returns-clause-adds : goal.returns-clause-adds
returns-clause-adds g c = λ files file stands has next.
    let turns = c.in-Err.ensures.turns files file stands has in
    record {
      moments = row_moments c.args.file.now c.args.number c.args.line.now c.deref.result.now files file has
          (c.is_number_of.ensures.new c.if-not-is_number_of.false) next
          (c.in-Ok.ensures ∙ ap Ok (sym c.deref.ensures.value)) g.S.Keeps g.D.Device c.args.store.now c.args.device.now
          c.insert.new.self c.insert.new.device _ turns;
      added = tt;
      why = λ damaged. turns.sound (ap Err damaged);
      stays = tt;
    }

pub returns-in-Err-Fault-clause-adds : goal.returns-in-Err-Fault-clause-adds
returns-in-Err-Fault-clause-adds g c = λ files file stands has next.
    line_stays g.S.Keeps g.D.Device c.args.file.now c.args.number c.args.line.now files file c.args.store.now
    c.args.device.now (g.met.S.Store.held c.args.store.now) stands (Malformed c.in-Err-Fault.fault)
    (subst (λ (p : Spec). record_of p.record_length c.args.line.now ≡ Err c.in-Err-Fault.fault) (sym has.spec)
    (rw c.in-Err-Fault.field-0-is at c.in-Err-Fault.ensures)) stands

pub returns-in-Err-Memory-clause-adds : goal.returns-in-Err-Memory-clause-adds
returns-in-Err-Memory-clause-adds g c = λ files file stands has next.
    line_stays g.S.Keeps g.D.Device c.args.file.now c.args.number c.args.line.now files file c.args.store.now
    c.args.device.now (g.met.S.Store.held c.args.store.now) stands (Refused Memory) memory_not_damaged tt

pub returns-then-not-is_number_of-clause-adds : goal.returns-then-not-is_number_of-clause-adds
returns-then-not-is_number_of-clause-adds g c = λ files file stands has next.
    line_stays g.S.Keeps g.D.Device c.args.file.now c.args.number c.args.line.now files file c.args.store.now
    c.args.device.now (g.met.S.Store.held c.args.store.now) stands (Rejected Boundary) (record {
      bytes = c.in-Ok.record.items;
      reads = subst (λ (p : Spec). record_of p.record_length c.args.line.now ≡ Ok c.in-Ok.record.items) (sym has.spec)
          c.in-Ok.ensures;
      rejected = past_next c.args.number file (subst (λ (p : Spec). IsPast p.organization c.args.number) (sym has.spec)
          (c.is_number_of.ensures.past c.if-not-is_number_of.true)) next;
    }) stands
