use Rattle.std.proofs.Common.{◌≤◌, List, length, sym, subst, arith}
use Rattle.station.specs.declared.blocks.Block.{Block}
use Rattle.station.proofs.Spans.{stays, weakens}
use Rattle.half_store.specs.Write.{IsDraft}
use Rattle.half_store.proofs.Written.{at_rest, amid_drafted, rests_drafted, drafted_at}
use Rattle.half_store.proofs.halves.write_half.Goals as goal

pub two_phase_write-requires-clause-blocks : goal.two_phase_write-requires-clause-blocks
two_phase_write-requires-clause-blocks g c =
    drafted_at c.args.sectors c.args.generation c.args.bytes.now.items c.deref.result.now c.in_ok-draft.draft.root
    (subst (λ (b : List Block). IsDraft c.args.sectors c.args.generation c.args.bytes.now.items b
    c.in_ok-draft.draft.root) (sym c.deref.ensures.value) c.in_ok-draft.ensures.draft)
    (g.D.Device.sectors c.args.device.now) c.requires.least c.requires.device

pub returns-in_err-draft-clause-moments : goal.returns-in_err-draft-clause-moments
returns-in_err-draft-clause-moments g c = λ honest before after rests is good.
    let old = g.D.Device.state c.args.device.now in
    stays (g.D.Device.history c.args.device.now) old _ (at_rest c.args.sectors c.args.generation before after old rests)

pub returns-in_err-two_phase_write-clause-moments : goal.returns-in_err-two_phase_write-clause-moments
returns-in_err-two_phase_write-clause-moments g c = λ honest before after rests is good.
    let old = g.D.Device.state c.args.device.now in
    let draft = subst (λ (b : List Block). IsDraft c.args.sectors c.args.generation c.args.bytes.now.items b
    c.in_ok-draft.draft.root) (sym c.deref.ensures.value) c.in_ok-draft.ensures.draft in
    let size : c.args.sectors ≤ length old.disk.present =
    omega (arith, g.met.D.Device.all_present c.args.device.now honest, c.requires.device) in
    weakens (g.D.Device.history c.args.device.now) (g.D.Device.history c.two_phase_write.new.device)
    (g.D.Device.state c.two_phase_write.new.device) _ _
    (amid_drafted c.args.sectors c.args.generation old.disk.present before after c.args.bytes.now.items
    c.deref.result.now c.in_ok-draft.draft.root draft rests.holds c.requires.least size is good old.events)
    (c.two_phase_write.ensures.moments honest rests.settled)

pub returns-clause-moments : goal.returns-clause-moments
returns-clause-moments g c = λ honest before after rests is good.
    let old = g.D.Device.state c.args.device.now in
    let draft = subst (λ (b : List Block). IsDraft c.args.sectors c.args.generation c.args.bytes.now.items b
    c.in_ok-draft.draft.root) (sym c.deref.ensures.value) c.in_ok-draft.ensures.draft in
    let size : c.args.sectors ≤ length old.disk.present =
    omega (arith, g.met.D.Device.all_present c.args.device.now honest, c.requires.device) in
    weakens (g.D.Device.history c.args.device.now) (g.D.Device.history c.two_phase_write.new.device)
    (g.D.Device.state c.two_phase_write.new.device) _ _
    (amid_drafted c.args.sectors c.args.generation old.disk.present before after c.args.bytes.now.items
    c.deref.result.now c.in_ok-draft.draft.root draft rests.holds c.requires.least size is good old.events)
    (c.two_phase_write.ensures.moments honest rests.settled)

pub returns-clause-rests : goal.returns-clause-rests
returns-clause-rests g c = λ honest before after rests is good.
    let old = g.D.Device.state c.args.device.now in
    let draft = subst (λ (b : List Block). IsDraft c.args.sectors c.args.generation c.args.bytes.now.items b
    c.in_ok-draft.draft.root) (sym c.deref.ensures.value) c.in_ok-draft.ensures.draft in
    let size : c.args.sectors ≤ length old.disk.present =
    omega (arith, g.met.D.Device.all_present c.args.device.now honest, c.requires.device) in
    rests_drafted c.args.sectors c.args.generation old.disk.present before after c.args.bytes.now.items
    c.deref.result.now c.in_ok-draft.draft.root draft rests.holds c.requires.least size is good
    (g.D.Device.state c.two_phase_write.new.device).disk (c.in_ok-two_phase_write.ensures.durable honest)
