use Rattle.std.proofs.Common.{length, refl, ap, ◌∙◌, arith, Some}
use Rattle.machine.proofs.Counters.{set_now}
use Rattle.station.proofs.Spans.{stays}
use Rattle.machine.specs.Progress.{Between}
use Rattle.machine.proofs.Leads.{counted_from, only_action}
use Rattle.machine.proofs.Ending.{without_failure}
use Rattle.machine.proofs.Steps.{after_count, between_now}
use Rattle.machine.proofs.Standing.{stands_after_count}
use Rattle.machine.proofs.acting.act.Goals as goal

pub count-requires : goal.count-requires
count-requires g c =
    let is = counted_from c.args.code.now c.requires.verified c.args.address c.in-Count.counter c.in-Count.turns
    (c.requires.here ∙ ap Some c.in-Count.is) in
    omega (arith, is.1, c.requires.stands.equipped.counters, ap length c.as_mut_slice.ensures.value)

pub returns-in-Count-clause-stands : goal.returns-in-Count-clause-stands
returns-in-Count-clause-stands g c =
    let r = c.args.registers.now in
    let now = set_now r.counters c.as_mut_slice.result.now c.count.new.counters c.in-Count.counter.number
    c.as_mut_slice.ensures.value
    c.in-Count.turns c.count.ensures in
    stands_after_count c.args.code.now r c.args.address c.requires.stands _ c.in-Count.counter c.in-Count.turns
    (c.requires.here ∙ ap Some c.in-Count.is) now refl refl refl

pub returns-in-Count-clause-on : goal.returns-in-Count-clause-on
returns-in-Count-clause-on g c = λ honest run before files connectors left so_far.
    let r = c.args.registers.now in
    let now = set_now r.counters c.as_mut_slice.result.now c.count.new.counters c.in-Count.counter.number
    c.as_mut_slice.ensures.value
    c.in-Count.turns c.count.ensures in
    after_count c.args.code.now c.args.day.now run before files connectors c.args.address left r _ so_far
    c.in-Count.counter c.in-Count.turns _ (c.requires.here ∙ ap Some c.in-Count.is) now refl refl refl refl

pub returns-in-Count-clause-moments : goal.returns-in-Count-clause-moments
returns-in-Count-clause-moments g c = λ honest run before files connectors left so_far.
    stays (g.S.Device.history c.args.station.now) (g.S.Device.state c.args.station.now)
    (Between run before files (g.S.Device.state c.args.station.now).disk)
    (between_now c.args.code.now c.args.day.now run before files connectors c.args.address left c.args.registers.now _
    so_far)

pub returns-in-CountNumber-clause-moments : goal.returns-in-CountNumber-clause-moments
returns-in-CountNumber-clause-moments g c = λ honest run before files connectors left so_far.
    stays (g.S.Device.history c.args.station.now) (g.S.Device.state c.args.station.now)
    (Between run before files (g.S.Device.state c.args.station.now).disk)
    (between_now c.args.code.now c.args.day.now run before files connectors c.args.address left c.args.registers.now _
    so_far)

pub returns-in-Count-clause-honest : goal.returns-in-Count-clause-honest
returns-in-Count-clause-honest g c = (λ is. is, λ is. is)

pub returns-in-CountNumber-clause-honest : goal.returns-in-CountNumber-clause-honest
returns-in-CountNumber-clause-honest g c = (λ is. is, λ is. is)

pub returns-in-Count-clause-cause : goal.returns-in-Count-clause-cause
returns-in-Count-clause-cause g c = omega arith

pub returns-in-Count-clause-within : goal.returns-in-Count-clause-within
returns-in-Count-clause-within g c =
    (counted_from c.args.code.now c.requires.verified c.args.address c.in-Count.counter c.in-Count.turns
    (c.requires.here ∙ ap Some c.in-Count.is)).0

pub returns-in-CountNumber-clause-cause : goal.returns-in-CountNumber-clause-cause
returns-in-CountNumber-clause-cause g c = without_failure c.count_number.result _ c.count_number.ensures.fault

pub returns-in-CountNumber-clause-on : goal.returns-in-CountNumber-clause-on
returns-in-CountNumber-clause-on g c = λ honest run before files connectors left so_far.
    c.count_number.ensures.on c.args.day.now run before files connectors left (g.S.Device.state c.args.station.now)
    so_far

pub unreachable-requires : goal.unreachable-requires
unreachable-requires g c =
    only_action c.args.one c.requires.action c.in_default.not-Count c.in_default.not-CountNumber
    c.in_default.not-Show c.in_default.not-Accept c.in_default.not-Date
