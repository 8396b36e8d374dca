use Rattle.std.proofs.Common.{ℕ, List, length, Some, refl, sym, ap, subst, ◌∙◌, arith}
use Rattle.station.proofs.Spans.{stays}
use Rattle.data_machine.specs.Finds.{HasItemRoom}
use Rattle.machine.specs.declared.ended.Refusal.{Refusal}
use Rattle.machine.specs.declared.ended.Ended.TheVariants.{Refused}
use Rattle.machine.specs.Ends.{IsOwnEnd}
use Rattle.machine.specs.Progress.{Between, IsOver}
use Rattle.machine.proofs.Counters.{as_many_now}
use Rattle.machine.proofs.Ending.{fault_or_refusal}
use Rattle.machine.proofs.Leads.{outside_from, only_outside}
use Rattle.machine.proofs.Steps.{between_now, showing_through, at_failed_show, at_failed_line, through_line}
use Rattle.machine.proofs.Steps.{through_failed_line, at_no_day, after_show, after_accept, after_date}
use Rattle.machine.proofs.Standing.{finds_for_accept, finds_for_date, stands_after_show, stands_after_accept}
use Rattle.machine.proofs.Standing.{stands_after_date}
use Rattle.machine.proofs.outside.converse.Goals as goal

pub accept_line-requires-clause-operand : goal.accept_line-requires-clause-operand
accept_line-requires-clause-operand g c =
    finds_for_accept c.args.code.now c.args.registers.now c.args.address c.requires.stands
    (c.requires.here ∙ ap Some c.in-Accept.is)

pub date-requires-clause-operand : goal.date-requires-clause-operand
date-requires-clause-operand g c = finds_for_date c.args.code.now c.args.registers.now c.args.address c.requires.stands
    (c.requires.here ∙ ap Some c.in-Date.is)

pub returns-in-Ok-clause-stands : goal.returns-in-Ok-clause-stands
returns-in-Ok-clause-stands g c =
    stands_after_show c.args.code.now c.args.registers.now c.args.address c.requires.stands _
    (c.requires.here ∙ ap Some c.in-Show.is) c.in-Ok.ensures.empty c.in-Ok.ensures.keeps refl refl refl

pub returns-in-Ok-clause-on : goal.returns-in-Ok-clause-on
returns-in-Ok-clause-on g c = λ honest run before files connectors left so_far.
    after_show c.args.code.now c.args.day.now run before files connectors c.args.address left c.args.registers.now _
    so_far
    (c.requires.here ∙ ap Some c.in-Show.is) _ _ (c.in-Ok.ensures.shown honest) c.in-Ok.ensures.empty refl refl refl
    refl

pub returns-in-Ok-clause-moments : goal.returns-in-Ok-clause-moments
returns-in-Ok-clause-moments g c = λ honest run before files connectors left so_far.
    showing_through c.args.code.now c.args.day.now run before files connectors c.args.address left c.args.registers.now
    _ so_far
    (c.requires.here ∙ ap Some c.in-Show.is) _ _ _ (c.show_line.ensures.moments honest)

pub returns-in-Err-clause-own : goal.returns-in-Err-clause-own
returns-in-Err-clause-own g c =
    subst (λ (refusal : Refusal). IsOwnEnd (Refused refusal)) (sym c.in-Err.ensures.device) tt

pub returns-in-Err-clause-moments : goal.returns-in-Err-clause-moments
returns-in-Err-clause-moments g c = λ honest run before files connectors left so_far.
    showing_through c.args.code.now c.args.day.now run before files connectors c.args.address left c.args.registers.now
    _ so_far
    (c.requires.here ∙ ap Some c.in-Show.is) _ _ _ (c.show_line.ensures.moments honest)

pub returns-in-Err-clause-on : goal.returns-in-Err-clause-on
returns-in-Err-clause-on g c = λ honest run before files connectors left so_far.
    subst (λ (refusal : Refusal). IsOver run before files (Refused refusal) (g.S.Device.state c.show_line.new.station))
    (sym c.in-Err.ensures.device)
    (at_failed_show c.args.code.now c.args.day.now run before files connectors c.args.address left c.args.registers.now
    _ so_far
    (c.requires.here ∙ ap Some c.in-Show.is) _ (c.show_line.ensures.moments honest).now)

pub returns-in-Ok-accept_line-clause-stands : goal.returns-in-Ok-accept_line-clause-stands
returns-in-Ok-accept_line-clause-stands g c =
    stands_after_accept c.args.code.now c.args.registers.now c.args.address c.requires.stands _
    c.in-Ok-accept_line.ensures.stored.0
    (c.requires.here ∙ ap Some c.in-Accept.is)
    c.in-Ok-accept_line.ensures.stored.1 c.in-Ok-accept_line.ensures.keeps refl refl
    (as_many_now c.args.registers.now.input c.accept_line.new.input
    (c.accept_line.auto.input ∙ ap length c.as_mut_slice-input.ensures.value))

pub returns-in-Ok-accept_line-clause-on : goal.returns-in-Ok-accept_line-clause-on
returns-in-Ok-accept_line-clause-on g c = λ honest run before files connectors left so_far.
    after_accept c.args.code.now c.args.day.now run before files connectors c.args.address left c.args.registers.now _
    so_far
    (c.requires.here ∙ ap Some c.in-Accept.is) _ _ _ (c.accept_line.ensures.moves honest)
    _ (c.in-Ok-accept_line.ensures.taken honest) (c.in-Ok-accept_line.ensures.accepted honest) refl refl refl refl

pub returns-in-Ok-accept_line-clause-moments : goal.returns-in-Ok-accept_line-clause-moments
returns-in-Ok-accept_line-clause-moments g c = λ honest run before files connectors left so_far.
    through_line c.args.code.now c.args.day.now run before files connectors c.args.address left c.args.registers.now _
    so_far
    (c.requires.here ∙ ap Some c.in-Accept.is) _ _ _ (c.accept_line.ensures.moves honest)
    (c.in-Ok-accept_line.ensures.taken honest)

pub returns-in-Ok-date-clause-stands : goal.returns-in-Ok-date-clause-stands
returns-in-Ok-date-clause-stands g c =
    stands_after_date c.args.code.now c.args.registers.now c.args.address c.requires.stands _ c.args.day.now
    (c.requires.here ∙ ap Some c.in-Date.is) c.in-Ok-date.ensures.does c.in-Ok-date.ensures.keeps refl refl refl

pub returns-in-Ok-date-clause-on : goal.returns-in-Ok-date-clause-on
returns-in-Ok-date-clause-on g c = λ honest run before files connectors left so_far.
    after_date c.args.code.now c.args.day.now run before files connectors c.args.address left c.args.registers.now _
    so_far _
    (c.requires.here ∙ ap Some c.in-Date.is) c.in-Ok-date.ensures.does refl refl refl refl

pub returns-in-Ok-date-clause-moments : goal.returns-in-Ok-date-clause-moments
returns-in-Ok-date-clause-moments g c = λ honest run before files connectors left so_far.
    stays (g.S.Device.history c.args.station.now) (g.S.Device.state c.args.station.now)
    (Between run before files (g.S.Device.state c.args.station.now).disk)
    (between_now c.args.code.now c.args.day.now run before files connectors c.args.address left c.args.registers.now _
    so_far)

pub returns-in-Err-date-clause-moments : goal.returns-in-Err-date-clause-moments
returns-in-Err-date-clause-moments g c = λ honest run before files connectors left so_far.
    stays (g.S.Device.history c.args.station.now) (g.S.Device.state c.args.station.now)
    (Between run before files (g.S.Device.state c.args.station.now).disk)
    (between_now c.args.code.now c.args.day.now run before files connectors c.args.address left c.args.registers.now _
    so_far)

pub returns-in-Err-date-clause-on : goal.returns-in-Err-date-clause-on
returns-in-Err-date-clause-on g c = λ honest run before files connectors left so_far.
    at_no_day c.args.code.now c.args.day.now run before files connectors c.args.address left c.args.registers.now _
    so_far c.in-Err-date.fault
    (c.requires.here ∙ ap Some c.in-Date.is) c.in-Err-date.ensures.does

pub returns-in-Err-accept_line-clause-own : goal.returns-in-Err-accept_line-clause-own
returns-in-Err-accept_line-clause-own g c =
    subst (λ (refusal : Refusal). IsOwnEnd (Refused refusal)) (sym c.in-Err-accept_line.ensures.device) tt

pub returns-in-Err-accept_line-clause-moments : goal.returns-in-Err-accept_line-clause-moments
returns-in-Err-accept_line-clause-moments g c = λ honest run before files connectors left so_far.
    through_failed_line c.args.code.now c.args.day.now run before files connectors c.args.address left
    c.args.registers.now _ so_far
    (c.requires.here ∙ ap Some c.in-Accept.is) _ _ _ (c.accept_line.ensures.moves honest)
    (c.in-Err-accept_line.ensures.untaken honest)

pub returns-in-Err-accept_line-clause-on : goal.returns-in-Err-accept_line-clause-on
returns-in-Err-accept_line-clause-on g c = λ honest run before files connectors left so_far.
    subst (λ (refusal : Refusal). IsOver run before files (Refused refusal)
    (g.S.Device.state c.accept_line.new.station)) (sym c.in-Err-accept_line.ensures.device)
    (at_failed_line c.args.code.now c.args.day.now run before files connectors c.args.address left c.args.registers.now
    _ so_far
    (c.requires.here ∙ ap Some c.in-Accept.is) _ _ _ (c.accept_line.ensures.moves honest)
    (c.in-Err-accept_line.ensures.untaken honest))

pub returns-in-Ok-date-clause-within : goal.returns-in-Ok-date-clause-within
returns-in-Ok-date-clause-within g c =
    outside_from c.args.code.now c.requires.verified c.args.address c.args.one c.requires.here c.requires.outside

pub returns-in-Err-date-clause-within : goal.returns-in-Err-date-clause-within
returns-in-Err-date-clause-within g c =
    outside_from c.args.code.now c.requires.verified c.args.address c.args.one c.requires.here c.requires.outside

pub returns-in-Ok-clause-within : goal.returns-in-Ok-clause-within
returns-in-Ok-clause-within g c =
    outside_from c.args.code.now c.requires.verified c.args.address c.args.one c.requires.here c.requires.outside

pub returns-in-Err-clause-within : goal.returns-in-Err-clause-within
returns-in-Err-clause-within g c =
    outside_from c.args.code.now c.requires.verified c.args.address c.args.one c.requires.here c.requires.outside

pub returns-in-Err-clause-cause : goal.returns-in-Err-clause-cause
returns-in-Err-clause-cause g c =
    record {
      no_fewer = c.show_line.ensures.failures.no_fewer;
      failed = λ is. c.in-Err.ensures.failures.failed refl;
    }

pub returns-in-Ok-accept_line-clause-within : goal.returns-in-Ok-accept_line-clause-within
returns-in-Ok-accept_line-clause-within g c =
    outside_from c.args.code.now c.requires.verified c.args.address c.args.one c.requires.here c.requires.outside

pub returns-in-Err-accept_line-clause-within : goal.returns-in-Err-accept_line-clause-within
returns-in-Err-accept_line-clause-within g c =
    outside_from c.args.code.now c.requires.verified c.args.address c.args.one c.requires.here c.requires.outside

pub returns-in-Err-accept_line-clause-cause : goal.returns-in-Err-accept_line-clause-cause
returns-in-Err-accept_line-clause-cause g c =
    record {
      no_fewer = c.accept_line.ensures.failures.no_fewer;
      failed = λ is. c.in-Err-accept_line.ensures.failures.failed refl;
    }

pub returns-in-Ok-date-clause-honest : goal.returns-in-Ok-date-clause-honest
returns-in-Ok-date-clause-honest g c = (λ is. is, λ is. is)

pub returns-in-Err-date-clause-honest : goal.returns-in-Err-date-clause-honest
returns-in-Err-date-clause-honest g c = (λ is. is, λ is. is)

pub returns-in-Ok-date-clause-cause : goal.returns-in-Ok-date-clause-cause
returns-in-Ok-date-clause-cause g c = omega arith

pub returns-in-Err-date-clause-cause : goal.returns-in-Err-date-clause-cause
returns-in-Err-date-clause-cause g c =
    record { no_fewer = omega arith; failed = λ is. fault_or_refusal is }

pub accept_line-requires-clause-room : goal.accept_line-requires-clause-room
accept_line-requires-clause-room g c =
    subst (λ (l : List ℕ). HasItemRoom c.args.code.now.tables (length l)) (sym c.as_mut_slice-input.ensures.value)
    c.requires.stands.equipped.input

pub unreachable-requires : goal.unreachable-requires
unreachable-requires g c =
    only_outside c.args.one c.requires.outside c.in_default.not-Show c.in_default.not-Accept c.in_default.not-Date
