use Rattle.std.proofs.Common.{length, refl, ap, arith}
use Rattle.std.specs.Vec.{with_items}
use Rattle.data_machine.specs.declared.data.Data.{Data}
use Rattle.machine.proofs.Counters.{begun_now, as_many_begun}
use Rattle.machine.proofs.Rooms.{popped_keeps}
use Rattle.machine.proofs.Standing.{number_to_count, stands_after_number}
use Rattle.machine.proofs.Leads.{number_counted_from}
use Rattle.machine.proofs.Steps.{at_no_turns, after_number}
use Rattle.machine.proofs.counting.count_number.Goals as goal

pub pop-newest-requires : goal.pop-newest-requires
pop-newest-requires c =
    number_to_count c.args.code.now c.args.registers.now c.args.address c.requires.stands c.args.counter c.requires.here

pub begin_turns-registers-requires : goal.begin_turns-registers-requires
begin_turns-registers-requires c =
    let is = number_counted_from c.args.code.now c.requires.verified c.args.address c.args.counter c.requires.here in
    omega (arith, is.1, c.requires.stands.equipped.counters, ap length c.as_mut_slice-counters.ensures.value)

pub returns-in-Ok-clause-within : goal.returns-in-Ok-clause-within
returns-in-Ok-clause-within c =
    (number_counted_from c.args.code.now c.requires.verified c.args.address c.args.counter c.requires.here).0

pub returns-in-Ok-clause-stands : goal.returns-in-Ok-clause-stands
returns-in-Ok-clause-stands c =
    let r = c.args.registers.now in
    let worked : Data = record r.scratch { numbers = c.pop-newest.new.self; truth = c.begin_turns-registers.result } in
    stands_after_number c.args.code.now r c.args.address c.requires.stands c.args.counter c.requires.here
    (record r { counters = with_items r.counters c.begin_turns-registers.new.counters; scratch = worked })
    c.pop-newest.result c.pop-newest.new.self.newest_first c.pop-newest.ensures.newest refl
    (popped_keeps r.scratch c.pop-newest.new.self c.begin_turns-registers.result c.pop-newest.ensures.room)
    (as_many_begun r.counters c.as_mut_slice-counters.result.now c.begin_turns-registers.new.counters
    c.args.counter.number
    c.as_mut_slice-counters.ensures.value c.begin_turns-registers.result c.in-Ok.turns c.begin_turns-registers.ensures)
    refl refl

pub returns-in-Ok-clause-on : goal.returns-in-Ok-clause-on
returns-in-Ok-clause-on c = λ day run before files connectors left now so_far.
    let r = c.args.registers.now in
    let worked : Data = record r.scratch { numbers = c.pop-newest.new.self; truth = c.begin_turns-registers.result } in
    after_number c.args.code.now day run before files connectors c.args.address left r now so_far c.args.counter
    c.requires.here
    c.pop-newest.result c.pop-newest.new.self.newest_first c.pop-newest.ensures.newest c.in-Ok.turns
    (record r { counters = with_items r.counters c.begin_turns-registers.new.counters; scratch = worked })
    c.in-Ok.ensures
    (begun_now r.counters c.as_mut_slice-counters.result.now c.begin_turns-registers.new.counters c.args.counter.number
    c.as_mut_slice-counters.ensures.value c.begin_turns-registers.result c.in-Ok.turns c.begin_turns-registers.ensures)
    refl refl refl refl

pub returns-in-Err-clause-within : goal.returns-in-Err-clause-within
returns-in-Err-clause-within c =
    (number_counted_from c.args.code.now c.requires.verified c.args.address c.args.counter c.requires.here).0

pub returns-in-Err-clause-on : goal.returns-in-Err-clause-on
returns-in-Err-clause-on c = λ day run before files connectors left now so_far.
    at_no_turns c.args.code.now day run before files connectors c.args.address left c.args.registers.now now so_far
    c.args.counter c.requires.here
    c.pop-newest.result c.pop-newest.new.self.newest_first c.pop-newest.ensures.newest c.in-Err.fault c.in-Err.ensures
