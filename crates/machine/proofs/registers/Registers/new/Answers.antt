use Rattle.std.proofs.Common.{◌≡◌, length, refl, sym, subst, rules}
use Rattle.data_machine.specs.Finds.{HasItemRoom}
use Rattle.code_image.specs.Points.{no_turns}
use Rattle.machine.proofs.Standing.{loaded}
use Rattle.machine.proofs.registers.Registers.new.Goals as goal

pub returns : goal.returns
returns c =
    let counted : c.in_ok-counters.counters.items ≡ no_turns c.args.code.now = search rules in
    let long : length c.in_ok-input.input.items ≡ c.longest_item.result = search rules in
    loaded c.args.code.now _ c.in_ok-room.room c.requires counted c.in_ok-returns.ensures c.in_ok-scratch.ensures.starts
    refl refl c.in_ok-scratch.ensures.room c.in_ok-scratch.ensures.senders c.in_ok-scratch.ensures.inspects
    c.in_ok-room.ensures.holds
    (subst (HasItemRoom c.args.code.now.tables) (sym long) c.longest_item.ensures)
