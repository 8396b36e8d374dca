use Rattle.std.proofs.Common.{arith, sym, ◌∙◌}
use Rattle.pages.proofs.Counting.{marked_room}
use Rattle.pages.proofs.plan.mark_turn.Goals as goal

pub overflow_add-free : goal.overflow_add-free
overflow_add-free c =
    let used = c.args.used.now in
    let room = marked_room used c.args.turn.sector c.requires.low (sym c.is_used.ensures ∙ c.if-is_used.true) in
    omega (arith, room, c.requires.few, c.requires.free)
