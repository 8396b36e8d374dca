use Rattle.std.proofs.Common.{List, ℕ, length, ap, arith}
use Rattle.std.proofs.lemmas.Grind.{common_steps}
use Rattle.std.proofs.lemmas.List.{length-take-le}
use Rattle.data_machine.specs.Filled.{BufferView}
use Rattle.data_machine.proofs.buffer.Buffer.append_shown.Goals as goal

pub put_shown-requires-clause-room : goal.put_shown-requires-clause-room
put_shown-requires-clause-room c =
    let front = length-take-le c.self.inside.used c.self.inside.room.items c.self.invariant in
    let bytes = ap (λ (b : BufferView). length b.bytes) c.self.view_is in
    let room = ap (λ (b : BufferView). b.room) c.self.view_is in
    let same = ap (λ (xs : List ℕ). length xs) c.as_mut_slice.ensures.value in
    omega (arith, front, bytes, room, same, c.requires.room)

pub returns : goal.returns
returns c = grind (arith, common_steps)

pub invariant_of-self-2 : goal.invariant_of-self-2
invariant_of-self-2 c = grind (arith, common_steps)

pub invariant_of-self : goal.invariant_of-self
invariant_of-self c = grind (arith, common_steps)

pub returns-in_err-self-inside : goal.returns-in_err-self-inside
returns-in_err-self-inside c = grind (arith, common_steps)
