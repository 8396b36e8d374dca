use Rattle.std.proofs.Common.{◌≡◌, length, drop, replicate}
use Rattle.text_ops.proofs.Orders.{order}
use Rattle.text_ops.proofs.text_order.order_beside_character.Given as goal

abbrev pub invariant-loop-byte : goal.invariant-loop-byte
invariant-loop-byte l =
    let rest = drop l.byte-index l.text in
    order l.text (replicate (length l.text) l.character) ≡ order rest (replicate (length rest) l.character)
