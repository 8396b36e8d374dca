use Rattle.std.proofs.Common.{◌≡◌, ◌≤◌, ◌-◌, length}
use Rattle.edited_move.proofs.Apart.{Spread}
use Rattle.edited_move.proofs.characters.edit_characters.Given as goal

abbrev pub invariant-loop-run : goal.invariant-loop-run
invariant-loop-run l = record {
  size : l.size ≡ length l.bytes;
  within : l.left ≤ l.size;
  spread : Spread l.runs l.fn.bytes l.run-index (l.size - l.left) l.bytes;
}
