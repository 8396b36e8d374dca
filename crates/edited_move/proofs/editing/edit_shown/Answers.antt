use Rattle.std.proofs.Common.{arith}
use Rattle.edited_move.proofs.editing.edit_shown.Goals as goal

pub overflow_cast-magnitude : goal.overflow_cast-magnitude
overflow_cast-magnitude c = omega (arith, c.requires.few, c.magnitude-magnitude.ensures.value)
