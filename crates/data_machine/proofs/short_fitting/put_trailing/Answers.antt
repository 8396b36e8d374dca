use Rattle.std.proofs.Common.{arith, ◌-◌, ◌≤◌, length}
use Rattle.std.specs.Prelude.{slice_index_or}
use Rattle.items.proofs.Digits.{text_below_at}
use Rattle.data_machine.proofs.short_fitting.put_trailing.Goals as goal

pub overflow_add-bytes : goal.overflow_add-bytes
overflow_add-bytes c =
    let last = length c.args.bytes.now - 1 in
    let below : slice_index_or c.put_digits.new.bytes last 0 ≤ 57 =
    text_below_at c.put_digits.new.bytes _ _ last c.put_digits.ensures in
    omega (arith, below)
