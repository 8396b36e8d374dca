use Rattle.std.proofs.Common.{◌≡◌, ◌<◌, ◌≤◌, ℕ, length, drop, slice_index}
use Rattle.text_ops.specs.Convert.{character_for}
use Rattle.text_ops.proofs.converting.characters_by.Given as goal

abbrev pub invariant-loop-left : goal.invariant-loop-left
invariant-loop-left l = record {
  within : l.left ≤ length l.fn.from;
  size : length l.table ≡ 256;
  set : (c : ℕ) → c < 256
      → slice_index l.table c ≡ character_for (drop l.left l.fn.from) (drop l.left l.fn.by) c;
}

abbrev pub decreases-loop-left : goal.decreases-loop-left
decreases-loop-left l = l.left
