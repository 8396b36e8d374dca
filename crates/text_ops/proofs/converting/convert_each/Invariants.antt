use Rattle.std.proofs.Common.{◌≡◌, ◌<◌, ℕ, ◌++◌, length, map, take, drop, slice_index}
use Rattle.text_ops.proofs.converting.convert_each.Given as goal

abbrev pub invariant-loop-place : goal.invariant-loop-place
invariant-loop-place l =
    (length l.text ≡ length l.initial.text)
    × ((how : ℕ → ℕ) → ((c : ℕ) → c < 256 → slice_index l.fn.table c ≡ how c)
    → take l.place l.text ++ map how (drop l.place l.text) ≡ map how l.initial.text)
