use Rattle.std.proofs.Common.{◌≡◌, ◌<◌, ℕ, length, slice_index}
use Rattle.text_ops.proofs.converting.same_characters.Given as goal

abbrev pub invariant-loop-character : goal.invariant-loop-character
invariant-loop-character l =
    (length l.table ≡ 256) × ((c : ℕ) → c < l.character → slice_index l.table c ≡ c)
