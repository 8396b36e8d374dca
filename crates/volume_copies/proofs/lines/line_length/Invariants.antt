use Rattle.std.proofs.Common.{◌≡◌, ◌+◌, drop}
use Rattle.volume_copies.proofs.LineLists.{feed_at}
use Rattle.volume_copies.proofs.lines.line_length.Given as goal

abbrev pub invariant-loop-place : goal.invariant-loop-place
invariant-loop-place l = feed_at l.text ≡ l.place + feed_at (drop l.place l.text)
