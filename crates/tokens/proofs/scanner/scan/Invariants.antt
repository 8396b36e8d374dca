use Rattle.std.proofs.Common.{◌≡◌, ◌+◌, length}
use Rattle.tokens.specs.Scanning.{tokens, tokens_from, before_others}
use Rattle.tokens.proofs.scanner.scan.Given as goal

abbrev pub invariant-loop-rest : goal.invariant-loop-rest
invariant-loop-rest l =
    (before_others l.tokens (tokens_from 0 l.before l.start l.rest) ≡ tokens l.fn.lines)
    × (l.start + length l.rest ≡ length l.fn.lines)

abbrev pub decreases-loop-rest : goal.decreases-loop-rest
decreases-loop-rest l = length l.rest
