use Rattle.std.proofs.Common.{◌≡◌, ℕ, ◌<◌, ◌≤◌, get_or, false, true}
use Rattle.pages.specs.Changes.{mapped_after}
use Rattle.pages.proofs.change.unused_between.Given as goal

abbrev pub invariant-loop-page : goal.invariant-loop-page
invariant-loop-page l = (n : ℕ) → l.start ≤ n → n < l.page → get_or (mapped_after l.table l.changes) n false ≡ true
