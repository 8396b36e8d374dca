use Rattle.std.proofs.Common.{◌≡◌, ℕ, ◌≤◌, ◌<◌, true}
use Rattle.perform_graph.specs.Walk.{is_placed, state}
use Rattle.perform_graph.proofs.progress.first_unplaced.Given as goal

abbrev pub invariant-loop-paragraph : goal.invariant-loop-paragraph
invariant-loop-paragraph l =
    (other : ℕ) → l.first ≤ other → other < l.paragraph → is_placed (state l.states other) ≡ true
