use Rattle.std.proofs.Common.{◌≡◌, ℕ, true, length}
use Rattle.perform_graph.specs.Walk.{IsWalkState, ahead, is_seen, state}
use Rattle.perform_graph.proofs.walk.Walk.cycle_from.Given as goal

abbrev pub invariant-steps : goal.invariant-steps
invariant-steps l = record {
  stands : IsWalkState l.performs.performed.now l.self.states.items l.self.path.items l.self.placed;
  same : length l.self.states.items ≡ length l.fn.self.states.items;
  root_seen : is_seen (state l.self.states.items l.root) ≡ true;
  seen : (paragraph : ℕ) → is_seen (state l.fn.self.states.items paragraph) ≡ true
      → is_seen (state l.self.states.items paragraph) ≡ true;
}

abbrev pub decreases-steps : goal.decreases-steps
decreases-steps l = ahead l.self.states.items
