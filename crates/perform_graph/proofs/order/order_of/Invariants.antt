use Rattle.std.proofs.Common.{◌≡◌, ◌<◌, ℕ, true, length, []}
use Rattle.perform_graph.specs.Walk.{IsWalkState, is_seen, state}
use Rattle.perform_graph.proofs.order.order_of.Given as goal

abbrev pub invariant-loop-paragraph : goal.invariant-loop-paragraph
invariant-loop-paragraph l = record {
  stands : IsWalkState l.performs.performed.now l.walk.states.items [] l.walk.placed;
  path : l.walk.path.items ≡ [];
  same : length l.walk.states.items ≡ l.count;
  seen : (paragraph : ℕ) → paragraph < l.paragraph → is_seen (state l.walk.states.items paragraph) ≡ true;
}
