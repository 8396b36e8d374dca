use Rattle.std.proofs.Common.{◌≡◌, ℕ, ◌≤◌, ◌<◌, false}
use Rattle.perform_graph.specs.Order.{marks}
use Rattle.check_rules.proofs.recursion.leads_back.Given as goal

abbrev pub invariant-loop-paragraph : goal.invariant-loop-paragraph
invariant-loop-paragraph l = (k : ℕ) → l.fn.one.first ≤ k → k < l.paragraph → marks l.marked k ≡ false
