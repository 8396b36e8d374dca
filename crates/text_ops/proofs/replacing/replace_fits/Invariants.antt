use Rattle.std.proofs.Common.{◌≡◌, ◌≤◌, ◌-◌, List, length, drop}
use Rattle.text_ops.specs.declared.progress.Fitted.{Fitted}
use Rattle.text_ops.specs.Walk.{AreActive, walk}
use Rattle.text_ops.specs.Inspect.{with_each}
use Rattle.text_ops.specs.Beginnings.{AreMarked}
use Rattle.text_ops.proofs.Walks.{Goes}
use Rattle.text_ops.proofs.replacing.replace_fits.Given as goal

abbrev pub invariant-loop-at : goal.invariant-loop-at
invariant-loop-at l = record {
  bound : l.at ≤ length l.subject;
  within : AreActive l.active (length l.fn.texts);
  marked : AreMarked l.fn.texts l.marks l.active;
  all : List Fitted;
  goes : Goes l.fn.texts l.active l.at (drop l.at l.subject) all;
  written : with_each l.fn.texts all l.subject
      ≡ with_each l.fn.texts (walk (length l.fn.subject) l.fn.texts l.fn.active 0 l.fn.subject) l.fn.subject;
}

abbrev pub decreases-loop-at : goal.decreases-loop-at
decreases-loop-at l = length l.subject - l.at
