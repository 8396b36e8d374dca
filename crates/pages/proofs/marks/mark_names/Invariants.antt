use Rattle.std.proofs.Common.{◌≡◌, ◌++◌, ℕ, List, length, take}
use Rattle.pages.specs.Marked.{IsMarked}
use Rattle.pages.proofs.marks.mark_names.Given as goal

abbrev pub invariant-loop-name : goal.invariant-loop-name
invariant-loop-name l = record {
  count : length l.used.items ≡ length l.initial.used.items;
  marked : (before : List ℕ) → IsMarked before l.initial.used.items
      → IsMarked (before ++ take l.name-index l.names) l.used.items;
}
