use Rattle.std.proofs.Common.{◌≡◌, ◌++◌, drop}
use Rattle.records.specs.Changes.{arrivals_after}
use Rattle.half_store.proofs.replacing.arrivals_with.Given as goal

abbrev pub invariant-loop-place : goal.invariant-loop-place
invariant-loop-place l = l.arrivals.items
    ++ arrivals_after l.row.bytes.items l.bytes l.next (drop l.place l.keys) (drop l.place l.row.arrivals.items)
    ≡ arrivals_after l.row.bytes.items l.bytes l.next l.keys l.row.arrivals.items
