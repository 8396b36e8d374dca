use Rattle.std.proofs.Common.{◌≡◌, drop}
use Rattle.codegen.specs.Sent.{edits, first_editing}
use Rattle.codegen.proofs.storage.sent_editing.Given as goal

abbrev pub invariant-loop-one : goal.invariant-loop-one
invariant-loop-one l = first_editing (edits l.file) (drop l.one-index l.items) ≡ first_editing (edits l.file) l.items
