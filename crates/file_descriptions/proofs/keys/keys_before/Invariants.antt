use Rattle.std.proofs.Common.{◌≡◌, ◌+◌, drop}
use Rattle.file_descriptions.specs.Keys.{keys_before}
use Rattle.file_descriptions.proofs.keys.keys_before.Given as goal

abbrev pub invariant-loop-index : goal.invariant-loop-index
invariant-loop-index l = l.index + keys_before l.one (drop l.index l.keys) ≡ keys_before l.one l.keys
