use Rattle.std.proofs.Common.{◌≡◌, drop}
use Rattle.source_tree.specs.FileRules.{is_one_of}
use Rattle.declarations.proofs.keys.is_one_of.Given as goal

abbrev pub invariant-loop-one : goal.invariant-loop-one
invariant-loop-one l = is_one_of l.offset l.before ≡ is_one_of l.offset (drop l.one-index l.before)
