use Rattle.std.proofs.Common.{◌≡◌, drop}
use Rattle.source_tree.specs.Filing.{key_from}
use Rattle.statement_codegen.proofs.file_verbs.key_from.Given as goal

-- None of those before begins there.
abbrev pub invariant-loop-number : goal.invariant-loop-number
invariant-loop-number l = key_from l.number (drop l.number l.alternates) l.offset ≡ key_from 0 l.alternates l.offset
