use Rattle.std.proofs.Common.{◌≡◌, take}
use Rattle.source_commands.specs.Check.{warning_texts}
use Rattle.source_commands.proofs.check.warning_text.Given as goal

abbrev pub invariant-loop-one : goal.invariant-loop-one
invariant-loop-one l = l.text.items ≡ warning_texts l.source.name.now l.source.text.now (take l.one-index l.found)
