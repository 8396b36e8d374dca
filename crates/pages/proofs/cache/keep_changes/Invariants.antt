use Rattle.pages.specs.Cache.{KeepsChanges}
use Rattle.pages.proofs.cache.keep_changes.Given as goal

abbrev pub invariant-loop-change : goal.invariant-loop-change
invariant-loop-change l = KeepsChanges l.yielded l.initial.cache l.cache
