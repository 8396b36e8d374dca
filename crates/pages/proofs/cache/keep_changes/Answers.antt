use Rattle.pages.proofs.Caches.{keeps_more}
use Rattle.pages.proofs.cache.keep_changes.Goals as goal

pub loop-change-preserved : goal.loop-change-preserved
loop-change-preserved c = keeps_more c.loop-change.yielded c.in-Some.change c.args.cache.now c.loop-change.cache
    c.keep_change.new.cache c.loop-change.invariant c.keep_change.ensures
