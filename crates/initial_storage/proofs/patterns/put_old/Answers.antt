use Rattle.std.proofs.Common.{None, [], ◌∷◌}
use Rattle.initial_storage.proofs.Repeats.{once_more}
use Rattle.initial_storage.proofs.patterns.put_old.Goals as goal

pub loop-turn-preserved : goal.loop-turn-preserved
loop-turn-preserved c = once_more c.loop-turn._turn (None ∷ []) c.args.out.now.items c.loop-turn.out.items
    c.push.new.self.items c.loop-turn.invariant c.in_ok-push.ensures.items
