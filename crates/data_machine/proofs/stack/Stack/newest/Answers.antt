use Rattle.std.proofs.Common.{ap, arith}
use Rattle.std.proofs.lemmas.Grind.{common_steps}
use Rattle.data_machine.proofs.Stacks.{newest_is}
use Rattle.data_machine.proofs.stack.Stack.newest.Goals as goal

pub returns-clause-value : goal.returns-clause-value
returns-clause-value g c =
    newest_is c.args.self.now.newest_first c.self.inside.room.items c.as_slice.result.now c.self.inside.used
    c.args.count (ap (λ s. s.newest_first) c.self.view_is) c.as_slice.ensures.value c.self.invariant c.requires

pub returns-clause-length : goal.returns-clause-length
returns-clause-length g c = grind (arith, common_steps)
