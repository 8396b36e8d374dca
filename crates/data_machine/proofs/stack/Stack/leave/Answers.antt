use Rattle.data_machine.proofs.Stacks.{left_is}
use Rattle.data_machine.proofs.stack.Stack.leave.Goals as goal

pub returns : goal.returns
returns g c = left_is c.args.self.now c.self.inside.room.items c.self.inside.used c.args.count c.self.view_is
    c.self.invariant c.requires
