use Rattle.std.proofs.Common.{ap, arith}
use Rattle.btree.specs.Rooted.{RootedTree}
use Rattle.btree.specs.Calls.{pages_on}
use Rattle.btree.proofs.DescentCalls.{first_of_zeros}
use Rattle.btree.proofs.tree.Tree.first.Goals as goal

pub returns-clause-entry : goal.returns-clause-entry
returns-clause-entry g c = λ honest agrees levels holds.
    let inner = c.self.invariant.inner in
    first_of_zeros c.args.self.now c.self.inside.layout (pages_on g.D.Device c.args.pages.now c.args.device.now) levels
    c.seek.result (ap (λ (t : RootedTree). t.layout) c.self.view_is) (omega arith) holds
    (c.seek.ensures.entry honest agrees levels holds)
