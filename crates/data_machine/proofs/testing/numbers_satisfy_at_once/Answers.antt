use Rattle.std.proofs.Common.{refl}
use Rattle.items.specs.declared.taken.Taken.TheVariants as t
use Rattle.data_machine.proofs.ComparedNumbers.{numbers_tell}
use Rattle.data_machine.proofs.testing.numbers_satisfy_at_once.Goals as goal

pub returns-in-Numeric-Numeric : goal.returns-in-Numeric-Numeric
returns-in-Numeric-Numeric c =
    let one = c.in-Item in
    let numbers = c.in-Numeric-Numeric in
    numbers_tell c.args.one.now (t.Item c.args.other.now) c.args.ones.now c.args.others.now one.first
    c.args.other.now numbers.left numbers.right one.is refl numbers.is-0 numbers.is-1 c.args.relation
    c.held_numbers_satisfy.result c.held_numbers_satisfy.ensures
