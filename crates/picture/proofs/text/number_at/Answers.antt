use Rattle.std.proofs.Common.{arith}
use Rattle.picture.proofs.Numbers.{read_bound}
use Rattle.picture.proofs.text.number_at.Goals as goal

pub overflow_mul-number : goal.overflow_mul-number
overflow_mul-number c =
    let h = read_bound c.loop-rest.number c.loop-rest.rest.now c.args.text.now c.loop-rest.invariant.0 (omega arith) in
    omega arith

pub overflow_add-number : goal.overflow_add-number
overflow_add-number c =
    let h = read_bound c.loop-rest.number c.loop-rest.rest.now c.args.text.now c.loop-rest.invariant.0 (omega arith) in
    omega arith

pub returns-clause-bound : goal.returns-clause-bound
returns-clause-bound c =
    let h = read_bound c.loop-rest.number c.loop-rest.rest.now c.args.text.now c.loop-rest.invariant.0 (omega arith) in
    omega arith
