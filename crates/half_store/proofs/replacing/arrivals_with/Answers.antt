use Rattle.std.proofs.Common.{◌≤◌, ◌∙◌, length, sym, arith}
use Rattle.half_store.proofs.Replaced.{arrivals_cut}
use Rattle.half_store.proofs.replacing.arrivals_with.Goals as goal

pub returns-then-place-len-clause-arrivals : goal.returns-then-place-len-clause-arrivals
returns-then-place-len-clause-arrivals c =
    let le : length c.args.row.now.arrivals.items ≤ c.loop-place.place =
    omega (arith, c.if-place-len.true, c.len.ensures) in
    sym (arrivals_cut c.args.row.now.bytes.items c.args.bytes.now c.args.next c.args.keys.now
    c.args.row.now.arrivals.items c.loop-place.arrivals.items c.loop-place.place le) ∙ c.loop-place.invariant
