use Rattle.btree.proofs.Answering.{place_after, gap_after}
use Rattle.btree.proofs.sought.place_after.Goals as goal

pub returns-in-Ok : goal.returns-in-Ok
returns-in-Ok c = λ up.
    let node = c.args.node.now in
    place_after node.layout c.args.key.now node.rows c.in-Ok.place up c.in-Ok.ensures.found.0 c.in-Ok.ensures.found.1
    c.in-Ok.ensures.around

pub returns-in-Err : goal.returns-in-Err
returns-in-Err c = λ up.
    let node = c.args.node.now in
    gap_after node.layout c.args.key.now node.rows c.in-Err.place up c.in-Err.ensures.missing c.in-Err.ensures.around
