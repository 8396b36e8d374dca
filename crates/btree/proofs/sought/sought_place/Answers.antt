use Rattle.std.proofs.Common.{ap, ◌∙◌, arith}
use Rattle.btree.specs.declared.sought.Sought.{Sought}
use Rattle.btree.specs.Entries.{entries_of_rows}
use Rattle.btree.specs.Sought.{sought_in}
use Rattle.btree.proofs.Answering.{place_after, gap_with, at_or_from, from_or_after}
use Rattle.btree.proofs.sought.sought_place.Goals as goal

pub returns-in-After : goal.returns-in-After
returns-in-After c = λ up.
    let node = c.args.node.now in
    ap (λ (s : Sought). sought_in s (entries_of_rows node.layout node.rows) c.args.key.now) c.in-After.is
    ∙ place_after node.layout c.args.key.now node.rows c.in-Ok.place up c.in-Ok.ensures.found.0 c.in-Ok.ensures.found.1
    c.in-Ok.ensures.around

pub returns-in_default : goal.returns-in_default
returns-in_default c = λ up.
    let node = c.args.node.now in
    at_or_from c.args.sought node.layout c.args.key.now node.rows c.in-Ok.place c.in_default.not-After up
    c.in-Ok.ensures.found.0 c.in-Ok.ensures.found.1 c.in-Ok.ensures.around

pub returns-in-With : goal.returns-in-With
returns-in-With c = λ up.
    let node = c.args.node.now in
    let count = c.count-count.ensures.rows in
    ap (λ (s : Sought). sought_in s (entries_of_rows node.layout node.rows) c.args.key.now) c.in-With.is
    ∙ gap_with node.layout c.args.key.now node.rows c.in-Err.place c.count-count.result up c.in-Err.ensures.missing
    c.in-Err.ensures.around (omega arith)

pub returns-in_default-sought : goal.returns-in_default-sought
returns-in_default-sought c = λ up.
    let node = c.args.node.now in
    from_or_after c.args.sought node.layout c.args.key.now node.rows c.in-Err.place c.in_default-sought.not-With up
    c.in-Err.ensures.missing c.in-Err.ensures.around
