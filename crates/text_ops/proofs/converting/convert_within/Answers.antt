use Rattle.std.proofs.Common.{◌∙◌, ap, drop, take, ◌++◌, ◌-◌}
use Rattle.text_ops.proofs.Conversions.{changed_middle, changed_nowhere}
use Rattle.text_ops.proofs.converting.convert_within.Goals as goal

pub returns-then-first-end : goal.returns-then-first-end
returns-then-first-end c = λ how h.
    let first = c.args.first in
    let end = c.min-end.result in
    let xs = c.args.subject.now in
    ap (λ l. take first xs ++ (l ++ drop (end - first) (drop first xs))) (c.convert_each.ensures how h)
    ∙ changed_middle how first c.args.limit end xs c.min-end.ensures c.if-first-end.true

pub returns-else-first-end : goal.returns-else-first-end
returns-else-first-end c = λ how h.
    changed_nowhere how c.args.first c.args.limit c.min-end.result c.args.subject.now c.min-end.ensures
    c.if-first-end.false
