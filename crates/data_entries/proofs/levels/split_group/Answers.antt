use Rattle.std.proofs.Common.{take, drop, ap, ◌∙◌}
use Rattle.source_tree.specs.Levels.{leading_conditions, forest_of}
use Rattle.data_entries.proofs.Nesting.{nested-take, nested-drop, leading-take}
use Rattle.data_entries.proofs.levels.split_group.Goals as goal

pub returns-clause-inner : goal.returns-clause-inner
returns-clause-inner c =
    ap forest_of (c.split_at.ensures.front ∙ ap (λ n. take n c.args.entries.now) c.deeper_count.ensures.value)
    ∙ nested-take c.args.group c.args.entries.now

pub returns-clause-next : goal.returns-clause-next
returns-clause-next c =
    ap forest_of (c.split_at.ensures.back ∙ ap (λ n. drop n c.args.entries.now) c.deeper_count.ensures.value)
    ∙ nested-drop c.args.group c.args.entries.now

pub returns-clause-conditions : goal.returns-clause-conditions
returns-clause-conditions c =
    ap leading_conditions (c.split_at.ensures.front ∙ ap (λ n. take n c.args.entries.now) c.deeper_count.ensures.value)
    ∙ leading-take c.args.group c.args.entries.now
