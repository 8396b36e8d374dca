use Rattle.std.proofs.Common.{ap, sym, ◌∙◌}
use Rattle.text_ops.specs.Compare.{comparison_of}
use Rattle.source_tree.specs.Literals as literals
use Rattle.source_tree.specs.ValueRules.{is_greater}
use Rattle.entry_rules.specs.Ranges.{text_taken}
use Rattle.entry_rules.proofs.Compared.{once_order}
use Rattle.entry_rules.proofs.conditions.is_greater_literal.Goals as goal

pub returns-in-Some-Some : goal.returns-in-Some-Some
returns-in-Some-Some c =
    c.is_greater_text.ensures
    ∙ ap is_greater (ap
    (λ t. comparison_of t c.in-Some-Some.ones.now c.text-in-Some-Some.result c.in-Some-Some.others.now) c.text.ensures
    ∙ ap (λ t. comparison_of (text_taken c.in-Some-Some.ones.now) c.in-Some-Some.ones.now t c.in-Some-Some.others.now)
    c.text-in-Some-Some.ensures
    ∙ sym (once_order (literals.literal_sender c.args.first.now) (literals.literal_sender c.args.last.now)
    c.in-Some-Some.ones.now c.in-Some-Some.others.now c.in-Some-Some.ensures c.in-Some-Some.ensures'))
