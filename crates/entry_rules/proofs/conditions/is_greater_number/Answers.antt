use Rattle.std.proofs.Common.{ap, ◌∙◌}
use Rattle.std.specs.Ordering.{is_gt}
use Rattle.decimal18.specs.Order.{order}
use Rattle.entry_rules.specs.Ranges.{number_of_literal}
use Rattle.entry_rules.proofs.Compared.{greater_numbers}
use Rattle.entry_rules.proofs.conditions.is_greater_number.Goals as goal

pub returns : goal.returns
returns c =
    c.gt.ensures ∙ ap (λ x. is_gt (order x c.number-2.result)) c.number.ensures
    ∙ ap (λ x. is_gt (order (number_of_literal c.args.first.now) x)) c.number-2.ensures
    ∙ greater_numbers c.numbers_come_back.ensures c.args.first.now c.args.last.now c.requires.first c.requires.last
