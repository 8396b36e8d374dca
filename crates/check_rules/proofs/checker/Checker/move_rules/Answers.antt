use Rattle.std.proofs.Common.{ap, sym, subst, ◌∙◌}
use Rattle.source_tree.specs.Broken.{each}
use Rattle.source_tree.specs.NameRules.{reference_rules, operand_rules}
use Rattle.source_tree.specs.MoveRules as spec
use Rattle.entry_rules.specs.Checks.{IsFirstBreach}
use Rattle.declarations.specs.Named.{items_in}
use Rattle.check_rules.specs.Asking.{asks}
use Rattle.declarations.proofs.Firsts.{front_none}
use Rattle.check_rules.proofs.Parts.{asks_receives}
use Rattle.check_rules.proofs.checker.Checker.move_rules.Goals as goal

pub returns : goal.returns
returns c =
    let items = items_in c.args.self.now.declarations.now in
    let receivers = c.args.receivers.now in
    subst (λ l. IsFirstBreach c.receivers_rules.result l)
    (ap (λ s. each (reference_rules items (asks s)) receivers) c.asked_by.ensures
    ∙ ap (λ a. each (reference_rules items a) receivers) (asks_receives (spec.sent_by items c.args.sender.now))
    ∙ sym (front_none (operand_rules items c.args.sender.now) (each (reference_rules items
    (spec.receives (spec.sent_by items c.args.sender.now))) receivers) c.in_ok-operand_rules.ensures))
    c.receivers_rules.ensures
