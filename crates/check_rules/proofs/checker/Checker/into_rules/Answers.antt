use Rattle.std.proofs.Common.{sym, subst}
use Rattle.std.specs.Prelude.{Option}
use Rattle.source_tree.specs.declared.reference.Reference.{Reference}
use Rattle.source_tree.specs.FilingRules.{into_rules}
use Rattle.source_tree.specs.NameRules.{reference_rules}
use Rattle.file_descriptions.specs.Files.{file_in}
use Rattle.entry_rules.specs.Checks.{IsFirstBreach}
use Rattle.declarations.specs.Named.{files_in, items_in}
use Rattle.check_rules.specs.declared.asked.Asked.TheVariants.{Receives}
use Rattle.check_rules.specs.declared.sent.Sent.{Sent}
use Rattle.check_rules.specs.Asking.{asks}
use Rattle.check_rules.proofs.checker.Checker.into_rules.Goals as goal

pub returns-in-Some : goal.returns-in-Some
returns-in-Some c =
    let items = items_in c.args.self.now.declarations.now in
    let files = files_in c.args.self.now.declarations.now in
    let result = c.item_rules.result in
    subst
    (λ (into : Option Reference). IsFirstBreach result (into_rules items files (file_in items c.args.file.now) into))
    (sym c.in-Some.is)
    (subst (λ (sent : Sent). IsFirstBreach result (reference_rules items (asks (Receives sent)) c.in-Some.one))
    c.by_item.ensures c.item_rules.ensures)
