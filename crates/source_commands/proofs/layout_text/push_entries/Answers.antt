use Rattle.std.proofs.Common.{◌≡◌, ◌∙◌, [], ◌++◌, ap, drop, sym}
use Rattle.std.proofs.Math.ListN.{drop_of_length-le}
use Rattle.std.proofs.lemmas.List.{append-nil}
use Rattle.declarations.specs.Entries.{items_among}
use Rattle.source_commands.specs.Layout.{item_lines, items_after}
use Rattle.source_commands.proofs.Lines.{no_entries, none_before}
use Rattle.source_commands.proofs.layout_text.push_entries.Goals as goal

pub returns-clause-lines : goal.returns-clause-lines
returns-clause-lines c =
    let none : drop c.loop-entry.entry-index c.args.entries.now ≡ [] =
    drop_of_length-le c.args.entries.now c.loop-entry-test.false in
    sym (append-nil c.loop-entry.out.items)
    ∙ ap (λ l. c.loop-entry.out.items ++ l) (sym (ap (λ l. item_lines c.loop-entry.rest.now (items_among l)) none
    ∙ no_entries c.loop-entry.rest.now))
    ∙ c.loop-entry.invariant.0

pub returns-clause-rest : goal.returns-clause-rest
returns-clause-rest c =
    let none : drop c.loop-entry.entry-index c.args.entries.now ≡ [] =
    drop_of_length-le c.args.entries.now c.loop-entry-test.false in
    sym (ap (λ l. items_after c.loop-entry.rest.now (items_among l)) none ∙ none_before c.loop-entry.rest.now)
    ∙ c.loop-entry.invariant.1
