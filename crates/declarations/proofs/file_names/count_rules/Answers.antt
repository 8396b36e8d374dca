use Rattle.std.proofs.Common.{sym, ap, ◌∙◌, drop, Some}
use Rattle.std.specs.Borrow.{Bor}
use Rattle.source_tree.specs.declared.name.Name.{Name}
use Rattle.source_tree.specs.Broken.{RuleBreach, each}
use Rattle.source_tree.specs.FileRules.{broken_at, most_files}
use Rattle.name_table.specs.Table.{names_of}
use Rattle.declarations.proofs.Firsts.{finds_first}
use Rattle.declarations.proofs.GivenNames.{past}
use Rattle.declarations.proofs.file_names.count_rules.Goals as goal

pub returns-in-Some : goal.returns-in-Some
returns-in-Some c =
    let there = c.in-Some.ensures.lookup in
    let names = c.args.names.now in
    let one : RuleBreach = record { rule = 69; place = c.in-Some.one.now.now.place } in
    finds_first c.broken_if.result one (each (broken_at 69) (drop most_files (names_of names))) c.broken_if.ensures
    (past 15 names c.in-Some.one.now there.3.0
    ∙ ap (λ (b : Bor Name). Some (record { rule = 69; place = b.now.place })) (sym there.1))
