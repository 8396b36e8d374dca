use Rattle.std.proofs.Common.{List, sym, ap, ◌∙◌}
use Rattle.std.proofs.lemmas.Result.{err_from_is_err_and}
use Rattle.source_tree.specs.Rules.{paragraph_rules, section_rules, all_permitted}
use Rattle.declarations.specs.Named.{scope_in}
use Rattle.source_tree.specs.declared.program.Paragraph.{Paragraph}
use Rattle.source_tree.specs.Broken.{each}
use Rattle.source_tree.specs.LookUp.{first}
use Rattle.entry_rules.specs.Checks.{broken_of}
use Rattle.check_rules.proofs.InOrder.{kept_next, broken_here, kept_all}
use Rattle.check_rules.proofs.checker.Checker.sections_rules.Goals as goal

pub loop-one-preserved : goal.loop-one-preserved
loop-one-preserved c =
    kept_next (section_rules (scope_in c.args.self.now.declarations.now) all_permitted) c.args.all.now
    c.loop-one.one-index c.loop-one.invariant
    c.one-item.result c.loop-one-test.true c.one-item.is
    (ap (λ (l : List Paragraph). each (paragraph_rules (scope_in c.args.self.now.declarations.now) all_permitted) l)
    (sym c.as_slice.ensures) ∙ c.in_ok-paragraphs_rules.ensures)

pub returns : goal.returns
returns c =
    kept_all (section_rules (scope_in c.args.self.now.declarations.now) all_permitted) c.args.all.now
    c.loop-one.one-index c.loop-one.invariant
    c.loop-one-test.false

pub returns-in_err-paragraphs_rules : goal.returns-in_err-paragraphs_rules
returns-in_err-paragraphs_rules c =
    let p = err_from_is_err_and c.from_residual.result c.from_residual.ensures.1 in
    rw (p.1, p.2) (broken_here (section_rules (scope_in c.args.self.now.declarations.now) all_permitted) c.args.all.now
    c.loop-one.one-index c.loop-one.invariant
    c.one-item.result (broken_of c.in_err-paragraphs_rules.field-0.0) c.loop-one-test.true c.one-item.is
    (ap (λ (l : List Paragraph).
    first (each (paragraph_rules (scope_in c.args.self.now.declarations.now) all_permitted) l))
    (sym c.as_slice.ensures) ∙ c.in_err-paragraphs_rules.ensures))
