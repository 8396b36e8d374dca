use Rattle.std.proofs.Common.{arith, sym, ◌∙◌}
use Rattle.perform_graph.specs.Order.{marks}
use Rattle.check_rules.proofs.Back.{unmarked_more, not_back}
use Rattle.check_rules.proofs.recursion.leads_back.Goals as goal

pub loop-paragraph-init : goal.loop-paragraph-init
loop-paragraph-init c = λ k low high. absurd (omega arith)

pub loop-paragraph-preserved : goal.loop-paragraph-preserved
loop-paragraph-preserved c =
    unmarked_more (marks c.args.marked.now) c.args.one.first c.loop-paragraph.paragraph c.loop-paragraph.invariant
    (sym c.is_marked-in-loop-paragraph.ensures ∙ c.if-is_marked.false)

pub returns : goal.returns
returns c =
    let end = c.loop-paragraph-test.false in
    not_back (marks c.args.marked.now) c.args.one c.loop-paragraph.paragraph (λ le. omega arith)
    c.loop-paragraph.invariant
