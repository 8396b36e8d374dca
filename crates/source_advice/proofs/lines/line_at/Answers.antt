use Rattle.std.proofs.Common.{◌∙◌, [], ap, get_or, sym}
use Rattle.source_lines.proofs.Cutting.{line_cut}
use Rattle.source_advice.proofs.Cutting.{last_line}
use Rattle.source_advice.proofs.lines.line_at.Goals as goal

pub returns-in-Some : goal.returns-in-Some
returns-in-Some c =
    c.without_return.ensures
    ∙ sym (ap (λ l. get_or l 0 []) (line_cut c.args.rest.now c.in-Some.end c.in-Some.ensures))

pub returns-in-None : goal.returns-in-None
returns-in-None c = last_line c.args.rest.now c.in-None.ensures
