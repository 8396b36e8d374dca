use Rattle.std.proofs.Common.{◌∙◌, ◌+◌, ap, drop, sym}
use Rattle.std.proofs.lemmas.List.{take_rest}
use Rattle.source_lines.specs.Cut.{lines}
use Rattle.source_lines.proofs.Cutting.{line_cut}
use Rattle.source_advice.proofs.Cutting.{no_more_lines}
use Rattle.source_advice.proofs.lines.after_line.Goals as goal

pub returns-in-Some : goal.returns-in-Some
returns-in-Some c =
    ap lines (take_rest c.args.rest.now (c.in-Some.end + 1))
    ∙ sym (ap (λ l. drop 1 l) (line_cut c.args.rest.now c.in-Some.end c.in-Some.ensures))

pub returns-in-None : goal.returns-in-None
returns-in-None c = no_more_lines c.args.rest.now c.in-None.ensures
