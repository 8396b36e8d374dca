use Rattle.std.proofs.Common.{arith, sym, ap, ◌∙◌, ◌∷◌, ◌+◌, ◌<◌, drop, length}
use Rattle.source_lines.specs.Cut.{lines}
use Rattle.std.proofs.lemmas.Bool.Decides.{nat_tests}
use Rattle.std.proofs.lemmas.List.{take_rest}
use Rattle.source_lines.proofs.Cutting.{line_cut, line_left}
use Rattle.source_lines.proofs.source.first_line.Goals as goal

pub returns-in-Some-clause-parts : goal.returns-in-Some-clause-parts
returns-in-Some-clause-parts c =
    line_cut c.args.rest.now c.in-Some.end c.in-Some.ensures
    ∙ ap (λ line. line ∷ lines (drop (c.in-Some.end + 1) c.args.rest.now)) (sym c.without_carriage_return.ensures)
    ∙ ap (λ more. c.without_carriage_return.result.now ∷ lines more)
    (sym (take_rest c.args.rest.now (c.in-Some.end + 1)))

pub returns-in-None-2-clause-parts : goal.returns-in-None-2-clause-parts
returns-in-None-2-clause-parts c =
    let e = c.is_empty.ensures in let f = c.if-is_empty.false in
    let some : 0 < length c.args.rest.now = grind (arith, nat_tests) in
    line_left c.args.rest.now c.in-None-2.ensures some
