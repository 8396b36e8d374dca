use Rattle.std.proofs.Common.{ℕ, ◌+◌, List, Some, length, subst}
use Rattle.std.proofs.lemmas.List.{take_rest}
use Rattle.explanations.specs.Parts.{IsBefore}
use Rattle.explanations.proofs.part.between.Goals as goal

pub returns : goal.returns
returns c =
    let P : List ℕ → Type 0 = λ text. IsBefore text c.args.end.now c.before-2.result.now in
    let rest = take_rest c.args.text.now (c.in_ok-start.start + length c.args.begin.now) in
    (Some c.in_ok-start.start, c.in_ok-start.ensures, subst P rest c.before-2.ensures)
