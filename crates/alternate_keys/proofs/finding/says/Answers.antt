use Rattle.std.proofs.Common.{sym, ◌∙◌, arith}
use Rattle.std.specs.Prelude.{take}
use Rattle.std.proofs.lemmas.List.{length-take-le}
use Rattle.std.proofs.lemmas.Map.Text.{is_eq-slice_cmp}
use Rattle.alternate_keys.proofs.finding.says.Goals as goal

pub slice_bounds-eq-end : goal.slice_bounds-eq-end
slice_bounds-eq-end c = let long = c.requires in sym (length-take-le 43 c.args.value.now (omega arith))

pub returns : goal.returns
returns c = c.eq.ensures ∙ sym (is_eq-slice_cmp (take 43 c.args.value.now) c.args.spec.now)
