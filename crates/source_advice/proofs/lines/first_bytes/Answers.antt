use Rattle.std.proofs.Common.{sym, arith}
use Rattle.std.proofs.lemmas.List.{length-take-le, take_all}
use Rattle.source_advice.proofs.lines.first_bytes.Goals as goal

pub slice_bounds-result-end : goal.slice_bounds-result-end
slice_bounds-result-end c = sym (length-take-le c.args.most c.args.text.now (omega arith))

pub returns : goal.returns
returns c = sym (take_all c.args.most c.args.text.now (omega arith))
