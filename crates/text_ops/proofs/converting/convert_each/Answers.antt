use Rattle.std.proofs.Common.{◌∙◌, ap, arith, drop, map, set, sym, take, ◌+◌, ◌++◌}
use Rattle.std.proofs.lemmas.List.{length-set}
use Rattle.text_ops.proofs.Conversions.{turn, through}
use Rattle.text_ops.proofs.converting.convert_each.Goals as goal

pub loop-place-preserved : goal.loop-place-preserved
loop-place-preserved c =
    let text = c.loop-place.text in
    let i = c.loop-place.place in
    let long = c.loop-place.invariant.0 in (
      length-set text i c.converted.result ∙ long,
      λ how h.
          ap (λ x. take (i + 1) (set text i x) ++ map how (drop (i + 1) (set text i x))) (c.converted.ensures how h)
          ∙ turn how i text (omega (arith, c.loop-place-test.true, long))
          ∙ c.loop-place.invariant.1 how h,
    )

pub returns : goal.returns
returns c = λ how h.
    sym (through how c.loop-place.place c.loop-place.text
    (omega (arith, c.loop-place-test.false, c.loop-place.invariant.0))) ∙ c.loop-place.invariant.1 how h
