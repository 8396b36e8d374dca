use Rattle.std.proofs.Common.{◌∙◌, sym, ap, Some, arith}
use Rattle.data_machine.proofs.TextLengths.{length_here, length_before, no_length}
use Rattle.data_machine.proofs.measuring.length_at.Goals as goal

pub returns-then-natural_in-from : goal.returns-then-natural_in-from
returns-then-natural_in-from c =
    let here = sym c.natural_in.ensures ∙ c.if-natural_in-from.true ∙ c.from.ensures in
    ap (λ n. Some n) c.natural_in-then-natural_in-from.ensures
    ∙ sym (c.loop-left.invariant.1 ∙ length_here c.args.numbers.now c.loop-left.left c.args.at
    c.index-numbers-left.result c.index-numbers-left-then-natural_in-from.result c.loop-left-test.true
    c.loop-left.invariant.0 c.index-numbers-left.is c.index-numbers-left-then-natural_in-from.is here)

pub loop-left-preserved : goal.loop-left-preserved
loop-left-preserved c =
    let other = λ (e : _). c.if-natural_in-from.false (c.natural_in.ensures ∙ e ∙ sym c.from.ensures) in (
      omega (arith, c.loop-left.invariant.0),
      c.loop-left.invariant.1
          ∙ length_before c.args.numbers.now c.loop-left.left c.args.at c.index-numbers-left.result
          c.loop-left-test.true
          c.loop-left.invariant.0 c.index-numbers-left.is other,
    )

pub returns : goal.returns
returns c = sym
    (c.loop-left.invariant.1 ∙ no_length c.args.numbers.now c.loop-left.left c.args.at c.loop-left-test.false)
