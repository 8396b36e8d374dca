use Rattle.std.proofs.Common.{◌+◌, ◌*◌, ◌<◌, ◌^◌, ap, sym, ◌∙◌, drop, arith}
use Rattle.decimal18.specs.Digits.{digits_after}
use Rattle.items.proofs.Bounds.{hundreds_below}
use Rattle.items.proofs.Halves.{shown, no_pair, none_of, digits_next, number_next, bound_next}
use Rattle.items.proofs.packed.pairs.Goals as goal

pub returns-then-pair-gt-MOST-clause-value : goal.returns-then-pair-gt-MOST-clause-value
returns-then-pair-gt-MOST-clause-value c =
    none_of _ _ (sym c.loop-byte.invariant.digits ∙ no_pair c.args.bytes.now c.loop-byte.byte-index
    c.loop-byte-test.true (c.pair-pair.ensures.none c.if-pair-gt-MOST.true))

pub overflow_mul-number : goal.overflow_mul-number
overflow_mul-number c =
    let small : c.loop-byte.number < 100 ^ 8 =
    hundreds_below c.loop-byte.number c.loop-byte.byte-index 8 c.loop-byte.invariant.bound (omega arith) in
    omega arith

pub overflow_add-number : goal.overflow_add-number
overflow_add-number c =
    let small : c.loop-byte.number < 100 ^ 8 =
    hundreds_below c.loop-byte.number c.loop-byte.byte-index 8 c.loop-byte.invariant.bound (omega arith) in
    omega (arith, c.from.ensures, c.if-pair-gt-MOST.false)

pub loop-byte-preserved : goal.loop-byte-preserved
loop-byte-preserved c =
    let i = c.loop-byte.byte-index in
    let digits = c.pair-pair.ensures.digits c.if-pair-gt-MOST.false in
    record {
      bound = bound_next c.loop-byte.number i c.from.result c.loop-byte.invariant.bound
          (omega (arith, c.from.ensures, c.if-pair-gt-MOST.false));
      number = ap (λ p. digits_after (100 * c.loop-byte.number + p) (shown (drop (i + 1) c.args.bytes.now)))
          (c.from.ensures ∙ digits.2)
          ∙ number_next c.args.bytes.now i c.loop-byte.number c.loop-byte-test.true ∙ c.loop-byte.invariant.number;
      digits = digits_next c.args.bytes.now i c.loop-byte-test.true digits.0 digits.1 ∙ c.loop-byte.invariant.digits;
    }
