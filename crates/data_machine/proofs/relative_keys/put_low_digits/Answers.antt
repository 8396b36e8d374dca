use Rattle.std.proofs.Common.{◌%◌, ◌^◌, ◌<◌, sym, ◌∙◌, ap, subst}
use Rattle.std.specs.Prelude.{unsigned_abs}
use Rattle.decimal18.specs.Fraction.{Fraction}
use Rattle.decimal18.specs.Receiver.{low_digits}
use Rattle.decimal18.specs.declared.receiver.Rounding.TheVariants.{Truncated}
use Rattle.items.specs.Numbers.{CanHold}
use Rattle.items.specs.Values.{bytes_of}
use Rattle.data_machine.proofs.HeldIntegers.{low_is, unsigned_holds}
use Rattle.data_machine.proofs.relative_keys.put_low_digits.Goals as goal

pub store-requires-clause-holds : goal.store-requires-clause-holds
store-requires-clause-holds c =
    let item = c.args.item in
    let is = c.cut-low.ensures.value
    ∙ ap (λ (x : Fraction). low_digits x item.digits 0 Truncated) c.decimal.ensures
    ∙ low_is c.args.number item.digits in
    subst (CanHold item) (sym is)
    (unsigned_holds item (c.args.number % 10 ^ item.digits) c.requires.kind
    (subst (λ (x : Fraction). unsigned_abs x.coefficient < 10 ^ item.digits) is c.cut-low.ensures.bound))

pub returns : goal.returns
returns c =
    let item = c.args.item in
    let is = c.cut-low.ensures.value
    ∙ ap (λ (x : Fraction). low_digits x item.digits 0 Truncated) c.decimal.ensures
    ∙ low_is c.args.number item.digits in
    c.store.ensures ∙ ap (bytes_of item) is
