use Rattle.std.proofs.Common.{◌≡◌, refl, ap, ◌∙◌, pos, rules, FitsSigned}
use Rattle.std.specs.Int.{w64}
use Rattle.std.specs.Ordering.{int_cmp}
use Rattle.std.proofs.lemmas.Int.{to_z-of_z}
use Rattle.decimal18.specs.Fraction.{aligned_coefficient}
use Rattle.data_machine.proofs.ShortNumbers.{order_by}
use Rattle.data_machine.proofs.short_arithmetic.integer_order.Goals as goal

pub returns-in-Some : goal.returns-in-Some
returns-in-Some c =
    let a = c.coefficient.result in
    let b = c.in-Some.other in
    let left : FitsSigned w64 a = search rules in
    let right : FitsSigned w64 b = search rules in
    let is : c.cmp.result ≡ int_cmp a b = simp to_z-of_z at c.cmp.ensures in
    let integer : c.new.result ≡ record { coefficient = pos c.args.integer; scale = 0 } = search rules in
    let other : b ≡ aligned_coefficient (record { coefficient = pos c.args.integer; scale = 0 }) c.args.x.scale =
    c.in-Some.ensures ∙ ap (λ y. aligned_coefficient y c.scale.result) integer
    ∙ ap (aligned_coefficient (record { coefficient = pos c.args.integer; scale = 0 })) c.scale.ensures.value in
    order_by c.args.x (record { coefficient = pos c.args.integer; scale = 0 }) a b c.cmp.result c.coefficient.ensures
    refl other is
