use Rattle.std.proofs.Common.{rules, ◌≡◌, FitsSigned}
use Rattle.std.specs.Int.{w64}
use Rattle.std.specs.Ordering.{int_cmp}
use Rattle.std.proofs.lemmas.Int.{to_z-of_z}
use Rattle.decimal18.proofs.Raised.{at_scale}
use Rattle.data_machine.proofs.short_arithmetic.order_at_scale.Goals as goal

pub returns : goal.returns
returns c =
    let a = c.coefficient.result in
    let b = c.coefficient-2.result in
    let left : FitsSigned w64 a = search rules in
    let right : FitsSigned w64 b = search rules in
    let is : c.cmp.result ≡ int_cmp a b = simp to_z-of_z at c.cmp.ensures in
    at_scale c.args.left c.args.right a b c.cmp.result c.requires c.coefficient.ensures c.coefficient-2.ensures is
