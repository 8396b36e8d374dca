use Rattle.std.proofs.Common.{◌≤◌, ◌^◌, arith}
use Rattle.std.proofs.Math.Nat.{pow-le-pow_right}
use Rattle.edited_move.proofs.editing.shown_number.Goals as goal

pub returns-clause-few : goal.returns-clause-few
returns-clause-few c =
    let most : c.digits-digits.result ≤ 18 =
    omega (arith, c.digits-digits.ensures.value, c.digits-digits.ensures.most) in
    let few : 10 ^ c.digits-digits.result ≤ 10 ^ 18 = pow-le-pow_right (omega arith) most in
    omega (arith, c.cut.ensures.bound, few)
