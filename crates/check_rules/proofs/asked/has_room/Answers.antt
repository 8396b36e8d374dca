use Rattle.std.proofs.Common.{◌≡◌, ℕ, ◌+◌, ◌^◌, ◌<◌, ◌≤◌, nat_lt, true, arith}
use Rattle.std.proofs.Math.Nat.{pow-le-pow_right}
use Rattle.check_rules.proofs.asked.has_room.Goals as goal

-- a number of 32 bits and one more
above : (n m : ℕ) → n < 2 ^ 32 → 10 ^ 10 ≤ m → true ≡ nat_lt (n + 1) m
above n m h k = grind arith

pub returns-then-digits-gt9 : goal.returns-then-digits-gt9
returns-then-digits-gt9 c =
    let large = c.if-digits-gt9.true in
    let most : 10 ^ 10 ≤ 10 ^ c.args.digits =
    pow-le-pow_right {n = 10} (omega arith) {i = 10} {j = c.args.digits} (omega (arith, large)) in
    let small = c.ranges.size.fits in
    above c.args.size (10 ^ c.args.digits) (omega (arith, small)) most
