-- Digits after a number never make it less.
use Rattle.std.proofs.Common.{◌≡◌, ℕ, ◌+◌, ◌-◌, ◌*◌, ◌^◌, ◌<◌, ◌≤◌, List, [], ◌∷◌, length, drop, get_or, ap, sym, ◌∙◌}
use Rattle.std.proofs.Common.{arith, add-one, nat_lt, Some, None, if◌then◌else◌, subst}
use Rattle.std.proofs.Math.Seq.{drop-cons}
use Rattle.std.proofs.lemmas.Bool.{le-ltb}
use Rattle.std.proofs.Math.Nat.{pow-suc}
use Rattle.decimal18.specs.Digits.{digits_after}
use Rattle.decimal18.proofs.Powers.{power_le}

grows : (n : ℕ) (cs : List ℕ) → n ≤ digits_after n cs
grows n [] = omega arith
grows n (c ∷ cs) = omega (arith, grows (10 * n + (c - 48)) cs)

pub one_more : (n i : ℕ) (cs : List ℕ) → i < length cs
    → digits_after n (drop i cs) ≡ digits_after (10 * n + (get_or cs i 0 - 48)) (drop (i + 1) cs)
one_more n i cs h = ap (digits_after n) (drop-cons cs i 0 h)
    ∙ ap (λ j. digits_after (10 * n + (get_or cs i 0 - 48)) (drop j cs)) (sym (add-one i))

pub too_long : (n i all p : ℕ) (cs : List ℕ) → i < length cs → p ≡ 10 ^ 37 → p ≤ n → digits_after n (drop i cs) ≡ all
    → None ≡ (if nat_lt all (10 ^ 38) then Some all else None)
too_long n i all p cs h q above e =
    let next : 10 * n + (get_or cs i 0 - 48) ≤ digits_after n (drop i cs) =
    subst (λ m. 10 * n + (get_or cs i 0 - 48) ≤ m) (sym (one_more n i cs h)) (grows _ (drop (i + 1) cs)) in
    let least : 10 ^ 37 ≤ n = subst (λ m. m ≤ n) q above in
    let over : 10 ^ 38 ≤ all = subst (λ m. 10 ^ 38 ≤ m) e (omega (arith, next, least)) in
    sym (ap (λ b. if b then Some all else None) (le-ltb all (10 ^ 38) over))

-- A run of at most 18 digits stays below 10^18.
pub room_behind : (n i : ℕ) → i < 18 → n < 10 ^ i → 10 * n + 9 < 10 ^ 18
room_behind n i h below =
    let most : 10 ^ i ≤ 10 ^ 17 = power_le i 17 (omega arith) in
    omega (arith, below, most)

pub digit_behind : (n i d : ℕ) → n < 10 ^ i → d ≤ 9 → 10 * n + d < 10 ^ (i + 1)
digit_behind n i d below h =
    let power : 10 ^ (i + 1) ≡ 10 ^ i * 10 = ap (λ k. 10 ^ k) (add-one i) ∙ pow-suc 10 i in
    omega (arith, below, power)

pub short_run : (n i : ℕ) → i ≤ 18 → n < 10 ^ i → n < 10 ^ 18
short_run n i h below =
    let most : 10 ^ i ≤ 10 ^ 18 = power_le i 18 h in
    omega (arith, below, most)
