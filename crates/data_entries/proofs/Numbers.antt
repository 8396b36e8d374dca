-- Integers that are read up to a bound.
use Rattle.std.proofs.Common.{◌≡◌, ℕ, suc, ◌+◌, ◌-◌, ◌*◌, ◌≤◌, ◌<◌, List, [], ◌∷◌, length, drop}
use Rattle.std.proofs.Common.{get_or, refl, sym, ap, ◌∙◌, drop-cons, arith, Bool, true, false, cond, Some, None}
use Rattle.std.specs.Prelude.{nat_le}
use Rattle.std.proofs.lemmas.Bool.Decides.{nat_tests}
use Rattle.decimal18.specs.Digits.{digits_after}

-- digits after more stand for more
behind-le : (a b : ℕ) (cs : List ℕ) → a ≤ b → digits_after a cs ≤ digits_after b cs
behind-le a b [] h = h
behind-le a b (c ∷ cs) h = behind-le (10 * a + (c - 48)) (10 * b + (c - 48)) cs (omega arith)

behind_least : (a : ℕ) (cs : List ℕ) → a ≤ digits_after a cs
behind_least a [] = omega arith
behind_least a (c ∷ cs) = let h = behind_least (10 * a + (c - 48)) cs in omega arith

-- one digit more, where it is too many
pub digit_above : (n most i all : ℕ) (cs : List ℕ) → i < length cs → digits_after n (drop i cs) ≡ all
    → (let next = 10 * n + (get_or cs i 0 - 48) in
    cond (nat_le next most) (Some next) None ≡ None → None ≡ cond (nat_le all most) (Some all) None)
digit_above n most i all cs lt e =
    let next = 10 * n + (get_or cs i 0 - 48) in
    let least = behind_least next (drop (suc i) cs) in
    let here : digits_after n (drop i cs) ≡ digits_after next (drop (suc i) cs) =
    ap (digits_after n) (drop-cons cs i 0 lt) in
    go (nat_le next most) refl (nat_le all most) refl least (sym here ∙ e)
  where
    go : {next more : ℕ} (b : Bool) → nat_le next most ≡ b → (c : Bool) → nat_le all most ≡ c → next ≤ more
        → more ≡ all → cond b (Some next) None ≡ None → None ≡ cond c (Some all) None
    go true is c at le same e = absurd cc
    go false is false at le same e = refl
    go false is true at le same e = absurd (grind (arith, nat_tests, is, at, le, same))
