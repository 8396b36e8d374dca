-- Two tests, the second of which is to fail.
use Rattle.std.proofs.Common.{◌≡◌, Bool, true, false, refl}
use Rattle.std.specs.Prelude.{◌&&◌, not}

pub not_second : (a b : Bool) → (a && not b) ≡ true → b ≡ false
not_second true true e = cc
not_second true false e = refl
not_second false b e = cc

pub both : (a b : Bool) → a ≡ true → b ≡ false → (a && not b) ≡ true
both true true e f = cc
both true false e f = refl
both false b e f = cc

pub no_first : (a b : Bool) → a ≡ false → (a && not b) ≡ false
no_first true b e = cc
no_first false b e = refl

pub second : (a b : Bool) → b ≡ true → (a && not b) ≡ false
second true true e = refl
second true false e = cc
second false b e = refl
