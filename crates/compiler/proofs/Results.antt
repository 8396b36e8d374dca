-- What a result holds.
use Rattle.std.proofs.Common.{◌≡◌, ◌∙◌, Result, Ok, sym}

ok : {A : Type 0} (F : Type 0) → A → Result A F
ok F a = Ok a

same : {A F : Type 0} {a b : A} → ok F a ≡ ok F b → a ≡ b
unfolding ok
same e = cc

-- a result has one value
pub value : {A F : Type 0} {r : Result A F} {a b : A} → r ≡ Ok a → r ≡ Ok b → a ≡ b
unfolding ok
value {F = F} e f = same {F = F} (sym e ∙ f)
