-- An image is never refused, and bytes are never refused for damage.
use Rattle.std.proofs.Common.{◌≡◌, ℕ, List, [], ◌∷◌, length, Result, Ok, Err, refl, subst, ap, arith, inl, inr}
use Rattle.code_image.specs.declared.code.Code.{Code}
use Rattle.code_image.specs.Demands.{IsVerified, RefusesCode}
use Rattle.code_image.specs.Reading.{code_at}
use Rattle.data_image.specs.declared.fault.ImageFault.{ImageFault}
use Rattle.data_image.specs.declared.fault.ImageFault.TheVariants as in_image
use Rattle.compiler.specs.Images.{IsImageOf}
use Rattle.compiler.proofs.Images.{OneSpelling, read_again}
use Rattle.compiler.proofs.Results.{value}
use Rattle.run_unit.specs.Ends.{ForImage, IsCauseOf, IsEndOfImage}
use Rattle.run_unit.specs.Images.{IsImage, RefusesImage}
use Rattle.run_unit.specs.declared.ended.Ended.{Ended}
use Rattle.run_unit.specs.declared.ended.Ended.TheVariants.{Stopped, Budget, Faulted, Refused}
use Rattle.run_unit.specs.declared.ended.Refusal.{Refusal}
use Rattle.run_unit.specs.declared.ended.Refusal.TheVariants.{Image, Device, Full, Damaged, Memory, Old}

-- verified code breaks no demand
keeps_demands : (code : Code) (fault : ImageFault) → IsVerified code → RefusesCode code fault → ⊥
keeps_demands code in_image.Mark verified refuses = refuses
keeps_demands code in_image.Length verified refuses = refuses
keeps_demands code in_image.Value verified refuses = refuses verified.tables
keeps_demands code in_image.Index verified refuses = refuses.1 verified.within
keeps_demands code in_image.Shape verified refuses = refuses.1 verified.shape

err_not_ok : (r : Result Code ImageFault) (fault : ImageFault) (code : Code) → r ≡ Err fault → r ≡ Ok code → ⊥
err_not_ok r fault code bad good = cc

-- and never refused
never_refused : OneSpelling → (image : List ℕ) (code : Code) (fault : ImageFault) → IsImageOf image code
    → RefusesImage image fault → ⊥
never_refused spelt image code fault is (inl bad) =
    err_not_ok (code_at image) fault code bad (read_again spelt image code is)
never_refused spelt image code fault is (inr refused) =
    keeps_demands refused.0 fault (subst IsVerified (value (read_again spelt image code is) refused.1) is.verified)
    refused.2

-- so its run ends otherwise
pub end_of_image : OneSpelling → (image : List ℕ) (ended : Ended) → IsImage image → ForImage ended image
    → IsEndOfImage ended
end_of_image spelt image Stopped is for = tt
end_of_image spelt image Budget is for = tt
end_of_image spelt image (Faulted fault line) is for = tt
end_of_image spelt image (Refused (Image fault)) is for = never_refused spelt image is.0 fault is.1 for
end_of_image spelt image (Refused Device) is for = tt
end_of_image spelt image (Refused Full) is for = tt
end_of_image spelt image (Refused Damaged) is for = tt
end_of_image spelt image (Refused Memory) is for = tt
end_of_image spelt image (Refused Old) is for = tt

-- of two lists of one length both are empty, or none
pub none_too : {A B : Type 0} (xs : List A) (ys : List B) → length xs ≡ length ys → ys ≡ [] → xs ≡ []
none_too [] ys same none = refl
none_too (x ∷ xs) ys same none = let zero : length ys ≡ 0 = ap length none in absurd (omega arith)

-- bytes are never refused for damage
pub no_damage : (refusal : Refusal) (image : List ℕ) → IsCauseOf refusal image → Refused refusal ≡ Refused Damaged → ⊥
no_damage (Image fault) image cause is = cc
no_damage Device image cause is = cause
no_damage Full image cause is = cause
no_damage Damaged image cause is = cause
no_damage Memory image cause is = cc
no_damage Old image cause is = cause
