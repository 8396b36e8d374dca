-- A file is read in three parts.
use Rattle.std.proofs.Common.{◌≡◌, ℕ, List, Result, Ok, Err, refl}
use Rattle.data_image.specs.declared.fault.ImageFault.{ImageFault}
use Rattle.data_image.specs.Reading.{◌>>=◌, told_at, flag_of, short_at, text_at}
use Rattle.file_image.specs.Spelling.{access_of, item_at, spec_at, uses_at, file_parts_at, file_at}

bind_same : {A B : Type 0} (r : Result A ImageFault) (f g : A → Result B ImageFault) → ((x : A) → f x ≡ g x)
    → (r >>= f) ≡ (r >>= g)
bind_same (Ok x) f g same = same x
bind_same (Err e) f g same = refl

bind_then : {A B C : Type 0} (r : Result A ImageFault) (f : A → Result B ImageFault) (g : A → Result C ImageFault)
    (h : B → Result C ImageFault) → ((x : A) → g x ≡ (f x >>= h)) → (r >>= g) ≡ ((r >>= f) >>= h)
bind_then (Ok x) f g h same = same x
bind_then (Err e) f g h same = refl

pub file_parts : (bytes : List ℕ) → file_at bytes ≡ file_parts_at bytes
unfolding file_at uses_at
file_parts bytes =
    bind_same (text_at bytes) _ _ (λ name.
    bind_same (spec_at name.1) _ _ (λ spec.
    bind_then (told_at access_of spec.1) _ _ _ (λ access.
    bind_then (told_at flag_of access.1) _ _ _ (λ optional.
    bind_then (short_at optional.1) _ _ _ (λ area.
    bind_then (item_at area.1) _ _ _ (λ relative_key.
    bind_then (item_at relative_key.1) _ _ _ (λ status. refl)))))))
