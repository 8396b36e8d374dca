-- What was read in steps, of which each may fail: what the first that failed says of all of them.
use Rattle.std.proofs.Common.{◌≡◌, Ok, ap, sym, subst, ◌∙◌}
use Rattle.std.specs.Prelude.{Option, None, Some, Result}
use Rattle.answers.specs.Answer.{Fails}
use Rattle.data_image.specs.declared.fault.ImageFault.{ImageFault}
use Rattle.data_image.specs.Reading.{◌>>=◌}
use Rattle.data_image.proofs.Forms.{bind_is}

pub fails_here : {A B : Type 0} (e : Option ImageFault) (r : Result A ImageFault) (f : A → Result B ImageFault)
    → Fails e r → Fails e (r >>= f)
fails_here None r f h = tt
fails_here (Some fault) r f h = ap (λ r. r >>= f) h

pub fails_later : {A B : Type 0} (e : Option ImageFault) (r : Result A ImageFault) (f : A → Result B ImageFault)
    (x : A) → r ≡ Ok x → Fails e (f x) → Fails e (r >>= f)
fails_later e r f x is h = subst (Fails e) (sym (bind_is r f x is)) h

pub ok_later : {A B : Type 0} (r : Result A ImageFault) (f : A → Result B ImageFault) (x : A)
    (all : Result B ImageFault) → r ≡ Ok x → f x ≡ all → (r >>= f) ≡ all
ok_later r f x all is h = bind_is r f x is ∙ h
