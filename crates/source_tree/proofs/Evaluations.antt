-- What is found out in two ways, and one thing after another.
use Rattle.std.proofs.Common.{◌≡◌, Bool, true, false, cond, Option, Some, None, refl, ap}
use Rattle.std.specs.Prelude.{Ok, Err}
use Rattle.source_tree.specs.Evaluated.{Evaluation, ◌>>=◌, evaluation_of}
use Rattle.source_tree.specs.Evaluated as fault
use Rattle.source_tree.specs.References.{ItemPlace}

-- the same fault, or what belongs together
abbrev pub Alike : {A B : Type 0} → (A → B → Type 0) → Evaluation A → Evaluation B → Type 0
Alike R (Ok a) (Ok b) = R a b
Alike R (Ok a) (Err g) = ⊥
Alike R (Err f) (Ok b) = ⊥
Alike R (Err f) (Err g) = f ≡ g

abbrev pub okay : {A : Type 0} → A → Evaluation A
okay x = Ok x

pub same_Ok : {A : Type 0} (x y : A) → okay x ≡ okay y → x ≡ y
same_Ok x y e = cc

pub bind_same : {A B : Type 0} (r : Evaluation A) (f g : A → Evaluation B) → ((x : A) → f x ≡ g x) → r >>= f ≡ r >>= g
bind_same (Ok x) f g same = same x
bind_same (Err fault) f g same = refl

pub bind_ok : {A : Type 0} (r : Evaluation A) → r ≡ r >>= (λ x. okay x)
bind_ok (Ok x) = refl
bind_ok (Err fault) = refl

pub bound : {A B : Type 0} (r : Evaluation A) (f : A → Evaluation B) (y : B) → r >>= f ≡ Ok y
    → (x : A) × (r ≡ Ok x) × (f x ≡ Ok y)
bound (Ok x) f y e = (x, refl, e)
bound (Err fault) f y e = absurd cc

pub same_Some : {A : Type 0} (x y : A) → ◌≡◌ {A = Option A} (Some x) (Some y) → x ≡ y
same_Some x y e = cc

pub needed_is : {A : Type 0} (o : Option A) (x : A) → evaluation_of o ≡ Ok x → o ≡ Some x
needed_is None x e = absurd cc
needed_is (Some y) x e = ap Some (same_Ok y x e)

pub chosen : (test : Bool) (x y : ItemPlace) → cond test (okay x) (Err fault.Part) ≡ okay y → x ≡ y
chosen true x y e = same_Ok x y e
chosen false x y e = absurd cc
