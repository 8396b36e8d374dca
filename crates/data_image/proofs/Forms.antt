-- What is read is spelled so, and what is spelled so is read: parts of an image one after the other.
use Rattle.std.proofs.Common.{◌≡◌, ℕ, suc, ◌+◌, Bool, true, false, cond, eqb, List, [], ◌∷◌, ◌++◌, take, drop, Result}
use Rattle.std.proofs.Common.{Ok, Err, refl, sym, ap, subst, ◌∙◌, append_assoc, arith, inl, inr, ◌⊎◌}
use Rattle.std.specs.Prelude.{Option, None, Some}
use Rattle.std.specs.List.{AllByRecursion}
use Rattle.std.proofs.lemmas.Bool.{cases_lt, eqb-true}
use Rattle.std.proofs.lemmas.List.{length-take, get_or-drop, get_or-take, get_or_past}
use Rattle.data_image.specs.declared.fault.ImageFault.{ImageFault}
use Rattle.data_image.specs.declared.fault.ImageFault.TheVariants as faults
use Rattle.data_image.specs.Spelling.{IsBytes, IsAny}
use Rattle.data_image.specs.Reading.{ReadResult, ◌>>=◌, or_value, byte_at, told_at}

pub IsBytes-drop : (n : ℕ) (bytes : List ℕ) → IsBytes bytes → IsBytes (drop n bytes)
IsBytes-drop n bytes h i = rw get_or-drop (h (n + i))

pub IsBytes-take : (n : ℕ) (bytes : List ℕ) → IsBytes bytes → IsBytes (take n bytes)
IsBytes-take n bytes h i =
    elim (cases_lt i n) [
      | inl lt ↦ rw (get_or-take n bytes i 0 lt) (h i)
      | inr le ↦ rw (get_or_past (take n bytes) i 0 (omega (arith, length-take n bytes))) (omega arith)
    ]

-- the value of a step that did not fail
pub bind_ok : {A B : Type 0} (r : Result A ImageFault) (f : A → Result B ImageFault) (y : B) → (r >>= f) ≡ Ok y
    → (x : A) × (r ≡ Ok x) × (f x ≡ Ok y)
bind_ok (Ok x) f y e = (x, refl, e)
bind_ok (Err d) f y e = absurd cc

pub bind_is : {A B : Type 0} (r : Result A ImageFault) (f : A → Result B ImageFault) (x : A) → r ≡ Ok x
    → (r >>= f) ≡ f x
bind_is {A = A} r f x e = ap (λ (r : Result A ImageFault). r >>= f) e

-- a test that did not fail
pub guard_ok : {A : Type 0} (b : Bool) (d : ImageFault) (x y : A) → cond b (Err d) (Ok x) ≡ Ok y → (b ≡ false) × (x ≡ y)
guard_ok true d x y e = absurd cc
guard_ok false d x y e = (refl, cc)

pub guard_passed : {A : Type 0} (b : Bool) (d : ImageFault) (x y : A) → cond b (Ok x) (Err d) ≡ Ok y
    → (b ≡ true) × (x ≡ y)
guard_passed true d x y e = (refl, cc)
guard_passed false d x y e = absurd cc

abbrev done : {A : Type 0} → A → Result A ImageFault
done x = Ok x

pub ok_is : {A : Type 0} (x y : A) → done x ≡ done y → x ≡ y
ok_is x y e = cc

abbrev not_read : (A : Type 0) → ImageFault → Result A ImageFault
not_read A d = Err d

pub failed : {A : Type 0} (d : ImageFault) (x : A) → not_read A d ≡ Ok x → ⊥
failed d x e = cc

-- what there was
pub value_ok : {A : Type 0} (o : Option A) (x : A) → or_value o ≡ Ok x → o ≡ Some x
value_ok None x e = absurd cc
value_ok (Some y) x e = cc

-- the way that a test went
pub chosen : {A : Type 0} (b : Bool) (x y z : A) → cond b x y ≡ z → ((b ≡ true) × (x ≡ z)) ⊎ ((b ≡ false) × (y ≡ z))
chosen true x y z e = inl (refl, e)
chosen false x y z e = inr (refl, e)

-- what a reader took from the front
pub record Takes (bytes text rest : List ℕ) : Type 0 where
  pub parts : bytes ≡ text ++ rest
  pub rest_fits : IsBytes rest

pub takes_then : (a x b y c : List ℕ) → Takes a x b → Takes b y c → Takes a (x ++ y) c
takes_then a x b y c p q =
    record { parts = p.parts ∙ ap (λ (t : List ℕ). x ++ t) q.parts ∙ sym (append_assoc x y c); rest_fits = q.rest_fits }

-- a byte before it
pub takes_kind : (kind : ℕ) (bytes text rest : List ℕ) → Takes bytes text rest → Takes (kind ∷ bytes) (kind ∷ text) rest
takes_kind kind bytes text rest t = record { parts = ap (λ (b : List ℕ). kind ∷ b) t.parts; rest_fits = t.rest_fits }

-- A reader and a spelling fit each other, and what is read fits its bytes.
pub record IsForm {A : Type 0} (read : List ℕ → ReadResult A) (spelled : A → List ℕ) (fits : A → Type 0) : Type 0 where
  pub takes : (bytes : List ℕ) (x : A) (rest : List ℕ) → IsBytes bytes → read bytes ≡ Ok (x, rest)
      → Takes bytes (spelled x) rest
  pub sound : (bytes : List ℕ) (x : A) (rest : List ℕ) → IsBytes bytes → read bytes ≡ Ok (x, rest) → fits x
  pub again : (x : A) (rest : List ℕ) → fits x → read (spelled x ++ rest) ≡ Ok (x, rest)

-- ---- one part, and what is read after it

pub record Part {A B : Type 0} (spelled : A → List ℕ) (fits : A → Type 0) (bytes : List ℕ)
    (f : A × List ℕ → Result B ImageFault) (y : B) : Type 0 where
  pub value : A
  pub rest : List ℕ
  pub takes : Takes bytes (spelled value) rest
  pub sound : fits value
  pub goes : f (value, rest) ≡ Ok y

pub part : {A B : Type 0} {read : List ℕ → ReadResult A} {spelled : A → List ℕ} {fits : A → Type 0}
    → IsForm read spelled fits
    → (bytes : List ℕ) (f : A × List ℕ → Result B ImageFault) (y : B) → IsBytes bytes → (read bytes >>= f) ≡ Ok y
    → Part spelled fits bytes f y
part {read = read} form bytes f y is e =
    let b = bind_ok (read bytes) f y e in
    record {
      value = b.0.0;
      rest = b.0.1;
      takes = form.takes bytes b.0.0 b.0.1 is b.1;
      sound = form.sound bytes b.0.0 b.0.1 is b.1;
      goes = b.2;
    }

pub part_again : {A B : Type 0} {read : List ℕ → ReadResult A} {spelled : A → List ℕ} {fits : A → Type 0}
    → IsForm read spelled fits
    → (x : A) (rest : List ℕ) (f : A × List ℕ → Result B ImageFault) → fits x
    → (read (spelled x ++ rest) >>= f) ≡ f (x, rest)
part_again {read = read} {spelled = spelled} form x rest f h =
    bind_is (read (spelled x ++ rest)) f (x, rest) (form.again x rest h)

-- what a whole reader took, and that it fits
abbrev pub Took : {A : Type 0} → (A → List ℕ) → (A → Type 0) → List ℕ → A × List ℕ → Type 0
Took spelled fits bytes x = Takes bytes (spelled x.0) x.1 × fits x.0

-- both halves of a form at once
pub form_of : {A : Type 0} (read : List ℕ → ReadResult A) (spelled : A → List ℕ) (fits : A → Type 0)
    → ((bytes : List ℕ) (x : A × List ℕ) → IsBytes bytes → read bytes ≡ Ok x → Took spelled fits bytes x)
    → ((x : A) (rest : List ℕ) → fits x → read (spelled x ++ rest) ≡ Ok (x, rest)) → IsForm read spelled fits
form_of read spelled fits took again = record {
  takes = λ bytes x rest is e. (took bytes (x, rest) is e).0;
  sound = λ bytes x rest is e. (took bytes (x, rest) is e).1;
  again = again;
}

-- ---- a byte, and what it begins

module _ {B : Type 0} (spelled : B → List ℕ) (fits : B → Type 0) where
  -- whatever byte comes first
  pub first_took : (from : ℕ → List ℕ → ReadResult B)
      → ((n : ℕ) (rest : List ℕ) (x : B × List ℕ) → IsBytes rest → from n rest ≡ Ok x → Took spelled fits (n ∷ rest) x)
      → (bytes : List ℕ) (x : B × List ℕ) → IsBytes bytes → (byte_at bytes >>= λ byte. from byte.0 byte.1) ≡ Ok x
      → Took spelled fits bytes x
  unfolding byte_at
  first_took from took [] x is e = absurd (failed faults.Length x e)
  first_took from took (n ∷ rest) x is e = took n rest x (λ i. is (suc i)) e

  -- the byte that was tested for
  pub byte_is : (k n : ℕ) (rest : List ℕ) (x : B × List ℕ) → eqb n k ≡ true → Took spelled fits (k ∷ rest) x
      → Took spelled fits (n ∷ rest) x
  byte_is k n rest x e t = subst (λ (m : ℕ). Took spelled fits (m ∷ rest) x) (sym (eqb-true n k e)) t

  -- a part after a byte
  pub behind_took : {A : Type 0} {read : List ℕ → ReadResult A} {inner : A → List ℕ} {holds : A → Type 0}
      → IsForm read inner holds → (k : ℕ) (make : A → B)
      → ((a : A) → spelled (make a) ≡ k ∷ inner a) → ((a : A) → holds a → fits (make a))
      → (rest : List ℕ) (x : B × List ℕ) → IsBytes rest → (read rest >>= λ a. Ok (make a.0, a.1)) ≡ Ok x
      → Took spelled fits (k ∷ rest) x
  behind_took {inner = inner} form k make same sound rest x is e =
      let a = part form rest (λ a. Ok (make a.0, a.1)) x is e in
      let t : Takes (k ∷ rest) (spelled (make a.value)) a.rest = subst (λ (s : List ℕ). Takes (k ∷ rest) s a.rest)
      (sym (same a.value)) (takes_kind k rest (inner a.value) a.rest a.takes) in
      subst (Took spelled fits (k ∷ rest)) (ok_is (make a.value, a.rest) x a.goes) (t, sound a.value a.sound)

  -- nothing after the byte
  pub alone_took : (k : ℕ) (y : B) (rest : List ℕ) (x : B × List ℕ) → (spelled y ≡ k ∷ []) × fits y → IsBytes rest
      → done (y, rest) ≡ Ok x → Took spelled fits (k ∷ rest) x
  alone_took k y rest x told is e =
      let t : Takes (k ∷ rest) (spelled y) rest =
      record { parts = ap (λ (s : List ℕ). s ++ rest) (sym told.0); rest_fits = is } in
      subst (Took spelled fits (k ∷ rest)) (ok_is (y, rest) x e) (t, told.1)

  -- what a byte tells, with nothing after it
  pub told_took : (told : ℕ → Option B) → ((n : ℕ) (y : B) → told n ≡ Some y → (spelled y ≡ n ∷ []) × fits y)
      → (n : ℕ) (rest : List ℕ) (x : B × List ℕ) → IsBytes rest → (or_value (told n) >>= λ y. Ok (y, rest)) ≡ Ok x
      → Took spelled fits (n ∷ rest) x
  told_took told found n rest x is e =
      let b = bind_ok (or_value (told n)) (λ y. Ok (y, rest)) x e in
      alone_took n b.0 rest x (found n b.0 (value_ok (told n) b.0 b.1)) is b.2

-- the value of the first pair with this byte
abbrev pub first_told : {A : Type 0} → List (ℕ × A) → ℕ → Option A
first_told [] n = None
first_told (p ∷ more) n = cond (eqb n p.0) (Some p.1) (first_told more n)

some_is : {A : Type 0} (x y : A) → Some x ≡ Some y → x ≡ y
some_is x y e = cc

-- each pair is a value and its one byte
abbrev pub AreTold : {A : Type 0} → (A → List ℕ) → (A → Type 0) → List (ℕ × A) → Type 0
AreTold spelled fits pairs = AllByRecursion (λ p. (spelled p.1 ≡ p.0 ∷ []) × fits p.1) pairs

pub told_in : {A : Type 0} (spelled : A → List ℕ) (fits : A → Type 0) (pairs : List (ℕ × A))
    → AreTold spelled fits pairs
    → (n : ℕ) (y : A) → first_told pairs n ≡ Some y → (spelled y ≡ n ∷ []) × fits y
told_in spelled fits [] all n y e = absurd cc
told_in spelled fits (p ∷ more) all n y e =
    elim (chosen (eqb n p.0) (Some p.1) (first_told more n) (Some y) e) [
      | inl q ↦
          let same : p.1 ≡ y = some_is p.1 y q.1 in
          let byte : n ≡ p.0 = eqb-true n p.0 q.0 in
          (ap spelled (sym same) ∙ all.0.0 ∙ ap (λ (m : ℕ). m ∷ []) (sym byte), subst fits same all.0.1)
      | inr q ↦ told_in spelled fits more all.1 n y q.1
    ]

-- the pairs of two lists, one list after the other
pub told_append : {A : Type 0} (spelled : A → List ℕ) (fits : A → Type 0) (a b : List (ℕ × A))
    → AreTold spelled fits a → AreTold spelled fits b → AreTold spelled fits (a ++ b)
told_append spelled fits [] b first second = second
told_append spelled fits (p ∷ more) b first second = (first.0, told_append spelled fits more b first.1 second)

-- a byte that tells a value by itself
module _ {A : Type 0} (spelled : A → List ℕ) (told : ℕ → Option A) (pairs : List (ℕ × A))
    (all : AreTold spelled IsAny pairs) (same : (n : ℕ) → told n ≡ first_told pairs n) where
  byte_took : (bytes : List ℕ) (x : A × List ℕ) → IsBytes bytes → told_at told bytes ≡ Ok x → Took spelled IsAny bytes x
  unfolding told_at
  byte_took bytes x is e =
      first_took spelled IsAny (λ n rest. or_value (told n) >>= λ y. Ok (y, rest))
      (told_took spelled IsAny told (λ n y t. told_in spelled IsAny pairs all n y (sym (same n) ∙ t))) bytes x is e

  byte_again : (n : ℕ) (y : A) (rest : List ℕ) → spelled y ≡ n ∷ [] → told n ≡ Some y
      → told_at told (spelled y ++ rest) ≡ Ok (y, rest)
  unfolding told_at byte_at
  byte_again n y rest s t =
      ap (λ (text : List ℕ). told_at told (text ++ rest)) s ∙ ap (λ (o : Option A). or_value o >>= λ z. Ok (z, rest)) t

  pub byte_told : ((y : A) → (n : ℕ) × (spelled y ≡ n ∷ []) × (told n ≡ Some y)) → IsForm (told_at told) spelled IsAny
  byte_told each =
      form_of (told_at told) spelled IsAny byte_took (λ y rest h. byte_again (each y).0 y rest (each y).1 (each y).2)
