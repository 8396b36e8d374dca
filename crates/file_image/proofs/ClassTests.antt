-- A status is of a class by its first character.
use Rattle.std.proofs.Common.{◌≡◌, ℕ, Bool, true, false, cond, eqb, List, [], ◌∷◌, refl, inl, inr}
use Rattle.std.specs.Prelude.{nat_eq, slice_index_or}
use Rattle.std.proofs.lemmas.Bool.{eqb-true}
use Rattle.data_image.proofs.Forms.{chosen}
use Rattle.source_tree.specs.Filing as meaning
use Rattle.source_tree.specs.Filing.{Class, class_by}
use Rattle.file_image.specs.declared.class.StatusClass.TheVariants.{Successful, AtEnd, InvalidKey}
use Rattle.file_image.specs.Classes.{is_of}

-- The characters 0, 1 and 2 are told one after the other.
abbrev told : Bool → Bool → Bool → Class
told zero one two = cond zero meaning.Successful (cond one meaning.AtEnd (cond two meaning.InvalidKey meaning.Other))

zero : (a b c : Bool) → a ≡ is_of Successful (told a b c)
zero true b c = refl
zero false true c = refl
zero false false true = refl
zero false false false = refl

one : (b c : Bool) → b ≡ is_of AtEnd (told false b c)
one true c = refl
one false true = refl
one false false = refl

two : (c : Bool) → c ≡ is_of InvalidKey (told false false c)
two true = refl
two false = refl

pub successful : (bytes : List ℕ) → nat_eq (slice_index_or bytes 0 0) 48 ≡ is_of Successful (class_by bytes)
successful [] = refl
successful (first ∷ more) = zero (eqb first 48) (eqb first 49) (eqb first 50)

pub at_end : (bytes : List ℕ) → nat_eq (slice_index_or bytes 0 0) 49 ≡ is_of AtEnd (class_by bytes)
at_end [] = refl
at_end (first ∷ more) =
    elim (chosen (eqb first 48) true false (eqb first 48) (itself (eqb first 48))) [
      | inl p ↦ let e = eqb-true first 48 p.0 in rw e refl
      | inr q ↦ rw q.0 (one (eqb first 49) (eqb first 50))
    ]
  where
    itself : (b : Bool) → cond b true false ≡ b
    itself true = refl
    itself false = refl

pub invalid_key : (bytes : List ℕ) → nat_eq (slice_index_or bytes 0 0) 50 ≡ is_of InvalidKey (class_by bytes)
invalid_key [] = refl
invalid_key (first ∷ more) =
    elim (chosen (eqb first 48) true false (eqb first 48) (itself (eqb first 48))) [
      | inl p ↦ let e = eqb-true first 48 p.0 in rw e refl
      | inr q ↦ elim (chosen (eqb first 49) true false (eqb first 49) (itself (eqb first 49))) [
        | inl p ↦ let e = eqb-true first 49 p.0 in rw e refl
        | inr r ↦ rw (q.0, r.0) (two (eqb first 50))
      ]
    ]
  where
    itself : (b : Bool) → cond b true false ≡ b
    itself true = refl
    itself false = refl
