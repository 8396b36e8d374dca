-- Keys, read and spelled.
use Rattle.std.proofs.Common.{◌≡◌, ℕ, eqb, List, [], ◌∷◌, ◌++◌, Ok, refl, ap, subst, ◌∙◌, append_assoc, inl, inr}
use Rattle.records.specs.declared.file_spec.KeyPlace.{KeyPlace}
use Rattle.records.specs.declared.file_spec.AlternateKey.{AlternateKey}
use Rattle.records.specs.declared.key.KeyOfReference.{KeyOfReference}
use Rattle.records.specs.declared.key.KeyOfReference.TheVariants.{Prime, Alternate}
use Rattle.data_image.specs.declared.fault.ImageFault.TheVariants as faults
use Rattle.data_image.specs.Spelling.{IsBytes, small_bytes, flag_byte}
use Rattle.data_image.specs.Reading.{◌>>=◌, byte_at, small_at, told_at, flag_of}
use Rattle.data_image.proofs.Forms.{ok_is, failed, chosen, takes_then, IsForm, part, part_again, Took, form_of}
use Rattle.data_image.proofs.Forms.{first_took, byte_is, behind_took, alone_took}
use Rattle.data_image.proofs.Numbers.{byte_form, flag_form, small_form}
use Rattle.file_image.specs.Spelling.{key_bytes, IsKeySpelled, key_from, key_at, place_bytes, IsPlaceSpelled, place_at}
use Rattle.file_image.specs.Spelling.{alternate_bytes, IsAlternateSpelled, alternate_at}

-- ---- keys of reference

abbrev alternate : ℕ → KeyOfReference
alternate number = Alternate number

key_from_took : (n : ℕ) (rest : List ℕ) (x : KeyOfReference × List ℕ) → IsBytes rest → key_from n rest ≡ Ok x
    → Took key_bytes IsKeySpelled (n ∷ rest) x
key_from_took n rest x is e =
    elim (chosen (eqb n 0) _ _ _ e) [
      | inl p ↦ byte_is key_bytes IsKeySpelled 0 n rest x p.0
          (alone_took key_bytes IsKeySpelled 0 Prime rest x (refl, tt) is p.1)
      | inr q ↦ elim (chosen (eqb n 1) _ _ _ q.1) [
        | inl p ↦ byte_is key_bytes IsKeySpelled 1 n rest x p.0
            (behind_took key_bytes IsKeySpelled byte_form 1 alternate (λ a. refl) (λ a h. h) rest x is p.1)
        | inr r ↦ absurd (failed faults.Value x r.1)
      ]
    ]

key_took : (bytes : List ℕ) (x : KeyOfReference × List ℕ) → IsBytes bytes → key_at bytes ≡ Ok x
    → Took key_bytes IsKeySpelled bytes x
unfolding key_at
key_took bytes x is e = first_took key_bytes IsKeySpelled key_from key_from_took bytes x is e

key_again : (key : KeyOfReference) (rest : List ℕ) → IsKeySpelled key → key_at (key_bytes key ++ rest) ≡ Ok (key, rest)
unfolding key_at byte_at
key_again Prime rest h = refl
key_again (Alternate number) rest h = refl

pub key_form : IsForm key_at key_bytes IsKeySpelled
key_form = form_of key_at key_bytes IsKeySpelled key_took key_again

-- ---- places of keys

place_took : (bytes : List ℕ) (x : KeyPlace × List ℕ) → IsBytes bytes → place_at bytes ≡ Ok x
    → Took place_bytes IsPlaceSpelled bytes x
unfolding place_at
place_took bytes x is e =
    let a = part small_form bytes _ x is e in
    let b = part small_form a.rest _ x a.takes.rest_fits a.goes in
    let both = takes_then bytes (small_bytes a.value) a.rest (small_bytes b.value) b.rest a.takes b.takes in
    let made : KeyPlace = record { offset = a.value; length = b.value } in
    subst (Took place_bytes IsPlaceSpelled bytes) {x =
    (made, b.rest)} (ok_is (made, b.rest) x b.goes) (both, (a.sound, b.sound))

place_again : (one : KeyPlace) (rest : List ℕ) → IsPlaceSpelled one
    → place_at (place_bytes one ++ rest) ≡ Ok (one, rest)
unfolding place_at
place_again one rest h =
    ap place_at (append_assoc (small_bytes one.offset) (small_bytes one.length) rest)
    ∙ part_again small_form one.offset (small_bytes one.length ++ rest)
    (λ offset. small_at offset.1 >>= λ length. Ok (record { offset = offset.0; length = length.0 }, length.1)) h.0
    ∙ part_again small_form one.length rest (λ length. Ok (record { offset = one.offset; length = length.0 }, length.1))
    h.1

pub place_form : IsForm place_at place_bytes IsPlaceSpelled
place_form = form_of place_at place_bytes IsPlaceSpelled place_took place_again

-- ---- alternate keys

alternate_took : (bytes : List ℕ) (x : AlternateKey × List ℕ) → IsBytes bytes → alternate_at bytes ≡ Ok x
    → Took alternate_bytes IsAlternateSpelled bytes x
unfolding alternate_at alternate_bytes
alternate_took bytes x is e =
    let a = part place_form bytes _ x is e in
    let b = part flag_form a.rest _ x a.takes.rest_fits a.goes in
    let both = takes_then bytes (place_bytes a.value) a.rest (flag_byte b.value ∷ []) b.rest a.takes b.takes in
    let made : AlternateKey = record { place = a.value; duplicates = b.value } in
    subst (Took alternate_bytes IsAlternateSpelled bytes) {x =
    (made, b.rest)} (ok_is (made, b.rest) x b.goes) (both, record { place = a.sound })

alternate_again : (one : AlternateKey) (rest : List ℕ) → IsAlternateSpelled one
    → alternate_at (alternate_bytes one ++ rest) ≡ Ok (one, rest)
unfolding alternate_at alternate_bytes
alternate_again one rest h =
    ap alternate_at (append_assoc (place_bytes one.place) (flag_byte one.duplicates ∷ []) rest)
    ∙ part_again place_form one.place (flag_byte one.duplicates ∷ [] ++ rest) (λ place. told_at flag_of place.1 >>=
    λ duplicates. Ok (record { place = place.0; duplicates = duplicates.0 }, duplicates.1)) h.place
    ∙ part_again flag_form one.duplicates rest
    (λ duplicates. Ok (record { place = one.place; duplicates = duplicates.0 }, duplicates.1)) tt

pub alternate_form : IsForm alternate_at alternate_bytes IsAlternateSpelled
alternate_form = form_of alternate_at alternate_bytes IsAlternateSpelled alternate_took alternate_again
