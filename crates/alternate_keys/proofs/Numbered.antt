-- Prime keys and numbers that a caller may ask for.
use Rattle.std.proofs.Common.{◌≡◌, ◌<◌, ◌^◌, Bool, true, false, ℕ, List, [], ◌∷◌, length, refl, ap, ◌∙◌, arith}
use Rattle.std.specs.Prelude.{Some, None, if◌then◌else◌}
use Rattle.std.specs.List.{All}
use Rattle.std.proofs.lemmas.Bool.{leb-true, leb-false}
use Rattle.std.proofs.lemmas.List.Elements.{All-head, All-tail}
use Rattle.btree.proofs.Frames.{false_unless}
use Rattle.records.specs.declared.file_spec.KeyPlace.{KeyPlace}
use Rattle.records.specs.declared.file_spec.Organization.{Organization}
use Rattle.records.specs.declared.file_spec.Organization.TheVariants.{Sequential, Relative, Indexed}
use Rattle.records.specs.declared.key.KeyOfReference.TheVariants.{Prime}
use Rattle.records.specs.Spec.{Spec}
use Rattle.records.specs.Rows.{Row, Pair, prime_place, prime_pair, named_pair, part}
use Rattle.records.specs.Changes.{is_at, row_at}
use Rattle.records.specs.Stores.{pair_of, key_length}
use Rattle.records.proofs.Changed.{pair_same}
use Rattle.volume_format.specs.Pairs.{IsPair, IsPrimePair, IsUnder}
use Rattle.alternate_keys.specs.Moved.{is_out_of_range}

-- no row has a number that is out of range
other_number : (o : Organization) (number : ℕ) (value : List ℕ) (row : Row) → is_out_of_range o number ≡ true
    → IsPrimePair o (prime_pair o row) → is_at o (pair_of o value number) row ≡ true → ⊥
other_number Sequential number value row out is at = absurd cc
other_number Relative number value row out is at =
    let high = leb-true (256 ^ 4) number out in
    let same : row.number ≡ number =
    ap (λ (p : Pair). p.number) (pair_same (prime_pair Relative row) (pair_of Relative value number) at) in
    let low = is.1 in
    omega (arith, high, same, low)
other_number (Indexed place) number value row out is at = absurd cc

pub no_row : (spec : Spec) (number : ℕ) (value : List ℕ) (rows : List Row)
    → is_out_of_range spec.organization number ≡ true → All (IsUnder spec Prime) rows
    → row_at spec.organization (pair_of spec.organization value number) rows ≡ None
no_row spec number value [] out under = refl
no_row spec number value (row ∷ rows) out under =
    let pair : Pair = pair_of spec.organization value number in
    let here : is_at spec.organization pair row ≡ false =
    false_unless (is_at spec.organization pair row)
    (other_number spec.organization number value row out (All-head (IsUnder spec Prime) row rows under).pair) in
    ap (λ (b : Bool). if b then Some row else row_at spec.organization pair rows) here
    ∙ no_row spec number value rows out (All-tail (IsUnder spec Prime) row rows under)

-- and one within can be a row's
pair_by : (o : Organization) (number : ℕ) (value : List ℕ) → length value ≡ (prime_place o).length → number < 2 ^ 64
    → is_out_of_range o number ≡ false → IsPrimePair o (pair_of o value number)
pair_by Sequential number value long few within = (refl, omega (arith, few))
pair_by Relative number value long few within = (refl, leb-false (256 ^ 4) number within)
pair_by (Indexed place) number value long few within = (long, refl)

pub asked_pair : (spec : Spec) (number : ℕ) (value : List ℕ) → length value ≡ key_length spec Prime → number < 2 ^ 64
    → is_out_of_range spec.organization number ≡ false → IsPair spec Prime (pair_of spec.organization value number)
asked_pair spec number value long few within = pair_by spec.organization number value long few within

-- the pair that a record names
pub named_here : (o : Organization) (number : ℕ) (bytes : List ℕ)
    → pair_of o (part (prime_place o) bytes) number ≡ named_pair o number bytes
named_here Sequential number bytes = refl
named_here Relative number bytes = refl
named_here (Indexed place) number bytes = refl

-- and by its prime key in the record
pub named_by : (spec : Spec) (place : KeyPlace) (number : ℕ) (bytes value : List ℕ)
    → place ≡ prime_place spec.organization
    → value ≡ part place bytes → pair_of spec.organization value number ≡ named_pair spec.organization number bytes
named_by spec place number bytes value place_is is =
    ap (λ (v : List ℕ). pair_of spec.organization v number) (is ∙ ap (λ (p : KeyPlace). part p bytes) place_is)
    ∙ named_here spec.organization number bytes
