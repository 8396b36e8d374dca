-- How long the key and the value of a new row are.
use Rattle.std.proofs.Common.{◌≡◌, ◌≤◌, ◌+◌, ◌-◌, ◌*◌, ◌++◌, ℕ, zero, suc, true, List, [], ◌∷◌, length, refl, arith}
use Rattle.std.specs.Prelude.{map, drop}
use Rattle.std.specs.List.{flat_map}
use Rattle.std.proofs.lemmas.List.{length-append, length-drop, length-take-le}
use Rattle.byteorder.specs.Endian.{big_bytes}
use Rattle.records.specs.declared.file_spec.AlternateKey.{AlternateKey}
use Rattle.records.specs.declared.file_spec.KeyPlace.{KeyPlace}
use Rattle.records.specs.declared.file_spec.Organization.{Organization}
use Rattle.records.specs.declared.file_spec.Organization.TheVariants.{Sequential, Relative, Indexed}
use Rattle.records.specs.declared.key.KeyOfReference.TheVariants.{Prime}
use Rattle.records.specs.Spec.{Spec, is_spec}
use Rattle.records.specs.Rows.{part, prime_place, named_pair}
use Rattle.file_bytes.specs.Rows.{prime_key, prime_key_length}
use Rattle.records.proofs.Places.{place_within}

pub bytes_long : (n x : ℕ) → length (big_bytes n x) ≡ n
bytes_long zero x = refl
bytes_long (suc n) x = let rest = bytes_long n x in omega (arith, rest)

pub part_long : (place : KeyPlace) (n : ℕ) (bytes : List ℕ) → place.offset + place.length ≤ n → length bytes ≡ n
    → length (part place bytes) ≡ place.length
part_long place n bytes fits long =
    let rest : length (drop place.offset bytes) ≡ length bytes - place.offset = length-drop place.offset bytes in
    length-take-le place.length (drop place.offset bytes) (omega (arith, rest, long, fits))

key_by : (o : Organization) (n number : ℕ) (bytes : List ℕ) → (prime_place o).offset + (prime_place o).length ≤ n
    → length bytes ≡ n → length (prime_key o (named_pair o number bytes)) ≡ prime_key_length o
key_by Sequential n number bytes fits long = bytes_long 8 number
key_by Relative n number bytes fits long = bytes_long 4 number
key_by (Indexed place) n number bytes fits long = part_long place n bytes fits long

pub key_long : (spec : Spec) (number : ℕ) (bytes : List ℕ) → is_spec spec ≡ true → length bytes ≡ spec.record_length
    → length (prime_key spec.organization (named_pair spec.organization number bytes)) ≡ prime_key_length
    spec.organization
key_long spec number bytes is long =
    key_by spec.organization spec.record_length number bytes (place_within spec Prime is (omega arith)) long

arrivals_long : (keys : List AlternateKey) (arrival : ℕ)
    → length (flat_map (big_bytes 8) (map (λ (key : AlternateKey). arrival) keys)) ≡ 8 * length keys
arrivals_long [] arrival = refl
arrivals_long (key ∷ keys) arrival =
    let rest = arrivals_long keys arrival in
    let all =
    length-append (big_bytes 8 arrival) (flat_map (big_bytes 8) (map (λ (key : AlternateKey). arrival) keys)) in
    omega (arith, rest, all)

pub value_long : (spec : Spec) (arrival : ℕ) (bytes : List ℕ) → length bytes ≡ spec.record_length
    → length (bytes ++ flat_map (big_bytes 8) (map (λ (key : AlternateKey). arrival) spec.alternates))
    ≡ spec.record_length + 8 * length spec.alternates
value_long spec arrival bytes long =
    let rest = arrivals_long spec.alternates arrival in
    let all = length-append bytes (flat_map (big_bytes 8) (map (λ (key : AlternateKey). arrival) spec.alternates)) in
    omega (arith, rest, all, long)
