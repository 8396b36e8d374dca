-- The rows of a file can be keys of its trees.
use Rattle.std.proofs.Common.{◌≡◌, ◌≤◌, ◌<◌, ◌+◌, ◌-◌, ◌^◌, ℕ, List, length, refl, arith}
use Rattle.std.specs.Prelude.{drop, slice_index_or}
use Rattle.std.specs.List.{All}
use Rattle.std.proofs.lemmas.List.{length-drop, length-take-le}
use Rattle.std.proofs.lemmas.List.Elements.{All-take, All-drop, All-nil, All-from_recursion}
use Rattle.records.specs.declared.file_spec.KeyPlace.{KeyPlace}
use Rattle.records.specs.declared.file_spec.Organization.{Organization}
use Rattle.records.specs.declared.file_spec.Organization.TheVariants.{Sequential, Relative, Indexed}
use Rattle.records.specs.declared.key.KeyOfReference.TheVariants.{Prime, Alternate}
use Rattle.records.specs.Spec.{Spec}
use Rattle.records.specs.Rows.{Row, part, place_of, prime_place, named_pair}
use Rattle.records.specs.Files.{File, IsRow, IsRowNumber, IsByte, IsArrival, IsFile}
use Rattle.volume_format.specs.Pairs.{IsPrimePair, IsUnder}
use Rattle.records.proofs.Places.{place_within}

part_long : (place : KeyPlace) (n : ℕ) (bytes : List ℕ) → place.offset + place.length ≤ n → length bytes ≡ n
    → length (part place bytes) ≡ place.length
part_long place n bytes fits long =
    let rest : length (drop place.offset bytes) ≡ length bytes - place.offset = length-drop place.offset bytes in
    length-take-le place.length (drop place.offset bytes) (omega (arith, rest, long))

part_bytes : (place : KeyPlace) (bytes : List ℕ) → All IsByte bytes → All IsByte (part place bytes)
part_bytes place bytes low =
    All-take IsByte place.length (drop place.offset bytes) (All-drop IsByte place.offset bytes low)

prime_pair_is : (file : File) (organization : Organization) (row : Row)
    → (prime_place organization).offset + (prime_place organization).length ≤ file.spec.record_length
    → length row.bytes ≡ file.spec.record_length →
    file.next_arrival ≤ 2 ^ 63 → IsRowNumber organization file.next_arrival row.number
    → IsPrimePair organization (named_pair organization row.number row.bytes)
prime_pair_is file Sequential row fits long few number = (refl, let less = number.1 in omega arith)
prime_pair_is file Relative row fits long few number = (refl, let high = number.1 in omega arith)
prime_pair_is file (Indexed place) row fits long few number =
    (part_long place file.spec.record_length row.bytes fits long, refl)

pub prime_bytes : (organization : Organization) (row : Row) → All IsByte row.bytes
    → All IsByte (named_pair organization row.number row.bytes).value
prime_bytes Sequential row low = All-nil IsByte
prime_bytes Relative row low = All-nil IsByte
prime_bytes (Indexed place) row low = part_bytes place row.bytes low

pub rows_fit_most : (file : File) → IsFile file → file.next_arrival ≤ 2 ^ 63 →
    All (IsUnder file.spec Prime) file.rows
    × ((i : ℕ) → i < length file.spec.alternates → All (IsUnder file.spec (Alternate i)) file.rows)
rows_fit_most file is few =
    let spec : Spec = file.spec in
    let rows : All (IsRow spec file.next_arrival) file.rows =
    All-from_recursion (IsRow spec file.next_arrival) file.rows is.rows in (
      λ k d within.
          let row : Row = slice_index_or file.rows k d in
          let row_is : IsRow spec file.next_arrival row = rows k d within in
          let bytes = All-from_recursion IsByte row.bytes row_is.bytes in
          record {
            pair = prime_pair_is file spec.organization row (place_within spec Prime is.spec (omega arith)) row_is.long
                few row_is.number;
            bytes = prime_bytes spec.organization row bytes;
          },
      λ i key k d within.
          let row : Row = slice_index_or file.rows k d in
          let row_is : IsRow spec file.next_arrival row = rows k d within in
          let bytes = All-from_recursion IsByte row.bytes row_is.bytes in
          let count : length row.arrivals ≡ length spec.alternates = row_is.arrivals in
          let given : IsArrival file.next_arrival (slice_index_or row.arrivals i 0) =
          All-from_recursion (IsArrival file.next_arrival) row.arrivals row_is.given i 0 (omega arith) in
          record {
            pair = (
              part_long (place_of spec (Alternate i)) spec.record_length row.bytes
                  (place_within spec (Alternate i) is.spec key) row_is.long,
              let less = given.1 in omega arith,
            );
            bytes = part_bytes (place_of spec (Alternate i)) row.bytes bytes;
          },
    )

pub rows_fit : (file : File) → IsFile file → file.next_arrival < 2 ^ 63 →
    All (IsUnder file.spec Prime) file.rows
    × ((i : ℕ) → i < length file.spec.alternates → All (IsUnder file.spec (Alternate i)) file.rows)
rows_fit file is few = rows_fit_most file is (omega arith)
