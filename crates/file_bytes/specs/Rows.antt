-- The bytes of a row: its key, its record, and its arrivals (own choice). Numbers are big-endian.
use Rattle.std.specs.Prelude.{◌++◌, ℕ, List}
use Rattle.std.specs.List.{flat_map}
use Rattle.byteorder.specs.Endian.{big_bytes}
use Rattle.records.specs.declared.file_spec.Organization.{Organization}
use Rattle.records.specs.declared.file_spec.Organization.TheVariants.{Sequential, Relative, Indexed}
use Rattle.records.specs.Rows.{Row, Pair, prime_pair}

-- how long the key of a row is
abbrev pub prime_key_length : Organization → ℕ
prime_key_length Sequential = 8
prime_key_length Relative = 4
prime_key_length (Indexed place) = place.length

-- the key of a row, by its pair under the prime key
abbrev pub prime_key : Organization → Pair → List ℕ
prime_key Sequential pair = big_bytes 8 pair.number
prime_key Relative pair = big_bytes 4 pair.number
prime_key (Indexed place) pair = pair.value

-- what follows the key: the record, and the row's arrivals
abbrev pub row_value : Row → List ℕ
row_value row = row.bytes ++ flat_map (big_bytes 8) row.arrivals

abbrev pub row_bytes : Organization → Row → List ℕ
row_bytes organization row = prime_key organization (prime_pair organization row) ++ row_value row
