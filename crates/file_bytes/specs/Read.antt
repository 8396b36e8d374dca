-- What bytes spell, read from their places.
use Rattle.std.specs.Prelude.{◌==◌, not, ℕ, zero, suc, List, [], ◌∷◌, length, take, drop, slice_index, Option, Some, None, Result, Ok, Err, if◌then◌else◌}
use Rattle.byteorder.specs.Endian.{big_number}
use Rattle.records.specs.declared.fault.StoreFault.{StoreFault}
use Rattle.records.specs.declared.file_spec.KeyPlace.{KeyPlace}
use Rattle.records.specs.declared.file_spec.AlternateKey.{AlternateKey}
use Rattle.records.specs.declared.file_spec.Organization.{Organization}
use Rattle.records.specs.declared.file_spec.Organization.TheVariants.{Sequential, Relative, Indexed}
use Rattle.records.specs.Spec.{Spec}
use Rattle.records.specs.Rows.{Row}

-- something was read that is so, unless memory ran out
abbrev pub IfRead : {A : Type 0} → Result (Option A) StoreFault → (A → Type 0) → Type 0
IfRead (Ok None) so = ⊥
IfRead (Ok (Some found)) so = so found
IfRead (Err fault) so = Unit {0}

-- the bytes in front of the first zero
abbrev pub name_in : List ℕ → List ℕ
name_in [] = []
name_in (byte ∷ bytes) = if byte == 0 then [] else byte ∷ name_in bytes

abbrev pub place_in : List ℕ → KeyPlace
place_in bytes = record { offset = big_number 2 bytes; length = big_number 2 (drop 2 bytes) }

abbrev pub key_in : List ℕ → AlternateKey
key_in bytes = record { place = place_in bytes; duplicates = not (slice_index bytes 4 == 0) }

-- so many of one size, one after the other
abbrev pub several : {A : Type 0} → ℕ → (List ℕ → A) → ℕ → List ℕ → List A
several size one zero bytes = []
several size one (suc k) bytes = one bytes ∷ several size one k (drop size bytes)

abbrev pub keys_in : ℕ → List ℕ → List AlternateKey
keys_in k bytes = several 5 key_in k bytes

abbrev pub numbers_in : ℕ → List ℕ → List ℕ
numbers_in k bytes = several 8 (big_number 8) k bytes

abbrev pub organization_in : ℕ → KeyPlace → Option Organization
organization_in byte place = if byte == 0 then Some Sequential else if byte == 1 then Some Relative else if byte == 2 then Some (Indexed place) else None

-- the number that the key of a row has, and the row of a key and what follows it
abbrev pub number_in : Organization → List ℕ → ℕ
number_in Sequential key = big_number 8 key
number_in Relative key = big_number 4 key
number_in (Indexed place) key = 0

abbrev pub row_in : Spec → List ℕ → List ℕ → Row
row_in spec key value = record {
  number = number_in spec.organization key;
  bytes = take spec.record_length value;
  arrivals = numbers_in (length spec.alternates) (drop spec.record_length value);
}
