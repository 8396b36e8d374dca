-- The bytes of a file's name and of its description (own choice). Numbers are big-endian.
use Rattle.std.specs.Prelude.{◌≡◌, ◌-◌, ◌++◌, ℕ, true, List, [], ◌∷◌, length, replicate, if◌then◌else◌}
use Rattle.std.specs.List.{flat_map}
use Rattle.byteorder.specs.Endian.{big_bytes}
use Rattle.records.specs.declared.file_spec.KeyPlace.{KeyPlace}
use Rattle.records.specs.declared.file_spec.AlternateKey.{AlternateKey}
use Rattle.records.specs.declared.file_spec.Organization.{Organization}
use Rattle.records.specs.declared.file_spec.Organization.TheVariants.{Sequential, Relative, Indexed}
use Rattle.records.specs.Spec.{Spec, is_spec}
use Rattle.records.specs.Rows.{prime_place}

-- up to so many bytes, with zeros
abbrev pub filled_to : ℕ → List ℕ → List ℕ
filled_to count bytes = bytes ++ replicate (count - length bytes) 0

-- a name is followed by zeros, and has none itself
abbrev pub padded_name : List ℕ → List ℕ
padded_name name = filled_to 30 name

abbrev pub organization_byte : Organization → ℕ
organization_byte Sequential = 0
organization_byte Relative = 1
organization_byte (Indexed place) = 2

abbrev pub place_bytes : KeyPlace → List ℕ
place_bytes place = big_bytes 2 place.offset ++ big_bytes 2 place.length

abbrev pub key_bytes : AlternateKey → List ℕ
key_bytes key = place_bytes key.place ++ (if key.duplicates then 1 else 0) ∷ []

abbrev pub spec_head : Spec → List ℕ
spec_head spec = organization_byte spec.organization ∷ (big_bytes 2 spec.record_length ++ (place_bytes (prime_place spec.organization) ++ length spec.alternates ∷ []))

-- the description, 43 bytes; one of fewer than seven alternate keys has zeros in their places
unfoldable pub spec_bytes : Spec → List ℕ
spec_bytes spec = spec_head spec ++ filled_to 35 (flat_map key_bytes spec.alternates)

-- bytes spell at most one spec
abbrev pub OneSpec : Type 0
OneSpec = (one two : Spec) → is_spec one ≡ true → is_spec two ≡ true → spec_bytes one ≡ spec_bytes two → one ≡ two
