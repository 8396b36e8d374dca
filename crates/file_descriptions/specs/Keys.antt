-- Where a key stands among others.
use Rattle.std.specs.Prelude.{ℕ, suc, nat_lt, if◌then◌else◌, List, [], ◌∷◌}
use Rattle.records.specs.declared.file_spec.AlternateKey.{AlternateKey}

-- how many of these stand before one, at the front
unfoldable pub keys_before : AlternateKey → List AlternateKey → ℕ
keys_before one [] = 0
keys_before one (other ∷ more) = if nat_lt other.place.offset one.place.offset then suc (keys_before one more) else 0
