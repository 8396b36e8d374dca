-- What the value of an entry of the catalog spells, read from its places.
use Rattle.std.specs.Prelude.{◌+◌, ◌*◌, ◌++◌, ℕ, zero, suc, List, [], ◌∷◌, length, drop}
use Rattle.byteorder.specs.Endian.{big_number}
use Rattle.records.specs.Spec.{Spec}
use Rattle.volume_format.specs.Catalog.{Listing}

-- the pages of so many roots, in a value of the catalog
abbrev pub roots_in : ℕ → List ℕ → List ℕ
roots_in zero value = []
roots_in (suc k) value = roots_in k value ++ big_number 4 (drop (47 + 4 * k) value) ∷ []

-- what a value of the catalog says of a file of this spec
abbrev pub listing_in : Spec → List ℕ → Listing
listing_in spec value = record {
  spec = spec;
  prime = big_number 4 (drop 43 value);
  alternates = roots_in (length spec.alternates) value;
  next_arrival = big_number 8 (drop 75 value);
}
