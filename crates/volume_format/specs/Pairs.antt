-- The pairs of rows as keys of trees.
use Rattle.std.specs.Prelude.{◌≡◌, ◌<◌, ◌^◌, [], length}
use Rattle.std.specs.List.{All}
use Rattle.btree_pages.specs.Keys.{key_cmp}
use Rattle.records.specs.declared.file_spec.Organization.{Organization}
use Rattle.records.specs.declared.file_spec.Organization.TheVariants.{Sequential, Relative, Indexed}
use Rattle.records.specs.declared.key.KeyOfReference.{KeyOfReference}
use Rattle.records.specs.declared.key.KeyOfReference.TheVariants.{Prime, Alternate}
use Rattle.records.specs.Spec.{Spec}
use Rattle.records.specs.Files.{IsByte}
use Rattle.records.specs.Rows.{Row, Pair, place_of, pair_under, pair_cmp}
use Rattle.volume_format.specs.Trees.{key_under}

-- a pair that a row may have under a key
abbrev pub IsPrimePair : Organization → Pair → Type 0
IsPrimePair Sequential pair = (pair.value ≡ []) × (pair.number < 256 ^ 8)
IsPrimePair Relative pair = (pair.value ≡ []) × (pair.number < 256 ^ 4)
IsPrimePair (Indexed place) pair = (length pair.value ≡ place.length) × (pair.number ≡ 0)

abbrev pub IsPair : Spec → KeyOfReference → Pair → Type 0
IsPair spec Prime pair = IsPrimePair spec.organization pair
IsPair spec (Alternate i) pair = (length pair.value ≡ (place_of spec (Alternate i)).length) × (pair.number < 256 ^ 8)

-- a row whose pair can be a key
pub record IsUnder (spec : Spec) (key : KeyOfReference) (row : Row) : Type 0 where
  pub pair : IsPair spec key (pair_under spec key row)
  pub bytes : All IsByte (pair_under spec key row).value

-- keys compare as the pairs do
abbrev pub KeysInOrder : Type 0
KeysInOrder = (spec : Spec) (key : KeyOfReference) (one two : Pair) → IsPair spec key one → IsPair spec key two →
    key_cmp (key_under spec key one) (key_under spec key two) ≡ pair_cmp one two
