-- Files that no program tells from one another.
use Rattle.std.specs.Prelude.{◌≡◌, ◌<◌, ℕ, List, length, slice_index_or, ⊤}
use Rattle.std.specs.List.{AllZip}
use Rattle.records.specs.declared.file_spec.Organization.{Organization}
use Rattle.records.specs.declared.file_spec.Organization.TheVariants.{Sequential, Relative, Indexed}
use Rattle.records.specs.declared.key.KeyOfReference.{KeyOfReference}
use Rattle.records.specs.declared.key.KeyOfReference.TheVariants.{Alternate}
use Rattle.records.specs.Spec.{Spec}
use Rattle.records.specs.Rows.{Row, pair_cmp, pair_under}
use Rattle.records.specs.Files.{File, NamedFile, Files}

-- A program sees the number of a row in a relative file alone.
abbrev pub IsSameNumber : Organization → ℕ → ℕ → Type 0
IsSameNumber Sequential one two = ⊤
IsSameNumber Relative one two = one ≡ two
IsSameNumber (Indexed place) one two = ⊤

pub record IsSameRow (organization : Organization) (one two : Row) : Type 0 where
  pub bytes : one.bytes ≡ two.bytes
  pub number : IsSameNumber organization one.number two.number

-- the rows are in one order under a key
pub record IsSameOrder (spec : Spec) (key : KeyOfReference) (one two : List Row) : Type 0 where
  pub each : (p q : ℕ) (d : Row) → p < length one → q < length one
      → pair_cmp (pair_under spec key (slice_index_or one p d)) (pair_under spec key (slice_index_or one q d))
      ≡ pair_cmp (pair_under spec key (slice_index_or two p d)) (pair_under spec key (slice_index_or two q d))

-- one description, the same records in one order under the prime key, and in one order under each alternate key
pub record IsSameFile (one two : File) : Type 0 where
  pub spec : one.spec ≡ two.spec
  pub rows : AllZip (IsSameRow one.spec.organization) one.rows two.rows
  pub order : (i : ℕ) → i < length one.spec.alternates → IsSameOrder one.spec (Alternate i) one.rows two.rows

pub record IsSameNamed (one two : NamedFile) : Type 0 where
  pub name : one.name ≡ two.name
  pub file : IsSameFile one.file two.file

abbrev pub AreSameFiles : Files → Files → Type 0
AreSameFiles one two = AllZip IsSameNamed one two
