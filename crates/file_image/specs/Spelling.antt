-- Files, verbs and classes of statuses in an image (own choice).
use Rattle.std.specs.Prelude.{ℕ, Bool, ◌==◌, List, [], ◌∷◌, ◌++◌, Option, None, Some, Ok, Err, if◌then◌else◌}
use Rattle.records.specs.declared.file_spec.KeyPlace.{KeyPlace}
use Rattle.records.specs.declared.file_spec.AlternateKey.{AlternateKey}
use Rattle.records.specs.declared.file_spec.Organization.{Organization}
use Rattle.records.specs.declared.file_spec.Organization.TheVariants as organization
use Rattle.records.specs.declared.key.KeyOfReference.{KeyOfReference}
use Rattle.records.specs.declared.key.KeyOfReference.TheVariants.{Prime, Alternate}
use Rattle.records.specs.declared.select.Access.{Access}
use Rattle.records.specs.declared.select.Access.TheVariants as access
use Rattle.records.specs.declared.verb.OpenMode.TheVariants as mode
use Rattle.records.specs.declared.verb.Relation.{Relation}
use Rattle.records.specs.declared.verb.Relation.TheVariants as relation
use Rattle.records.specs.declared.verb.Verb.{Verb}
use Rattle.records.specs.declared.verb.Verb.TheVariants as v
use Rattle.records.specs.Spec.{Spec}
use Rattle.data_instructions.specs.declared.index.ItemIndex.{ItemIndex}
use Rattle.data_image.specs.declared.fault.ImageFault.TheVariants as faults
use Rattle.data_image.specs.Spelling.{small_bytes, short_bytes, flag_byte, text_bytes, table_bytes, IsByte, IsSmall, FitsFourBytes, IsText, AreSpelled}
use Rattle.data_image.specs.Reading.{ReadResult, ◌>>=◌, or_value, byte_at, told_at, flag_of, small_at, short_at, text_at, table_at}
use Rattle.file_image.specs.declared.class.StatusClass.{StatusClass}
use Rattle.file_image.specs.declared.class.StatusClass.TheVariants.{Successful, AtEnd, InvalidKey}
use Rattle.file_image.specs.declared.file.CodeFile.{CodeFile}
use Rattle.file_image.specs.Files.{spec_of}

-- ---- classes of statuses

abbrev pub class_byte : StatusClass → ℕ
class_byte Successful = 1
class_byte AtEnd = 2
class_byte InvalidKey = 3

unfoldable pub class_of : ℕ → Option StatusClass
class_of byte =
    if byte == 1 then Some Successful
    else if byte == 2 then Some AtEnd
    else if byte == 3 then Some InvalidKey
    else None

abbrev pub class_at : List ℕ → ReadResult StatusClass
class_at bytes = told_at class_of bytes

-- ---- verbs

-- a key: 0, or 1 and the number of the alternate key
abbrev pub key_bytes : KeyOfReference → List ℕ
key_bytes Prime = 0 ∷ []
key_bytes (Alternate number) = 1 ∷ number ∷ []

abbrev pub relation_byte : Relation → ℕ
relation_byte relation.Equal = 1
relation_byte relation.Greater = 2
relation_byte relation.NotLess = 3

-- the verb, and what START and a READ by key name
abbrev pub verb_bytes : Verb → List ℕ
verb_bytes (v.Open mode.Input) = 1 ∷ []
verb_bytes (v.Open mode.Output) = 2 ∷ []
verb_bytes (v.Open mode.InputOutput) = 3 ∷ []
verb_bytes (v.Open mode.Extend) = 4 ∷ []
verb_bytes v.Close = 5 ∷ []
verb_bytes v.ReadNext = 6 ∷ []
verb_bytes v.Write = 7 ∷ []
verb_bytes v.Rewrite = 8 ∷ []
verb_bytes v.Delete = 9 ∷ []
verb_bytes (v.Read key) = 10 ∷ key_bytes key
verb_bytes (v.Start relation key count) = 11 ∷ (relation_byte relation ∷ [] ++ key_bytes key ++ count ∷ [])

-- its numbers fit their bytes
abbrev pub IsKeySpelled : KeyOfReference → Type 0
IsKeySpelled Prime = Unit {0}
IsKeySpelled (Alternate number) = IsByte number

-- This is so of each `Verb` that a program holds.
abbrev pub IsVerbSpelled : Verb → Type 0
IsVerbSpelled (v.Read key) = IsKeySpelled key
IsVerbSpelled (v.Start relation key count) = IsKeySpelled key × IsByte count
IsVerbSpelled (v.Open mode) = Unit {0}
IsVerbSpelled v.Close = Unit {0}
IsVerbSpelled v.ReadNext = Unit {0}
IsVerbSpelled v.Write = Unit {0}
IsVerbSpelled v.Rewrite = Unit {0}
IsVerbSpelled v.Delete = Unit {0}

abbrev pub alternate_key_at : List ℕ → ReadResult KeyOfReference
alternate_key_at bytes = do
  number ← byte_at bytes
  Ok (Alternate number.0, number.1)

abbrev pub key_from : ℕ → List ℕ → ReadResult KeyOfReference
key_from byte bytes = if byte == 0 then Ok (Prime, bytes) else if byte == 1 then alternate_key_at bytes else Err faults.Value

unfoldable pub key_at : List ℕ → ReadResult KeyOfReference
key_at bytes = do
  byte ← byte_at bytes
  key_from byte.0 byte.1

unfoldable pub relation_of : ℕ → Option Relation
relation_of byte =
    if byte == 1 then Some relation.Equal
    else if byte == 2 then Some relation.Greater
    else if byte == 3 then Some relation.NotLess
    else None

-- a verb that is one byte
unfoldable pub plain_verb_of : ℕ → Option Verb
plain_verb_of byte =
    if byte == 1 then Some (v.Open mode.Input)
    else if byte == 2 then Some (v.Open mode.Output)
    else if byte == 3 then Some (v.Open mode.InputOutput)
    else if byte == 4 then Some (v.Open mode.Extend)
    else if byte == 5 then Some v.Close
    else if byte == 6 then Some v.ReadNext
    else if byte == 7 then Some v.Write
    else if byte == 8 then Some v.Rewrite
    else if byte == 9 then Some v.Delete
    else None

abbrev pub read_at : List ℕ → ReadResult Verb
read_at bytes = do
  key ← key_at bytes
  Ok (v.Read key.0, key.1)

abbrev pub start_at : List ℕ → ReadResult Verb
start_at bytes = do
  relation ← told_at relation_of bytes
  key ← key_at relation.1
  count ← byte_at key.1
  Ok (v.Start relation.0 key.0 count.0, count.1)

-- the verb whose first byte this is
abbrev pub verb_from : ℕ → List ℕ → ReadResult Verb
verb_from byte bytes =
    if byte == 10 then read_at bytes
    else if byte == 11 then start_at bytes
    else or_value (plain_verb_of byte) >>= λ verb. Ok (verb, bytes)

unfoldable pub verb_at : List ℕ → ReadResult Verb
verb_at bytes = do
  byte ← byte_at bytes
  verb_from byte.0 byte.1

-- ---- files

-- where a key starts, and its length
abbrev pub place_bytes : KeyPlace → List ℕ
place_bytes one = small_bytes one.offset ++ small_bytes one.length

-- the organization: one byte, and of an indexed file the place of its prime key
abbrev pub organization_bytes : Organization → List ℕ
organization_bytes organization.Sequential = 1 ∷ []
organization_bytes organization.Relative = 2 ∷ []
organization_bytes (organization.Indexed place) = 3 ∷ place_bytes place

-- its place, and whether it has duplicates
unfoldable pub alternate_bytes : AlternateKey → List ℕ
alternate_bytes one = place_bytes one.place ++ flag_byte one.duplicates ∷ []

-- what a file is: its organization, the bytes of a record, and its alternate keys
abbrev pub spec_bytes : Spec → List ℕ
spec_bytes one = organization_bytes one.organization ++ small_bytes one.record_length ++ table_bytes alternate_bytes one.alternates

abbrev pub access_byte : Access → ℕ
access_byte access.Sequential = 1
access_byte access.Random = 2
access_byte access.Dynamic = 3

-- an item of the table: 0, or 1 and its number
abbrev pub item_bytes : Option ItemIndex → List ℕ
item_bytes None = 0 ∷ []
item_bytes (Some item) = 1 ∷ short_bytes item.number

abbrev pub file_bytes : CodeFile → List ℕ
file_bytes one =
    text_bytes one.name ++ spec_bytes (spec_of one) ++ access_byte one.access ∷ [] ++ flag_byte one.optional ∷ [] ++ short_bytes one.area
    ++ item_bytes one.relative_key ++ item_bytes one.status

-- its numbers fit their bytes
abbrev pub IsPlaceSpelled : KeyPlace → Type 0
IsPlaceSpelled one = IsSmall one.offset × IsSmall one.length

abbrev pub IsOrganizationSpelled : Organization → Type 0
IsOrganizationSpelled organization.Sequential = Unit {0}
IsOrganizationSpelled organization.Relative = Unit {0}
IsOrganizationSpelled (organization.Indexed place) = IsPlaceSpelled place

pub record IsAlternateSpelled (one : AlternateKey) : Type 0 where
  pub place : IsPlaceSpelled one.place

abbrev pub IfItemSpelled : Option ItemIndex → Type 0
IfItemSpelled None = Unit {0}
IfItemSpelled (Some item) = FitsFourBytes item.number

pub record IsSpecSpelled (one : Spec) : Type 0 where
  pub organization : IsOrganizationSpelled one.organization
  pub record_length : IsSmall one.record_length
  pub alternates : AreSpelled IsAlternateSpelled one.alternates

pub record IsFileSpelled (one : CodeFile) : Type 0 where
  pub name : IsText one.name
  pub spec : IsSpecSpelled (spec_of one)
  pub area : FitsFourBytes one.area
  pub relative_key : IfItemSpelled one.relative_key
  pub status : IfItemSpelled one.status

unfoldable pub place_at : List ℕ → ReadResult KeyPlace
place_at bytes = do
  offset ← small_at bytes
  length ← small_at offset.1
  Ok (record { offset = offset.0; length = length.0 }, length.1)

abbrev pub indexed_at : List ℕ → ReadResult Organization
indexed_at bytes = do
  place ← place_at bytes
  Ok (organization.Indexed place.0, place.1)

abbrev pub organization_from : ℕ → List ℕ → ReadResult Organization
organization_from byte bytes =
    if byte == 1 then Ok (organization.Sequential, bytes)
    else if byte == 2 then Ok (organization.Relative, bytes)
    else if byte == 3 then indexed_at bytes
    else Err faults.Value

unfoldable pub organization_at : List ℕ → ReadResult Organization
organization_at bytes = do
  byte ← byte_at bytes
  organization_from byte.0 byte.1

unfoldable pub alternate_at : List ℕ → ReadResult AlternateKey
alternate_at bytes = do
  place ← place_at bytes
  duplicates ← told_at flag_of place.1
  Ok (record { place = place.0; duplicates = duplicates.0 }, duplicates.1)

unfoldable pub spec_at : List ℕ → ReadResult Spec
spec_at bytes = do
  organization ← organization_at bytes
  record_length ← small_at organization.1
  alternates ← table_at alternate_at record_length.1
  Ok (record { organization = organization.0; record_length = record_length.0; alternates = alternates.0 }, alternates.1)

unfoldable pub access_of : ℕ → Option Access
access_of byte =
    if byte == 1 then Some access.Sequential
    else if byte == 2 then Some access.Random
    else if byte == 3 then Some access.Dynamic
    else None

abbrev pub some_item_at : List ℕ → ReadResult (Option ItemIndex)
some_item_at bytes = do
  number ← short_at bytes
  Ok (Some (record { number = number.0 }), number.1)

abbrev pub item_from : ℕ → List ℕ → ReadResult (Option ItemIndex)
item_from byte bytes = if byte == 0 then Ok (None, bytes) else if byte == 1 then some_item_at bytes else Err faults.Value

unfoldable pub item_at : List ℕ → ReadResult (Option ItemIndex)
item_at bytes = do
  byte ← byte_at bytes
  item_from byte.0 byte.1

unfoldable pub file_at : List ℕ → ReadResult CodeFile
file_at bytes = do
  name ← text_at bytes
  spec ← spec_at name.1
  access ← told_at access_of spec.1
  optional ← told_at flag_of access.1
  area ← short_at optional.1
  relative_key ← item_at area.1
  status ← item_at relative_key.1
  Ok (
    record {
      name = name.0;
      organization = spec.0.organization;
      record_length = spec.0.record_length;
      alternates = spec.0.alternates;
      access = access.0;
      optional = optional.0;
      area = area.0;
      relative_key = relative_key.0;
      status = status.0;
    },
    status.1,
  )

-- how a program uses a file: what comes after its kind
unfoldable pub uses_at : List ℕ → ReadResult (Access × Bool × ℕ × Option ItemIndex × Option ItemIndex)
uses_at bytes = do
  access ← told_at access_of bytes
  optional ← told_at flag_of access.1
  area ← short_at optional.1
  relative_key ← item_at area.1
  status ← item_at relative_key.1
  Ok ((access.0, optional.0, area.0, relative_key.0, status.0), status.1)

-- the same as `file_at`, in three parts
abbrev pub file_parts_at : List ℕ → ReadResult CodeFile
file_parts_at bytes = do
  name ← text_at bytes
  spec ← spec_at name.1
  uses ← uses_at spec.1
  Ok (
    record {
      name = name.0;
      organization = spec.0.organization;
      record_length = spec.0.record_length;
      alternates = spec.0.alternates;
      access = uses.0.0;
      optional = uses.0.1;
      area = uses.0.2;
      relative_key = uses.0.3;
      status = uses.0.4;
    },
    uses.1,
  )
