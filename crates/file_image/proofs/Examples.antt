-- Worked examples: the bytes of files, verbs and classes, and what isn't read.
use Rattle.std.proofs.Common.{◌≡◌, true, false, [], ◌∷◌, Ok, Err, Some, None, refl}
use Rattle.records.specs.declared.file_spec.Organization.TheVariants as organization
use Rattle.records.specs.declared.key.KeyOfReference.TheVariants.{Prime, Alternate}
use Rattle.records.specs.declared.select.Access.TheVariants as access
use Rattle.records.specs.declared.status.Status.TheVariants as status
use Rattle.records.specs.declared.verb.Relation.TheVariants as relation
use Rattle.records.specs.declared.verb.Verb.TheVariants as v
use Rattle.data_image.specs.declared.fault.ImageFault.TheVariants as faults
use Rattle.data_image.specs.Spelling.{count_bytes, short_bytes, small_bytes}
use Rattle.data_image.specs.Reading.{byte_at, told_at}
use Rattle.file_image.specs.declared.class.StatusClass.TheVariants.{Successful, AtEnd, InvalidKey}
use Rattle.file_image.specs.declared.file.CodeFile.{CodeFile}
use Rattle.file_image.specs.Classes.{has_class}
use Rattle.file_image.specs.Spelling.{class_of, class_at, key_at, relation_of, plain_verb_of, verb_bytes, verb_at}
use Rattle.file_image.specs.Spelling.{alternate_bytes, file_bytes}

-- A status is of a class by its first character.
no_more : has_class AtEnd status.AtEnd ≡ true
unfolding has_class
no_more = refl

duplicate : has_class Successful status.SuccessDuplicate ≡ true
unfolding has_class
duplicate = refl

missing : has_class InvalidKey status.FileMissing ≡ false
unfolding has_class
missing = refl

-- READ NEXT, and a READ by the second alternate key
next : verb_bytes v.ReadNext ≡ 6 ∷ []
next = refl

second_key : verb_bytes (v.Read (Alternate 1)) ≡ 10 ∷ 1 ∷ 1 ∷ []
second_key = refl

-- START on the first 4 bytes of the prime key
start : verb_bytes (v.Start relation.NotLess Prime 4) ≡ 11 ∷ 3 ∷ 0 ∷ 4 ∷ []
start = refl

start_again : verb_at (11 ∷ 3 ∷ 0 ∷ 4 ∷ 9 ∷ []) ≡ Ok (v.Start relation.NotLess Prime 4, 9 ∷ [])
unfolding verb_at key_at told_at byte_at relation_of
start_again = refl

-- no verb has this byte, and no class
no_verb : verb_at (12 ∷ []) ≡ Err faults.Value
unfolding verb_at byte_at plain_verb_of
no_verb = refl

no_class : class_at (0 ∷ []) ≡ Err faults.Value
unfolding told_at byte_at class_of
no_class = refl

-- an indexed file F of 80 bytes a record, with its key at the front and an alternate key with duplicates, its record
-- area the third
abbrev f : CodeFile
f = record {
  name = 70 ∷ [];
  organization = organization.Indexed (record { offset = 0; length = 6 });
  record_length = 80;
  alternates = record { place = record { offset = 6; length = 20 }; duplicates = true } ∷ [];
  access = access.Dynamic;
  optional = false;
  area = 2;
  relative_key = None;
  status = Some (record { number = 7 });
}

f_bytes : file_bytes f ≡
    0 ∷ 0 ∷ 0 ∷ 0 ∷ 0 ∷ 0 ∷ 0 ∷ 1 ∷ 70 ∷ 3 ∷ 0 ∷ 0 ∷ 0 ∷ 6 ∷ 0 ∷ 80
    ∷ 0 ∷ 0 ∷ 0 ∷ 0 ∷ 0 ∷ 0 ∷ 0 ∷ 1 ∷ 0 ∷ 6 ∷ 0 ∷ 20 ∷ 1 ∷ 3 ∷ 0 ∷ 0 ∷ 0 ∷ 0 ∷ 2 ∷ 0 ∷ 1 ∷ 0 ∷ 0 ∷ 0 ∷ 7 ∷ []
unfolding count_bytes short_bytes small_bytes alternate_bytes
f_bytes = refl
