-- The verbs of READ and START suit their file.
use Rattle.std.proofs.Common.{ℕ, suc, ◌+◌, ◌≤◌, List, [], ◌∷◌, arith}
use Rattle.std.specs.Prelude.{◌==◌, Bool, true, false, if◌then◌else◌, length, Option, Some, None}
use Rattle.records.specs.declared.file_spec.AlternateKey.{AlternateKey}
use Rattle.records.specs.declared.key.KeyOfReference.TheVariants.{Prime}
use Rattle.records.specs.declared.verb.Verb.TheVariants as verb
use Rattle.records.specs.Spec.{Spec}
use Rattle.records.specs.Stores.{IsKey}
use Rattle.records.specs.FileStep.{Suits}
use Rattle.source_tree.specs.declared.reference.Reference.{Reference}
use Rattle.source_tree.specs.declared.file_statement.StartKey.{StartKey}
use Rattle.source_tree.specs.Places.{LocatedItem}
use Rattle.source_tree.specs.ProgramFiles.{ProgramFile, key_place}
use Rattle.source_tree.specs.Filing.{is_in_sequence, key_from, key_named, read_key, read_verb, start_verb}

key_or_later : (spec : Spec) (number offset : ℕ) (more : List AlternateKey) (found : Bool)
    → number + suc (length more) ≤ length spec.alternates
    → IsKey spec (key_from (number + 1) more offset)
    → IsKey spec (if found then Rattle.records.specs.declared.key.KeyOfReference.TheVariants.Alternate number
    else key_from (number + 1) more offset)
key_or_later spec number offset more true le later = omega arith
key_or_later spec number offset more false le later = later

is_key : (spec : Spec) (number : ℕ) (keys : List AlternateKey) (offset : ℕ)
    → number + length keys ≤ length spec.alternates → IsKey spec (key_from number keys offset)
is_key spec number [] offset le = omega arith
is_key spec number (one ∷ more) offset le =
    key_or_later spec number offset more (one.place.offset == offset) le
    (is_key spec (number + 1) more offset (omega arith))

named_key : (items : List LocatedItem) (file : ProgramFile) (one : Reference)
    → IsKey file.entry.spec (key_named items file one)
named_key items file one =
    is_key file.entry.spec 0 file.entry.spec.alternates (key_place items one).offset (omega arith)

read_key_is : (items : List LocatedItem) (file : ProgramFile) (key : Option Reference)
    → IsKey file.entry.spec (read_key items file key)
read_key_is items file None = omega arith
read_key_is items file (Some one) = named_key items file one

one_of : (file : ProgramFile) (items : List LocatedItem) (key : Option Reference) (in_sequence : Bool)
    → Suits file.entry (if in_sequence then verb.ReadNext else verb.Read (read_key items file key))
one_of file items key true = tt
one_of file items key false = read_key_is items file key

pub read_suits : (items : List LocatedItem) (file : ProgramFile) (next : Bool) (key : Option Reference)
    → Suits file.entry (read_verb items file next key)
read_suits items file next key = one_of file items key (is_in_sequence file next)

pub start_suits : (items : List LocatedItem) (file : ProgramFile) (key : Option StartKey)
    → Suits file.entry (start_verb items file key)
start_suits items file None = (omega arith, omega arith)
start_suits items file (Some one) = (named_key items file one.key, omega arith)
