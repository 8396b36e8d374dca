-- File statements (COBOL-85, Sequential, Relative and Indexed I-O): the verbs, and what follows a status. Names that name no file, and
-- records of none, do nothing.
use Rattle.std.specs.Prelude.{ℕ, ◌+◌, ◌==◌, min, Bool, true, false, ◌||◌, if◌then◌else◌, List, [], ◌∷◌, Option, Some, None}
use Rattle.records.specs.declared.key.KeyOfReference.{KeyOfReference}
use Rattle.records.specs.declared.key.KeyOfReference.TheVariants.{Prime, Alternate}
use Rattle.records.specs.declared.file_spec.AlternateKey.{AlternateKey}
use Rattle.records.specs.declared.verb.Relation as compared
use Rattle.records.specs.declared.verb.Relation.TheVariants as relating
use Rattle.records.specs.declared.verb.Verb.{Verb}
use Rattle.records.specs.declared.verb.Verb.TheVariants as verb
use Rattle.records.specs.declared.status.Status.{Status}
use Rattle.records.specs.Stores.{key_length}
use Rattle.records.specs.Tests.{is_sequential}
use Rattle.records.specs.Statuses.{bytes_of}
use Rattle.source_tree.specs.declared.name.Name.{Name}
use Rattle.source_tree.specs.declared.reference.Reference.{Reference}
use Rattle.source_tree.specs.declared.condition.Relation.{Relation}
use Rattle.source_tree.specs.declared.condition.Relation.TheVariants.{Less, GreaterOrEqual, Greater}
use Rattle.source_tree.specs.declared.condition.RelationalOperator.{RelationalOperator}
use Rattle.source_tree.specs.declared.expression.Operand.TheVariants as operand
use Rattle.source_tree.specs.declared.phrases.FilePhrases.{FilePhrases}
use Rattle.source_tree.specs.declared.phrases.FilePhrases.TheVariants as phrases
use Rattle.source_tree.specs.declared.file_statement.Opening.{Opening}
use Rattle.source_tree.specs.declared.file_statement.StartKey.{StartKey}
use Rattle.source_tree.specs.declared.file_statement.FileStatement.{FileStatement}
use Rattle.source_tree.specs.declared.file_statement.FileStatement.TheVariants.{Open, Close, Read, Write, Rewrite, Delete, Start}
use Rattle.source_tree.specs.Storage.{Storage, bytes_at}
use Rattle.source_tree.specs.Evaluated.{FileStatus, Evaluation}
use Rattle.source_tree.specs.Places.{LocatedItem}
use Rattle.source_tree.specs.LookUp.{items_named, first}
use Rattle.source_tree.specs.Literals.{item_sender}
use Rattle.source_tree.specs.References.{ItemPlace}
use Rattle.source_tree.specs.Moving.{move, move_to_each}
use Rattle.source_tree.specs.Arithmetic.{in_phrase}
use Rattle.source_tree.specs.ProgramFiles.{ProgramFile, files_named, files_with, entries_of, key_place}
use Rattle.source_tree.specs.FileStatements.{file_statement}
use Rattle.source_tree.specs.State.{State, Faulted, Outcome, Done, Over, then_do, in_turn, change_outcome}

-- ---- statuses by their first character: 0x, 1x, 2x, and others

pub data Class : Type 0 where
  Successful : Class
  AtEnd : Class
  InvalidKey : Class
  Other : Class

abbrev pub class_by : List ℕ → Class
class_by [] = Other
class_by (first ∷ more) = if first == 48 then Successful else if first == 49 then AtEnd else if first == 50 then InvalidKey else Other

abbrev pub class_of : Status → Class
class_of status = class_by (bytes_of status)

-- ---- what follows a status

-- A status from 10 on that no phrase takes is a fault where no item holds it (own choice).
abbrev pub unheard_outcome : Option ItemPlace → State → Outcome
unheard_outcome (Some item) s = Done s
unheard_outcome None s = Over (Faulted FileStatus s.line) s

module _ {S : Type 0} (run : S → State → Outcome) where
  abbrev pub taken_phrase : Option ItemPlace → Option (List S) → State → Outcome
  taken_phrase item (Some statements) s = in_turn run statements s
  taken_phrase item None s = unheard_outcome item s

  -- the phrase that fits
  abbrev pub by_class : Option ItemPlace → FilePhrases S → Class → State → Outcome
  by_class item phrases.Absent Successful s = Done s
  by_class item (phrases.AtEnd pair) Successful s = in_phrase run pair.did_not s
  by_class item (phrases.InvalidKey pair) Successful s = in_phrase run pair.did_not s
  by_class item (phrases.AtEnd pair) AtEnd s = taken_phrase item pair.arose s
  by_class item (phrases.InvalidKey pair) InvalidKey s = taken_phrase item pair.arose s
  by_class item phrases class s = unheard_outcome item s

  -- `onward` comes after a success, before its phrase.
  abbrev pub by_status : Option ItemPlace → FilePhrases S → (State → Outcome) → Class → State → Outcome
  by_status item phrases onward Successful s = then_do (onward s) (by_class item phrases Successful)
  by_status item phrases onward class s = by_class item phrases class s

-- ---- the verb

-- READ in sequence, or by a key
abbrev pub is_in_sequence : ProgramFile → Bool → Bool
is_in_sequence file next = is_sequential file.entry.access || next

-- The key that begins at a place: one of these alternate keys, of which the first has this number, else the prime key.
abbrev pub key_from : ℕ → List AlternateKey → ℕ → KeyOfReference
key_from number [] offset = Prime
key_from number (one ∷ more) offset = if one.place.offset == offset then Alternate number else key_from (number + 1) more offset

abbrev pub key_named : List LocatedItem → ProgramFile → Reference → KeyOfReference
key_named items file one = key_from 0 file.entry.spec.alternates (key_place items one).offset

abbrev pub read_key : List LocatedItem → ProgramFile → Option Reference → KeyOfReference
read_key items file None = Prime
read_key items file (Some one) = key_named items file one

abbrev pub read_verb : List LocatedItem → ProgramFile → Bool → Option Reference → Verb
read_verb items file next key = if is_in_sequence file next then verb.ReadNext else verb.Read (read_key items file key)

-- the operators that the rules permit
abbrev pub start_by : Bool → Relation → compared.Relation
start_by false Greater = relating.Greater
start_by false GreaterOrEqual = relating.NotLess
start_by true Less = relating.NotLess
start_by _ _ = relating.Equal

abbrev pub start_relation : RelationalOperator → compared.Relation
start_relation one = start_by one.negated one.relation

-- So many bytes of a key are compared as the item has, from the key's first on; of RELATIVE KEY none.
abbrev pub start_on : ProgramFile → RelationalOperator → KeyOfReference → ℕ → Verb
start_on file operator key size = verb.Start (start_relation operator) key (min size (key_length file.entry.spec key))

-- without KEY, EQUAL on the prime key or on RELATIVE KEY
abbrev pub start_verb : List LocatedItem → ProgramFile → Option StartKey → Verb
start_verb items file None = verb.Start relating.Equal Prime (key_length file.entry.spec Prime)
start_verb items file (Some one) = start_on file one.operator (key_named items file one.key) (key_place items one.key).length

-- ---- moves: READ INTO after a success, FROM before the file statement

abbrev pub move_record : List LocatedItem → ProgramFile → Reference → Storage → Evaluation Storage
move_record items file into storage = move_to_each items (item_sender file.sent (bytes_at storage file.places.area 0 file.sent.length)) (into ∷ []) storage

abbrev pub into_item : List LocatedItem → Option Reference → ProgramFile → State → Outcome
into_item items None file s = Done s
into_item items (Some into) file s = change_outcome (move_record items file into) s

abbrev pub from_item : List LocatedItem → Reference → Option Reference → State → Outcome
from_item items to None s = Done s
from_item items to (Some from) s = change_outcome (move items (operand.Item from) (to ∷ [])) s

-- ---- statements

abbrev pub on_file : Option ProgramFile → (ProgramFile → State → Outcome) → State → Outcome
on_file None go s = Done s
on_file (Some file) go s = go file s

-- the file of a record
abbrev pub file_with_record : List ProgramFile → Option LocatedItem → Option ProgramFile
file_with_record files None = None
file_with_record files (Some one) = first (files_with files one.area)

module _ (items : List LocatedItem) (files : List ProgramFile) {S : Type 0} (run : S → State → Outcome) where
  abbrev pub statement_on : FilePhrases S → (State → Outcome) → Verb → ProgramFile → State → Outcome
  statement_on phrases onward verb file s =
      file_statement (entries_of files) file.places verb (λ status. by_status run file.places.status phrases onward (class_of status)) s

  abbrev pub on_name : Name → (ProgramFile → State → Outcome) → State → Outcome
  on_name name go s = on_file (first (files_named files name)) go s

  abbrev pub on_record : Reference → (ProgramFile → State → Outcome) → State → Outcome
  on_record one go s = on_file (file_with_record files (first (items_named items one.item))) go s

  abbrev pub open_one : Opening → State → Outcome
  open_one one s = on_name one.file (statement_on phrases.Absent Done (verb.Open one.mode)) s

  abbrev pub close_one : Name → State → Outcome
  close_one one s = on_name one (statement_on phrases.Absent Done verb.Close) s

  abbrev pub read_outcome : Bool → Option Reference → Option Reference → FilePhrases S → ProgramFile → State → Outcome
  read_outcome next into key phrases file s = statement_on phrases (into_item items into file) (read_verb items file next key) file s

  abbrev pub start : Option StartKey → FilePhrases S → ProgramFile → State → Outcome
  start key phrases file s = statement_on phrases Done (start_verb items file key) file s

  -- Each file of OPEN and CLOSE is a file statement.
  abbrev pub file_outcome : FileStatement S → State → Outcome
  file_outcome (Open all) s = in_turn open_one all s
  file_outcome (Close all) s = in_turn close_one all s
  file_outcome (Read file next into key phrases) s = on_name file (read_outcome next into key phrases) s
  file_outcome (Write one from phrases) s = then_do (from_item items one from s) (on_record one (statement_on phrases Done verb.Write))
  file_outcome (Rewrite one from phrases) s = then_do (from_item items one from s) (on_record one (statement_on phrases Done verb.Rewrite))
  file_outcome (Delete file phrases) s = on_name file (statement_on phrases Done verb.Delete) s
  file_outcome (Start file key phrases) s = on_name file (start key phrases) s

-- the phrases of a statement; OPEN and CLOSE have none
abbrev pub phrases_of : {S : Type 0} → FileStatement S → FilePhrases S
phrases_of (Open all) = phrases.Absent
phrases_of (Close all) = phrases.Absent
phrases_of (Read file next into key phrases) = phrases
phrases_of (Write one from phrases) = phrases
phrases_of (Rewrite one from phrases) = phrases
phrases_of (Delete file phrases) = phrases
phrases_of (Start file key phrases) = phrases
