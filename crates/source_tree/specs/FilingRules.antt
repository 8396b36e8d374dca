-- The rules of file statements (COBOL-85, Sequential, Relative and Indexed I-O). 40 and 41 of files, records and items, 49 of the
-- moves of INTO and FROM, 60 a START of a relative file without RELATIVE KEY, 61 a statement that organization or access doesn't
-- permit, 62 phrases, KEY and NEXT of READ, 63 START.
use Rattle.std.specs.Prelude.{◌==◌, nat_le, Bool, true, false, not, ◌&&◌, ◌||◌, is_none, map, List, [], ◌∷◌, ◌++◌, Option, Some, None}
use Rattle.std.specs.List.{list_any}
use Rattle.items.specs.declared.item.Kind.{Kind}
use Rattle.items.specs.declared.item.Kind.TheVariants as kind
use Rattle.items.specs.declared.taken.Taken.TheVariants as taken
use Rattle.lexical.specs.declared.place.Place.{Place}
use Rattle.records.specs.declared.file_spec.KeyPlace.{KeyPlace}
use Rattle.records.specs.declared.file_spec.AlternateKey.{AlternateKey}
use Rattle.records.specs.declared.file_spec.Organization.{Organization}
use Rattle.records.specs.declared.file_spec.Organization.TheVariants as organization
use Rattle.records.specs.declared.select.Access.{Access}
use Rattle.records.specs.declared.select.Access.TheVariants as access
use Rattle.records.specs.declared.verb.OpenMode.{OpenMode}
use Rattle.records.specs.declared.verb.OpenMode.TheVariants as mode
use Rattle.records.specs.Steps.{is_relative}
use Rattle.source_tree.specs.declared.name.Name.{Name}
use Rattle.source_tree.specs.declared.reference.Reference.{Reference}
use Rattle.source_tree.specs.declared.condition.Relation.{Relation}
use Rattle.source_tree.specs.declared.condition.Relation.TheVariants as relation
use Rattle.source_tree.specs.declared.condition.RelationalOperator.{RelationalOperator}
use Rattle.source_tree.specs.declared.select.AlternateKeyClause.{AlternateKeyClause}
use Rattle.source_tree.specs.declared.select.Select.{Select}
use Rattle.source_tree.specs.declared.expression.Operand.TheVariants as operand
use Rattle.source_tree.specs.declared.phrases.FilePhrases.{FilePhrases}
use Rattle.source_tree.specs.declared.phrases.FilePhrases.TheVariants as phrases
use Rattle.source_tree.specs.declared.file_statement.Opening.{Opening}
use Rattle.source_tree.specs.declared.file_statement.StartKey.{StartKey}
use Rattle.source_tree.specs.declared.file_statement.FileStatement.{FileStatement}
use Rattle.source_tree.specs.declared.file_statement.FileStatement.TheVariants.{Open, Close, Read, Write, Rewrite, Delete, Start}
use Rattle.source_tree.specs.Levels.{level_of}
use Rattle.source_tree.specs.Places.{LocatedItem}
use Rattle.source_tree.specs.LookUp.{is_item}
use Rattle.source_tree.specs.ProgramFiles.{ProgramFile, files_named, files_with, place_in_record}
use Rattle.source_tree.specs.Filing.{is_in_sequence}
use Rattle.source_tree.specs.Broken.{RuleBreach, where_so, each}
use Rattle.source_tree.specs.NameRules.{unique_name_rules, no_part_rules, reference_rules}
use Rattle.source_tree.specs.MoveRules.{receives, move_rules}
use Rattle.source_tree.specs.FileRules.{is_plain, clause_item}

-- ---- files and phrases

abbrev pub is_sequential_file : Organization → Bool
is_sequential_file organization.Sequential = true
is_sequential_file _ = false

abbrev pub is_random : Access → Bool
is_random access.Random = true
is_random _ = false

abbrev pub is_extend : OpenMode → Bool
is_extend mode.Extend = true
is_extend _ = false

abbrev pub has_at_end : {S : Type 0} → FilePhrases S → Bool
has_at_end (phrases.AtEnd pair) = true
has_at_end _ = false

abbrev pub has_invalid_key : {S : Type 0} → FilePhrases S → Bool
has_invalid_key (phrases.InvalidKey pair) = true
has_invalid_key _ = false

-- ---- 62 and 63: keys

abbrev pub keys_by : Organization → List AlternateKey → List KeyPlace
keys_by (organization.Indexed place) alternates = place ∷ map (λ (one : AlternateKey). one.place) alternates
keys_by _ alternates = []

-- where the keys of a file stand; only an indexed file has any
abbrev pub keys_of : ProgramFile → List KeyPlace
keys_of file = keys_by file.entry.spec.organization file.entry.spec.alternates

-- an item of the record
abbrev pub is_in_record : ProgramFile → Reference → LocatedItem → Bool
is_in_record file reference one = is_plain reference one && (one.area == file.places.area)

-- A clause names the item. Where the rules of SELECTs are kept it names no other.
abbrev pub clause_names : Option Reference → LocatedItem → Bool
clause_names None one = false
clause_names (Some clause) one = is_item clause.item one

abbrev pub alternate_names : LocatedItem → AlternateKeyClause → Bool
alternate_names one clause = is_item clause.key.item one

-- RECORD KEY or ALTERNATE RECORD KEY names the item.
abbrev pub names_key : Select → LocatedItem → Bool
names_key select one = clause_names select.record_key one || list_any (alternate_names one) select.alternate_keys

abbrev pub is_key_of : ProgramFile → Reference → LocatedItem → Bool
is_key_of file reference one = is_plain reference one && names_key file.select one

abbrev pub read_key_item : ProgramFile → Reference → LocatedItem → List RuleBreach
read_key_item file reference one = where_so (not (is_key_of file reference one)) 62 reference.item.name.place

abbrev pub is_text_kind : Kind → Bool
is_text_kind kind.Group = true
is_text_kind (kind.Alphanumeric justified) = true
is_text_kind _ = false

-- it begins at the key's first byte, and is no longer
abbrev pub begins_key : KeyPlace → KeyPlace → Bool
begins_key one key = (one.offset == key.offset) && nat_le one.length key.length

abbrev pub begins_key_of : ProgramFile → Reference → LocatedItem → Bool
begins_key_of file reference one =
    is_in_record file reference one && is_text_kind one.item.kind && list_any (begins_key (place_in_record (Some one))) (keys_of file)

-- the RELATIVE KEY of a relative file
abbrev pub is_relative_key : ProgramFile → Reference → LocatedItem → Bool
is_relative_key file reference one = is_relative file.entry.spec.organization && is_plain reference one && clause_names file.select.relative_key one

abbrev pub start_key_item : ProgramFile → Reference → LocatedItem → List RuleBreach
start_key_item file reference one =
    where_so (not (is_key_of file reference one || begins_key_of file reference one || is_relative_key file reference one)) 63 reference.item.name.place

-- =, > and >=, and < after NOT
abbrev pub may_start : Bool → Relation → Bool
may_start false relation.Equal = true
may_start false relation.Greater = true
may_start false relation.GreaterOrEqual = true
may_start true relation.Less = true
may_start _ _ = false

abbrev pub is_start_operator : RelationalOperator → Bool
is_start_operator one = may_start one.negated one.relation

-- ---- statements; `place` is where the file or the record is named

module _ (items : List LocatedItem) (files : List ProgramFile) where
  abbrev pub file_named_rules : Name → (ProgramFile → List RuleBreach) → List RuleBreach
  file_named_rules name asked = unique_name_rules name.place asked (files_named files name)

  abbrev pub any_file : ProgramFile → List RuleBreach
  any_file file = []

  -- Only sequential files are extended.
  abbrev pub open_rules : Opening → List RuleBreach
  open_rules one = file_named_rules one.file (λ file. where_so (is_extend one.mode && not (is_sequential_file file.entry.spec.organization)) 61 one.file.place)

  abbrev pub close_rules : Name → List RuleBreach
  close_rules one = file_named_rules one any_file

  -- AT END stands at a READ in sequence alone, and INVALID KEY at no statement on a sequential file.
  abbrev pub phrase_kind_rules : {S : Type 0} → Place → FilePhrases S → ProgramFile → List RuleBreach
  phrase_kind_rules place phrases file =
      where_so (has_at_end phrases || (has_invalid_key phrases && is_sequential_file file.entry.spec.organization)) 62 place

  abbrev pub read_phrase_rules : {S : Type 0} → Place → Bool → FilePhrases S → List RuleBreach
  read_phrase_rules place in_sequence phrases =
      where_so ((has_at_end phrases && not in_sequence) || (has_invalid_key phrases && in_sequence)) 62 place

  abbrev pub read_key_rules : Bool → ProgramFile → Option Reference → List RuleBreach
  read_key_rules in_sequence file None = []
  read_key_rules in_sequence file (Some key) = where_so in_sequence 62 key.item.name.place ++ clause_item items (read_key_item file) key

  abbrev pub into_rules : ProgramFile → Option Reference → List RuleBreach
  into_rules file None = []
  into_rules file (Some into) = reference_rules items (receives (Some (taken.Item file.sent))) into

  abbrev pub read_rules : {S : Type 0} → Place → Bool → Option Reference → Option Reference → FilePhrases S → ProgramFile → List RuleBreach
  read_rules place next into key phrases file =
      where_so (next && is_random file.entry.access) 62 place
      ++ read_phrase_rules place (is_in_sequence file next) phrases
      ++ read_key_rules (is_in_sequence file next) file key
      ++ into_rules file into

  -- 40: the 01 record of an FD
  abbrev pub record_item : {S : Type 0} → FilePhrases S → Place → LocatedItem → List RuleBreach
  record_item phrases place one =
      where_so (not (level_of one.entry == 1)) 40 place ++ unique_name_rules place (phrase_kind_rules place phrases) (files_with files one.area)

  abbrev pub from_rules : Reference → Option Reference → List RuleBreach
  from_rules to None = []
  from_rules to (Some from) = move_rules items (operand.Item from) (to ∷ [])

  -- WRITE and REWRITE
  abbrev pub record_rules : {S : Type 0} → Reference → Option Reference → FilePhrases S → List RuleBreach
  record_rules one from phrases = reference_rules items (λ place found. no_part_rules one ++ record_item phrases place found) one ++ from_rules one from

  abbrev pub delete_rules : {S : Type 0} → Place → FilePhrases S → ProgramFile → List RuleBreach
  delete_rules place phrases file =
      where_so (is_sequential_file file.entry.spec.organization) 61 place ++ phrase_kind_rules place phrases file

  abbrev pub start_key_rules : ProgramFile → Option StartKey → List RuleBreach
  start_key_rules file None = []
  start_key_rules file (Some one) =
      where_so (not (is_start_operator one.operator)) 63 one.key.item.name.place ++ clause_item items (start_key_item file) one.key

  abbrev pub start_rules : {S : Type 0} → Place → Option StartKey → FilePhrases S → ProgramFile → List RuleBreach
  start_rules place key phrases file =
      where_so (is_sequential_file file.entry.spec.organization || is_random file.entry.access) 61 place
      ++ where_so (is_relative file.entry.spec.organization && is_none file.places.relative_key) 60 place
      ++ start_key_rules file key
      ++ phrase_kind_rules place phrases file

  -- a file statement without the statements in its phrases
  abbrev pub filing_rules : {S : Type 0} → FileStatement S → List RuleBreach
  filing_rules (Open all) = each open_rules all
  filing_rules (Close all) = each close_rules all
  filing_rules (Read file next into key phrases) = file_named_rules file (read_rules file.place next into key phrases)
  filing_rules (Write one from phrases) = record_rules one from phrases
  filing_rules (Rewrite one from phrases) = record_rules one from phrases
  filing_rules (Delete file phrases) = file_named_rules file (delete_rules file.place phrases)
  filing_rules (Start file key phrases) = file_named_rules file (start_rules file.place key phrases)
