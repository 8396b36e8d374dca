-- The rules of files as SELECTs and FDs say them (COBOL-85, Sequential, Relative and Indexed I-O, "File control entry", "File
-- description entry"). The limits and the numbers among keys are this project's own choice. 42 a name that is given twice, 57 a
-- SELECT without FD or an FD without SELECT, 58 keys, 59 FILE STATUS, 60 RELATIVE KEY, 66 the file's name on the volume, 69 limits;
-- and the rules of the entries of records.
use Rattle.std.specs.Prelude.{ℕ, ◌+◌, ◌-◌, ◌==◌, nat_lt, nat_le, Bool, true, false, not, ◌&&◌, ◌||◌, sum, map, List, [], ◌∷◌, ◌++◌, length, drop, Option, Some, None}
use Rattle.items.specs.declared.item.Kind.{Kind}
use Rattle.items.specs.declared.item.Kind.TheVariants as kind
use Rattle.items.specs.Numbers.{is_signed}
use Rattle.records.specs.Spec.{is_name}
use Rattle.records.specs.Tests.{is_sequential}
use Rattle.source_tree.specs.declared.name.Name.{Name}
use Rattle.source_tree.specs.declared.entry.Entry.{Entry}
use Rattle.source_tree.specs.declared.reference.Reference.{Reference}
use Rattle.source_tree.specs.declared.select.OrganizationClause.{OrganizationClause}
use Rattle.source_tree.specs.declared.select.OrganizationClause.TheVariants as clause
use Rattle.source_tree.specs.declared.select.AlternateKeyClause.{AlternateKeyClause}
use Rattle.source_tree.specs.declared.select.Select.{Select}
use Rattle.source_tree.specs.declared.select.FileDescription.{FileDescription}
use Rattle.source_tree.specs.declared.program.Program.{Program}
use Rattle.source_tree.specs.Levels.{forest_of, leading_conditions}
use Rattle.source_tree.specs.Rooms.{area_lengths}
use Rattle.source_tree.specs.Places.{LocatedItem}
use Rattle.source_tree.specs.LookUp.{items_named}
use Rattle.source_tree.specs.Records.{storage_areas, record_length}
use Rattle.source_tree.specs.ProgramFiles.{DescribedFile, described_file, key_place}
use Rattle.source_tree.specs.Broken.{RuleBreach, where_so, each}
use Rattle.source_tree.specs.ValueRules.{are_some}
use Rattle.source_tree.specs.EntryRules.{most_entries, most_storage, outermost, level_rules, homeless, excess, forest_rules}
use Rattle.source_tree.specs.NameRules.{unique_name_rules, no_part_rules}
use Rattle.source_tree.specs.PerformRules.{is_among, given_once}
use Rattle.source_tree.specs.ConditionRules.{is_display}

-- ---- 69: files of a program, bytes of a record and of a key, alternate keys of a file

abbrev pub most_files : ℕ
most_files = 15

abbrev pub most_record_bytes : ℕ
most_record_bytes = 16000

abbrev pub most_key_bytes : ℕ
most_key_bytes = 100

abbrev pub most_alternate_keys : ℕ
most_alternate_keys = 7

abbrev pub broken_at : ℕ → Name → List RuleBreach
broken_at rule name = record { rule = rule; place = name.place } ∷ []

-- ---- 42 and 57

abbrev pub select_names : List Select → List Name
select_names selects = map (λ (one : Select). one.name) selects

abbrev pub description_names : List FileDescription → List Name
description_names descriptions = map (λ (one : FileDescription). one.name) descriptions

-- names of which each is among others
abbrev pub broken_match_rule : List Name → Name → List RuleBreach
broken_match_rule others one = where_so (not (is_among one others)) 57 one.place

abbrev pub file_name_rules : List Name → List Name → List RuleBreach
file_name_rules selected described =
    each (broken_at 69) (drop most_files selected)
    ++ given_once [] selected
    ++ given_once [] described
    ++ each (broken_match_rule described) selected
    ++ each (broken_match_rule selected) described

-- ---- the entries of records

abbrev pub file_entries : List FileDescription → List Entry
file_entries [] = []
file_entries (one ∷ more) = one.entries ++ file_entries more

-- A record has a byte or more.
abbrev pub description_rules : FileDescription → List RuleBreach
description_rules one =
    each level_rules one.entries
    ++ each homeless (leading_conditions one.entries)
    ++ forest_rules (outermost true) None (forest_of one.entries)
    ++ where_so (not (are_some most_record_bytes (record_length one.entries))) 69 one.name.place

-- 48: each record area that goes past the limit, after so many bytes of areas before it
abbrev pub record_storage_rules : ℕ → List FileDescription → List RuleBreach
record_storage_rules before [] = []
record_storage_rules before (one ∷ more) =
    where_so (nat_lt most_storage (before + record_length one.entries)) 48 one.name.place
    ++ record_storage_rules (before + record_length one.entries) more

-- after these entries of working storage
abbrev pub descriptions_rules : List Entry → List FileDescription → List RuleBreach
descriptions_rules storage descriptions =
    each excess (drop (most_entries - length storage) (file_entries descriptions))
    ++ each description_rules descriptions
    ++ record_storage_rules (sum (area_lengths (forest_of storage))) descriptions

-- ---- 58 and 60: keys

-- an item without subscripts
abbrev pub is_plain : Reference → LocatedItem → Bool
is_plain reference one = (length reference.subscripts == 0) && (length one.dimensions == 0)

-- a group, an alphanumeric item or an unsigned number in DISPLAY usage
abbrev pub is_key_kind : Kind → Bool
is_key_kind kind.Group = true
is_key_kind (kind.Alphanumeric justified) = true
is_key_kind (kind.Numeric n) = is_display n.usage && not (is_signed n)
is_key_kind _ = false

abbrev pub is_one_of : ℕ → List ℕ → Bool
is_one_of n [] = false
is_one_of n (one ∷ more) = (n == one) || is_one_of n more

-- in the record
abbrev pub is_in_area : DescribedFile → LocatedItem → Bool
is_in_area there one = (one.area == there.area) && nat_le (one.offset + one.item.length) (record_length there.entries)

-- none of these places is the key's first
abbrev pub is_key_item : DescribedFile → List ℕ → Reference → LocatedItem → Bool
is_key_item there before reference one =
    is_plain reference one && is_in_area there one && is_key_kind one.item.kind && not (is_one_of one.offset before)

abbrev pub key_item : DescribedFile → List ℕ → Reference → LocatedItem → List RuleBreach
key_item there before reference one =
    where_so (not (is_key_item there before reference one)) 58 reference.item.name.place
    ++ where_so (not (are_some most_key_bytes one.item.length)) 69 reference.item.name.place

abbrev pub is_unsigned_integer : Kind → Bool
is_unsigned_integer (kind.Numeric n) = not (is_signed n) && (n.scale == 0)
is_unsigned_integer _ = false

-- outside of the record
abbrev pub relative_item : DescribedFile → Reference → LocatedItem → List RuleBreach
relative_item there reference one =
    where_so (not (is_plain reference one && is_unsigned_integer one.item.kind && not (one.area == there.area))) 60 reference.item.name.place

-- 59: in one of so many areas of working storage
abbrev pub is_two_characters : Kind → ℕ → Bool
is_two_characters (kind.Alphanumeric justified) size = size == 2
is_two_characters _ size = false

abbrev pub status_item : ℕ → Reference → LocatedItem → List RuleBreach
status_item areas reference one =
    where_so (not (is_plain reference one && is_two_characters one.item.kind one.item.length && nat_lt one.area areas)) 59 reference.item.name.place

-- a key clause of another organization
abbrev pub another_clause : Reference → List RuleBreach
another_clause one = broken_at 58 one.item.name

abbrev pub another_key : AlternateKeyClause → List RuleBreach
another_key one = another_clause one.key

abbrev pub excess_key : AlternateKeyClause → List RuleBreach
excess_key one = broken_at 69 one.key.item.name

abbrev pub in_clause : (Reference → List RuleBreach) → Option Reference → List RuleBreach
in_clause rules None = []
in_clause rules (Some one) = rules one

module _ (items : List LocatedItem) where
  -- what is asked of the item that a clause names
  abbrev pub clause_item : (Reference → LocatedItem → List RuleBreach) → Reference → List RuleBreach
  clause_item asked one = unique_name_rules one.item.name.place (λ found. no_part_rules one ++ asked one found) (items_named items one.item)

  -- alternate keys, after keys at these places
  abbrev pub alternate_rules : DescribedFile → List ℕ → List AlternateKeyClause → List RuleBreach
  alternate_rules there before [] = []
  alternate_rules there before (one ∷ more) =
      clause_item (key_item there before) one.key ++ alternate_rules there ((key_place items one.key).offset ∷ before) more

  abbrev pub indexed_rules : DescribedFile → Name → Option Reference → List AlternateKeyClause → List RuleBreach
  indexed_rules there file None alternates = broken_at 58 file
  indexed_rules there file (Some key) alternates =
      clause_item (key_item there []) key ++ alternate_rules there ((key_place items key).offset ∷ []) alternates

  -- With random or dynamic access a relative file has RELATIVE KEY.
  abbrev pub relative_rules : DescribedFile → Select → Option Reference → List RuleBreach
  relative_rules there file None = where_so (not (is_sequential file.access)) 60 file.name.place
  relative_rules there file (Some key) = clause_item (relative_item there) key

  -- by organization, with this record area
  abbrev pub organization_rules : DescribedFile → OrganizationClause → Select → List RuleBreach
  organization_rules there clause.Sequential one =
      where_so (not (is_sequential one.access)) 58 one.name.place
      ++ in_clause another_clause one.relative_key
      ++ in_clause another_clause one.record_key
      ++ each another_key one.alternate_keys
  organization_rules there clause.Relative one =
      relative_rules there one one.relative_key ++ in_clause another_clause one.record_key ++ each another_key one.alternate_keys
  organization_rules there clause.Indexed one =
      in_clause another_clause one.relative_key ++ indexed_rules there one.name one.record_key one.alternate_keys

  -- the first FD has this area, which is also how many areas working storage has
  abbrev pub select_rules : ℕ → List FileDescription → Select → List RuleBreach
  select_rules areas descriptions one =
      where_so (not (is_name one.assigned.characters)) 66 one.assigned.place
      ++ organization_rules (described_file areas one.name descriptions) one.organization one
      ++ each excess_key (drop most_alternate_keys one.alternate_keys)
      ++ in_clause (clause_item (status_item areas)) one.status

-- the files of a program with these items
abbrev pub program_file_rules : List LocatedItem → Program → List RuleBreach
program_file_rules items program =
    file_name_rules (select_names program.selects) (description_names program.files)
    ++ descriptions_rules program.storage program.files
    ++ each (select_rules items (storage_areas program.storage) program.files) program.selects
