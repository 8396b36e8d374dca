-- The rules of a SELECT, by the record area of its file.
use Rattle.std.specs.Prelude.{ℕ, ◌+◌, ◌==◌, nat_le, Bool, not, ◌&&◌, List, [], ◌∷◌, ◌++◌, drop, length}
use Rattle.records.specs.Spec.{is_name}
use Rattle.records.specs.Tests.{is_sequential}
use Rattle.source_tree.specs.declared.reference.Reference.{Reference}
use Rattle.source_tree.specs.declared.select.AlternateKeyClause.{AlternateKeyClause}
use Rattle.source_tree.specs.declared.select.Select.{Select}
use Rattle.source_tree.specs.Broken.{RuleBreach, where_so, each}
use Rattle.source_tree.specs.FileRules.{most_key_bytes, most_alternate_keys, is_key_kind, is_one_of, another_clause, another_key, excess_key, in_clause, clause_item, key_item, alternate_rules, status_item, relative_rules, indexed_rules, organization_rules}
use Rattle.source_tree.specs.Places.{LocatedItem}
use Rattle.source_tree.specs.ValueRules.{are_some}
use Rattle.source_tree.specs.ProgramFiles.{DescribedFile, key_place}
use Rattle.source_tree.specs.Records.{record_length}
use Rattle.layout.specs.declared.placed.PlacedItem.{PlacedItem}
use Rattle.declarations.specs.declared.record_area.RecordArea.{RecordArea}

abbrev pub described_of : RecordArea → DescribedFile
described_of there = record { area = there.area; entries = there.entries.now }

abbrev pub is_plain : Reference → PlacedItem → Bool
is_plain reference one = (length reference.subscripts == 0) && (length one.dimensions == 0)

abbrev pub is_in_area : DescribedFile → PlacedItem → Bool
is_in_area there one = (one.area == there.area) && nat_le (one.offset + one.item.length) (record_length there.entries)

abbrev pub is_key_item : DescribedFile → List ℕ → Reference → PlacedItem → Bool
is_key_item there before reference one =
    is_plain reference one && is_in_area there one && is_key_kind one.item.kind && not (is_one_of one.offset before)

-- those of the item of a key
abbrev pub key_item_rules : DescribedFile → List ℕ → Reference → PlacedItem → List RuleBreach
key_item_rules there before reference one =
    where_so (not (is_key_item there before reference one)) 58 reference.item.name.place
    ++ where_so (not (are_some most_key_bytes one.item.length)) 69 reference.item.name.place

-- parts of the rules of each organization

abbrev pub sequential_rules : Select → List RuleBreach
sequential_rules one =
    where_so (not (is_sequential one.access)) 58 one.name.place
    ++ in_clause another_clause one.relative_key
    ++ in_clause another_clause one.record_key
    ++ each another_key one.alternate_keys

abbrev pub relative_file_rules : List LocatedItem → DescribedFile → Select → List RuleBreach
relative_file_rules items there one =
    relative_rules items there one one.relative_key ++ in_clause another_clause one.record_key ++ each another_key one.alternate_keys

abbrev pub keys_rules : List LocatedItem → DescribedFile → Reference → List AlternateKeyClause → List RuleBreach
keys_rules items there prime alternates =
    clause_item items (key_item there []) prime ++ alternate_rules items there ((key_place items prime).offset ∷ []) alternates

abbrev pub indexed_file_rules : List LocatedItem → DescribedFile → Select → List RuleBreach
indexed_file_rules items there one = in_clause another_clause one.relative_key ++ indexed_rules items there one.name one.record_key one.alternate_keys

-- after the keys
abbrev pub later_rules : List LocatedItem → ℕ → Select → List RuleBreach
later_rules items areas one = each excess_key (drop most_alternate_keys one.alternate_keys) ++ in_clause (clause_item items (status_item areas)) one.status

abbrev pub select_rules_in : List LocatedItem → ℕ → DescribedFile → Select → List RuleBreach
select_rules_in items areas there one =
    where_so (not (is_name one.assigned.characters)) 66 one.assigned.place
    ++ organization_rules items there one.organization one
    ++ each excess_key (drop most_alternate_keys one.alternate_keys)
    ++ in_clause (clause_item items (status_item areas)) one.status
