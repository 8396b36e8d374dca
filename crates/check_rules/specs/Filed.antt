-- Parts of the rules of file statements.
use Rattle.std.specs.Prelude.{◌≡◌, ◌+◌, ◌==◌, Bool, not, ◌&&◌, ◌||◌, is_none, List, ◌++◌, Option, Some, None}
use Rattle.std.specs.Borrow.{Bor}
use Rattle.std.specs.List.{list_any}
use Rattle.lexical.specs.declared.place.Place.{Place}
use Rattle.records.specs.declared.file_spec.Organization.{Organization}
use Rattle.records.specs.Steps.{is_relative}
use Rattle.source_tree.specs.declared.phrases.FilePhrases.{FilePhrases}
use Rattle.source_tree.specs.declared.reference.Reference.{Reference}
use Rattle.source_tree.specs.Broken.{RuleBreach, where_so}
use Rattle.source_tree.specs.Filing.{is_in_sequence}
use Rattle.source_tree.specs.NameRules.{no_part_rules}
use Rattle.source_tree.specs.Places.{LocatedItem}
use Rattle.source_tree.specs.FilingRules.{record_item, is_sequential_file, is_random, has_at_end, has_invalid_key, keys_by, is_text_kind, begins_key}
use Rattle.source_tree.specs.ProgramFiles.{ProgramFile}
use Rattle.source_tree.specs.References.{ItemPlace}
use Rattle.layout.specs.declared.placed.PlacedItem.{PlacedItem}
use Rattle.file_descriptions.specs.declared.file.ProgramFile as compiled
use Rattle.name_table.specs.Positions.{NamePath}
use Rattle.check_rules.specs.FiledKeys.{place_of, clause_names, names_key}
use Rattle.declarations.specs.Selecting.{is_plain}

abbrev pub phrase_kind_rules : {S : Type 0} → Place → Organization → FilePhrases S → List RuleBreach
phrase_kind_rules place organization phrases = where_so (has_at_end phrases || (has_invalid_key phrases && is_sequential_file organization)) 62 place

abbrev pub read_phrase_rules : {S : Type 0} → Place → Bool → FilePhrases S → List RuleBreach
read_phrase_rules place in_sequence phrases =
    where_so ((has_at_end phrases && not in_sequence) || (has_invalid_key phrases && in_sequence)) 62 place

-- NEXT and the phrases of READ
abbrev pub read_file_rules : {S : Type 0} → Place → Bool → FilePhrases S → ProgramFile → List RuleBreach
read_file_rules place next phrases file =
    where_so (next && is_random file.entry.access) 62 place ++ read_phrase_rules place (is_in_sequence file next) phrases

-- organization, access and RELATIVE KEY for START
abbrev pub start_file_rules : Place → ProgramFile → List RuleBreach
start_file_rules place file =
    where_so (is_sequential_file file.entry.spec.organization || is_random file.entry.access) 61 place
    ++ where_so (is_relative file.entry.spec.organization && is_none file.places.relative_key) 60 place

-- the 01 record of an FD, without a part
abbrev pub whole_record : {S : Type 0} → List LocatedItem → List ProgramFile → FilePhrases S → Reference → Place → LocatedItem → List RuleBreach
whole_record items files phrases one place found = no_part_rules one ++ record_item items files phrases place found

-- ---- items of keys

abbrev pub is_in_record : compiled.ProgramFile → Reference → PlacedItem → Bool
is_in_record file reference one = is_plain reference one && (one.area == file.area)

-- a key of the file; `called` is what the item is called
abbrev pub is_key_item : compiled.ProgramFile → Reference → PlacedItem → Option NamePath → Bool
is_key_item file reference one called = is_plain reference one && names_key file.select.now called

abbrev pub begins_key_item : compiled.ProgramFile → Reference → PlacedItem → Bool
begins_key_item file reference one =
    is_in_record file reference one && is_text_kind one.item.kind && list_any (begins_key (place_of one)) (keys_by file.organization file.alternates.items)

-- the RELATIVE KEY of a relative file
abbrev pub is_relative_key : compiled.ProgramFile → Reference → PlacedItem → Option NamePath → Bool
is_relative_key file reference one called =
    is_relative file.organization && is_plain reference one && clause_names file.select.now.relative_key called

-- what KEY of START may name
abbrev pub is_start_item : compiled.ProgramFile → Reference → PlacedItem → Option NamePath → Bool
is_start_item file reference one called =
    is_key_item file reference one called || begins_key_item file reference one || is_relative_key file reference one called

-- the item that stands there
abbrev pub IsPlaced : Option ItemPlace → Option (Bor PlacedItem) → Type 0
IsPlaced place None = place ≡ None
IsPlaced place (Some one) = place ≡ Some (record { item = one.now.item; editing = one.now.editing; area = one.now.area; offset = one.now.offset + 0 })
