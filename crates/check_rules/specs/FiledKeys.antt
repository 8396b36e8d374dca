-- Places of keys and of items, and the clauses that name an item.
use Rattle.std.specs.Prelude.{Bool, false, ◌||◌, Option, None, Some}
use Rattle.std.specs.List.{list_any}
use Rattle.source_tree.specs.declared.reference.Reference.{Reference}
use Rattle.source_tree.specs.declared.select.AlternateKeyClause.{AlternateKeyClause}
use Rattle.source_tree.specs.declared.select.Select.{Select}
use Rattle.name_table.specs.Positions.{NamePath, names_called}
use Rattle.records.specs.declared.file_spec.KeyPlace.{KeyPlace}
use Rattle.records.specs.declared.file_spec.AlternateKey.{AlternateKey}
use Rattle.layout.specs.declared.placed.PlacedItem.{PlacedItem}

abbrev pub place_of : PlacedItem → KeyPlace
place_of one = record { offset = one.offset; length = one.item.length }

abbrev pub key_place_of : AlternateKey → KeyPlace
key_place_of one = one.place

-- ---- clauses; `called` is what an item is called

abbrev pub clause_names : Option Reference → Option NamePath → Bool
clause_names None called = false
clause_names (Some clause) called = names_called clause.item called

abbrev pub alternate_names : Option NamePath → AlternateKeyClause → Bool
alternate_names called clause = names_called clause.key.item called

-- RECORD KEY or ALTERNATE RECORD KEY names it.
abbrev pub names_key : Select → Option NamePath → Bool
names_key select called = clause_names select.record_key called || list_any (alternate_names called) select.alternate_keys
