-- The items of keys that are found, by where they stand and what they are called.
use Rattle.std.proofs.Common.{◌≡◌, List, None, Some, refl, ap, ◌∙◌}
use Rattle.std.specs.Prelude.{Bool, ◌&&◌, ◌||◌, Option}
use Rattle.std.specs.List.{list_any}
use Rattle.records.specs.Steps.{is_relative}
use Rattle.source_tree.specs.declared.reference.Reference.{Reference}
use Rattle.source_tree.specs.declared.select.Select.{Select}
use Rattle.source_tree.specs.FileRules.{is_plain}
use Rattle.source_tree.specs.FilingRules as spec
use Rattle.source_tree.specs.Places.{LocatedItem}
use Rattle.layout.specs.declared.placed.PlacedItem.{PlacedItem}
use Rattle.layout.specs.Placing.{placed_item}
use Rattle.name_table.specs.Items.{called_item}
use Rattle.name_table.specs.Positions.{NamePath}
use Rattle.file_descriptions.specs.declared.file.ProgramFile.{ProgramFile}
use Rattle.file_descriptions.specs.Files.{file_in}
use Rattle.check_rules.specs.FiledKeys.{clause_names, alternate_names, names_key}
use Rattle.check_rules.specs.Filed.{is_key_item, begins_key_item, is_relative_key, is_start_item}

clause_same : (clause : Option Reference) (one : LocatedItem)
    → clause_names clause (Some (called_item one)) ≡ spec.clause_names clause one
clause_same None one = refl
clause_same (Some clause) one = refl

names_same : (select : Select) (one : LocatedItem)
    → names_key select (Some (called_item one)) ≡ spec.names_key select one
names_same select one = ap (λ (b : Bool).
    b || list_any (alternate_names (Some (called_item one))) select.alternate_keys) (clause_same select.record_key one)

module _ (items : List LocatedItem) (file : ProgramFile) (key : Reference) (one : LocatedItem) where
  key_of : is_key_item file key (placed_item one) (Some (called_item one)) ≡ spec.is_key_of (file_in items file) key one
  key_of = ap (λ (b : Bool). is_plain key one && b) (names_same file.select.now one)

  relative_of : is_relative_key file key (placed_item one) (Some (called_item one))
      ≡ spec.is_relative_key (file_in items file) key one
  relative_of = ap (λ (b : Bool). is_relative file.organization && is_plain key one && b)
      (clause_same file.select.now.relative_key one)

  start_of : is_start_item file key (placed_item one) (Some (called_item one))
      ≡ (spec.is_key_of (file_in items file) key one || spec.begins_key_of (file_in items file) key one
      || spec.is_relative_key (file_in items file) key one)
  start_of =
      let begins = begins_key_item file key (placed_item one) in
      ap (λ (b : Bool). b || begins || is_relative_key file key (placed_item one) (Some (called_item one))) key_of
      ∙ ap (λ (b : Bool). spec.is_key_of (file_in items file) key one || begins || b) relative_of

  module _ (item : PlacedItem) (called : Option NamePath) (stands : item ≡ placed_item one)
      (is_called : called ≡ Some (called_item one)) where
    pub key_found : is_key_item file key item called ≡ spec.is_key_of (file_in items file) key one
    key_found =
        ap (λ (i : PlacedItem). is_key_item file key i called) stands
        ∙ ap (λ (o : Option NamePath). is_key_item file key (placed_item one) o) is_called ∙ key_of

    pub start_found : is_start_item file key item called
        ≡ (spec.is_key_of (file_in items file) key one || spec.begins_key_of (file_in items file) key one
        || spec.is_relative_key (file_in items file) key one)
    start_found =
        ap (λ (i : PlacedItem). is_start_item file key i called) stands
        ∙ ap (λ (o : Option NamePath). is_start_item file key (placed_item one) o) is_called ∙ start_of
