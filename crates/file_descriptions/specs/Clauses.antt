-- The items that clauses of a SELECT name.
use Rattle.std.specs.Prelude.{◌≡◌, ◌≤◌, ◌+◌, ℕ, List, [], ◌∷◌, map, Option, Some, None, IfSome}
use Rattle.std.specs.List.{AllByRecursion}
use Rattle.source_tree.specs.declared.reference.QualifiedName.{QualifiedName}
use Rattle.source_tree.specs.declared.reference.Reference.{Reference}
use Rattle.source_tree.specs.declared.select.OrganizationClause.{OrganizationClause}
use Rattle.source_tree.specs.declared.select.OrganizationClause.TheVariants.{Indexed}
use Rattle.source_tree.specs.declared.select.AlternateKeyClause.{AlternateKeyClause}
use Rattle.source_tree.specs.declared.select.Select.{Select}
use Rattle.source_tree.specs.LookUp.{items_named}
use Rattle.source_tree.specs.Places.{LocatedItem}
use Rattle.source_tree.specs.FileRules.{most_record_bytes}
use Rattle.name_table.specs.declared.look_up.LookUp.{LookUp}
use Rattle.name_table.specs.declared.look_up.LookUp.TheVariants.{One}
use Rattle.name_table.specs.Items.{called_item}
use Rattle.name_table.specs.Positions.{look_up}

-- ---- numbers of items

abbrev pub only_number : LookUp → Option ℕ
only_number (One number) = Some number
only_number _ = None

-- the number of the only item that a name names
abbrev pub number_named : List LocatedItem → QualifiedName → Option ℕ
number_named items name = only_number (look_up name (map called_item items))

abbrev pub clause_number : List LocatedItem → Option Reference → Option ℕ
clause_number items None = None
clause_number items (Some one) = number_named items one.item

-- ---- what the rules say of clauses

pub record NamesOne (items : List LocatedItem) (reference : Reference) : Type 0 where
  pub one : LocatedItem
  pub named : items_named items reference.item ≡ one ∷ []

-- A key is one item, within a record.
pub record IsKey (items : List LocatedItem) (key : Reference) : Type 0 where
  pub one : LocatedItem
  pub named : items_named items key.item ≡ one ∷ []
  pub within : one.offset + one.item.length ≤ most_record_bytes

abbrev pub IsKeyClause : List LocatedItem → AlternateKeyClause → Type 0
IsKeyClause items one = IsKey items one.key

-- Only an indexed file has a prime key.
abbrev pub HasPrime : List LocatedItem → OrganizationClause → Option Reference → Type 0
HasPrime items Indexed key = IfSome key (IsKey items)
HasPrime items _ key = Unit {0}

pub record KeepsClauses (items : List LocatedItem) (one : Select) : Type 0 where
  pub prime : HasPrime items one.organization one.record_key
  pub alternates : AllByRecursion (IsKeyClause items) one.alternate_keys
  pub relative_key : IfSome one.relative_key (NamesOne items)
  pub status : IfSome one.status (NamesOne items)
