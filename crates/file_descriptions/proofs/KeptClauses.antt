-- What the rules of files say of the clauses of each SELECT.
use Rattle.std.proofs.Common.{◌≡◌, ◌≤◌, ℕ, ◌+◌, ◌-◌, ◌==◌, nat_le, Bool, true, false, not, ◌&&◌, if◌then◌else◌, List}
use Rattle.std.proofs.Common.{[], ◌∷◌, ◌++◌, length, drop, sum, refl, arith}
use Rattle.std.specs.Prelude.{Option, Some, None, IfSome}
use Rattle.std.specs.List.{AllByRecursion}
use Rattle.std.proofs.lemmas.Bool.{and_parts}
use Rattle.records.specs.Spec.{is_name}
use Rattle.records.specs.Tests.{is_sequential}
use Rattle.source_tree.specs.declared.name.Name.{Name}
use Rattle.source_tree.specs.declared.reference.Reference.{Reference}
use Rattle.source_tree.specs.declared.select.OrganizationClause.{OrganizationClause}
use Rattle.source_tree.specs.declared.select.OrganizationClause.TheVariants as clause
use Rattle.source_tree.specs.declared.select.AlternateKeyClause.{AlternateKeyClause}
use Rattle.source_tree.specs.declared.select.Select.{Select}
use Rattle.source_tree.specs.declared.select.FileDescription.{FileDescription}
use Rattle.source_tree.specs.declared.program.Program.{Program}
use Rattle.source_tree.specs.Names.{same}
use Rattle.source_tree.specs.Levels.{forest_of}
use Rattle.source_tree.specs.Places.{LocatedItem}
use Rattle.source_tree.specs.LookUp.{items_named}
use Rattle.source_tree.specs.Rooms.{area_lengths}
use Rattle.source_tree.specs.Records.{storage_areas, record_length}
use Rattle.source_tree.specs.ProgramFiles.{DescribedFile, described_file, key_place}
use Rattle.source_tree.specs.Broken.{RuleBreach, where_so, each}
use Rattle.source_tree.specs.EntryRules.{entry_rules, excess, most_entries}
use Rattle.source_tree.specs.NameRules.{unique_name_rules, no_part_rules}
use Rattle.source_tree.specs.FileRules.{most_record_bytes, most_key_bytes, most_alternate_keys, select_names}
use Rattle.source_tree.specs.FileRules.{description_names, file_name_rules, file_entries, record_storage_rules}
use Rattle.source_tree.specs.FileRules.{description_rules, descriptions_rules, is_plain, is_in_area, is_key_kind}
use Rattle.source_tree.specs.FileRules.{is_one_of, is_key_item, key_item, another_clause, another_key, excess_key}
use Rattle.source_tree.specs.FileRules.{in_clause, clause_item, alternate_rules, indexed_rules, relative_rules}
use Rattle.source_tree.specs.FileRules.{organization_rules, relative_item, status_item, select_rules}
use Rattle.source_tree.specs.FileRules.{program_file_rules}
use Rattle.source_tree.specs.ValueRules.{are_some}
use Rattle.source_tree.proofs.SoundFiles.{left_none, right_none, kept}
use Rattle.layout.proofs.KeptFiles.{not_many_files}
use Rattle.file_descriptions.specs.Clauses.{NamesOne, IsKey, IsKeyClause, HasPrime, KeepsClauses}
use Rattle.file_descriptions.specs.Descriptions.{KeepsDescriptions}

-- ---- one item, where a clause keeps its rules

one_by : (items : List LocatedItem) (reference : Reference) (asked : LocatedItem → List RuleBreach)
    (found : List LocatedItem) → items_named items reference.item ≡ found
    → unique_name_rules reference.item.name.place asked found ≡ []
    → (one : LocatedItem) × (items_named items reference.item ≡ one ∷ []) × (asked one ≡ [])
one_by items reference asked [] is e = absurd cc
one_by items reference asked (only ∷ []) is e = (only, is, e)
one_by items reference asked (one ∷ other ∷ more) is e = absurd cc

module _ (items : List LocatedItem) where
  one_named : (asked : Reference → LocatedItem → List RuleBreach) (reference : Reference)
      → clause_item items asked reference ≡ []
      → (one : LocatedItem) × (items_named items reference.item ≡ one ∷ []) × (asked reference one ≡ [])
  one_named asked reference e =
      let found = one_by items reference (λ one. no_part_rules reference ++ asked reference one)
      (items_named items reference.item) refl e in
      (found.0, found.1, right_none (no_part_rules reference) (asked reference found.0) found.2)

  names_one : (asked : Reference → LocatedItem → List RuleBreach) (reference : Reference)
      → clause_item items asked reference ≡ [] → NamesOne items reference
  names_one asked reference e = let found = one_named asked reference e in record { one = found.0; named = found.1 }

  -- ---- keys

  within_record : (n size : ℕ) → nat_le n size ≡ true → size ≤ most_record_bytes → n ≤ most_record_bytes
  within_record n size e most = grind arith

  is_key : (there : DescribedFile) (taken : List ℕ) (key : Reference) → record_length there.entries ≤ most_record_bytes
      → clause_item items (key_item there taken) key ≡ [] → IsKey items key
  is_key there taken key most e =
      let found = one_named (key_item there taken) key e in
      let one = found.0 in
      let size = record_length there.entries in
      let free = not (is_one_of one.offset taken) in
      let fits = kept (is_key_item there taken key one) 58 key.item.name.place
      (left_none (where_so (not (is_key_item there taken key one)) 58 key.item.name.place)
      (where_so (not (are_some most_key_bytes one.item.length)) 69 key.item.name.place) found.2) in
      let parts = and_parts (is_plain key one && is_in_area there one && is_key_kind one.item.kind) free fits in
      let inner = (and_parts (is_plain key one && is_in_area there one) (is_key_kind one.item.kind) parts.0).0 in
      let within = (and_parts (one.area == there.area) (nat_le (one.offset + one.item.length) size)
      ((and_parts (is_plain key one) (is_in_area there one) inner).1)).1 in
      record { one = one; named = found.1; within = within_record (one.offset + one.item.length) size within most }

  are_keys : (there : DescribedFile) (taken : List ℕ) (clauses : List AlternateKeyClause)
      → record_length there.entries ≤ most_record_bytes → alternate_rules items there taken clauses ≡ []
      → AllByRecursion (IsKeyClause items) clauses
  are_keys there taken [] most e = tt
  are_keys there taken (one ∷ more) most e =
      let own = clause_item items (key_item there taken) one.key in
      let behind : List ℕ = (key_place items one.key).offset ∷ taken in (
        is_key there taken one.key most (left_none own (alternate_rules items there behind more) e),
        are_keys there behind more most (right_none own (alternate_rules items there behind more) e),
      )

  no_keys : (clauses : List AlternateKeyClause) → each another_key clauses ≡ []
      → AllByRecursion (IsKeyClause items) clauses
  no_keys [] e = tt
  no_keys (one ∷ more) e = absurd cc

  -- ---- clauses by organization

  no_clause : (clause : Option Reference) → in_clause another_clause clause ≡ [] → IfSome clause (NamesOne items)
  no_clause None e = tt
  no_clause (Some one) e = absurd cc

  relative_named : (there : DescribedFile) (one : Select) (clause : Option Reference)
      → relative_rules items there one clause ≡ [] → IfSome clause (NamesOne items)
  relative_named there one None e = tt
  relative_named there one (Some key) e = names_one (relative_item there) key e

  status_named : (areas : ℕ) (clause : Option Reference) → in_clause (clause_item items (status_item areas)) clause ≡ []
      → IfSome clause (NamesOne items)
  status_named areas None e = tt
  status_named areas (Some one) e = names_one (status_item areas) one e

  record ByOrganization (organization : OrganizationClause) (one : Select) : Type 0 where
    prime : HasPrime items organization one.record_key
    alternates : AllByRecursion (IsKeyClause items) one.alternate_keys
    relative_key : IfSome one.relative_key (NamesOne items)

  record Indexed (key : Option Reference) (clauses : List AlternateKeyClause) : Type 0 where
    prime : IfSome key (IsKey items)
    alternates : AllByRecursion (IsKeyClause items) clauses

  indexed : (there : DescribedFile) (file : Name) (key : Option Reference) (clauses : List AlternateKeyClause)
      → record_length there.entries ≤ most_record_bytes
      → indexed_rules items there file key clauses ≡ [] → Indexed key clauses
  indexed there file None clauses most e = absurd cc
  indexed there file (Some key) clauses most e =
      let own = clause_item items (key_item there []) key in
      let behind : List ℕ = (key_place items key).offset ∷ [] in
      record {
        prime = is_key there [] key most (left_none own (alternate_rules items there behind clauses) e);
        alternates = are_keys there behind clauses most (right_none own (alternate_rules items there behind clauses) e);
      }

  by_organization : (there : DescribedFile) (organization : OrganizationClause) (one : Select)
      → record_length there.entries ≤ most_record_bytes → organization_rules items there organization one ≡ []
      → ByOrganization organization one
  by_organization there clause.Sequential one most e =
      let access = where_so (not (is_sequential one.access)) 58 one.name.place in
      let relative = in_clause another_clause one.relative_key in
      let prime = in_clause another_clause one.record_key in
      let keys = each another_key one.alternate_keys in
      record {
        prime = tt;
        alternates = no_keys one.alternate_keys (right_none (access ++ relative ++ prime) keys e);
        relative_key = no_clause one.relative_key (right_none access relative
            (left_none (access ++ relative) prime (left_none (access ++ relative ++ prime) keys e)));
      }
  by_organization there clause.Relative one most e =
      let relative = relative_rules items there one one.relative_key in
      let prime = in_clause another_clause one.record_key in
      let keys = each another_key one.alternate_keys in
      record {
        prime = tt;
        alternates = no_keys one.alternate_keys (right_none (relative ++ prime) keys e);
        relative_key =
            relative_named there one one.relative_key (left_none relative prime (left_none (relative ++ prime) keys e));
      }
  by_organization there clause.Indexed one most e =
      let relative = in_clause another_clause one.relative_key in
      let keys = indexed_rules items there one.name one.record_key one.alternate_keys in
      let own = indexed there one.name one.record_key one.alternate_keys most (right_none relative keys e) in
      record {
        prime = own.prime;
        alternates = own.alternates;
        relative_key = no_clause one.relative_key (left_none relative keys e);
      }

-- ---- the record of an FD is short, or there is none

few_bytes : (n : ℕ) → are_some most_record_bytes n ≡ true → n ≤ most_record_bytes
few_bytes n e = grind arith

pub short_record : (one : FileDescription) → description_rules one ≡ [] → record_length one.entries ≤ most_record_bytes
short_record one e =
    few_bytes (record_length one.entries)
    (kept (are_some most_record_bytes (record_length one.entries)) 69 one.name.place
    (right_none _ (where_so (not (are_some most_record_bytes (record_length one.entries))) 69 one.name.place) e))

short_if : (test : Bool) (one other : DescribedFile) → record_length one.entries ≤ most_record_bytes
    → record_length other.entries ≤ most_record_bytes
    → record_length (if test then one else other).entries ≤ most_record_bytes
short_if true one other a b = a
short_if false one other a b = b

short_described : (area : ℕ) (name : Name) (descriptions : List FileDescription) → each description_rules
    descriptions ≡ [] → record_length (described_file area name descriptions).entries ≤ most_record_bytes
short_described area name [] e = omega arith
short_described area name (one ∷ more) e =
    short_if (same name one.name) (record { area = area; entries = one.entries }) (described_file (area + 1) name more)
    (short_record one (left_none (description_rules one) (each description_rules more) e))
    (short_described (area + 1) name more (right_none (description_rules one) (each description_rules more) e))

-- ---- each SELECT

module _ (items : List LocatedItem) (areas : ℕ) (descriptions : List FileDescription)
    (short : each description_rules descriptions ≡ []) where
  clauses_kept : (one : Select) → select_rules items areas descriptions one ≡ [] → KeepsClauses items one
  clauses_kept one e =
      let there = described_file areas one.name descriptions in
      let assigned = where_so (not (is_name one.assigned.characters)) 66 one.assigned.place in
      let clauses = organization_rules items there one.organization one in
      let many = each excess_key (drop most_alternate_keys one.alternate_keys) in
      let status = in_clause (clause_item items (status_item areas)) one.status in
      let organization = right_none assigned clauses
      (left_none (assigned ++ clauses) many (left_none (assigned ++ clauses ++ many) status e)) in
      let own = by_organization items there one.organization one (short_described areas one.name descriptions short)
      organization in
      record {
        prime = own.prime;
        alternates = own.alternates;
        relative_key = own.relative_key;
        status = status_named items areas one.status (right_none (assigned ++ clauses ++ many) status e);
      }

  all_kept : (selects : List Select) → each (select_rules items areas descriptions) selects ≡ []
      → AllByRecursion (KeepsClauses items) selects
  all_kept [] e = tt
  all_kept (one ∷ more) e = (
    clauses_kept one
        (left_none (select_rules items areas descriptions one) (each (select_rules items areas descriptions) more) e),
    all_kept more
        (right_none (select_rules items areas descriptions one) (each (select_rules items areas descriptions) more) e),
  )

-- ---- a program

record Parts (items : List LocatedItem) (program : Program) : Type 0 where
  descriptions : descriptions_rules program.storage program.files ≡ []
  selects : each (select_rules items (storage_areas program.storage) program.files) program.selects ≡ []

parts : (items : List LocatedItem) (program : Program) → program_file_rules items program ≡ [] → Parts items program
parts items program e =
    let names = file_name_rules (select_names program.selects) (description_names program.files) in
    let entries = descriptions_rules program.storage program.files in
    let selects = each (select_rules items (storage_areas program.storage) program.files) program.selects in
    record {
      descriptions = right_none names entries (left_none (names ++ entries) selects e);
      selects = right_none (names ++ entries) selects e;
    }

each_one : (program : Program) → descriptions_rules program.storage program.files ≡ []
    → each description_rules program.files ≡ []
each_one program e =
    let before = each excess (drop (most_entries - length program.storage) (file_entries program.files)) in
    let behind = record_storage_rules (sum (area_lengths (forest_of program.storage))) program.files in
    right_none before (each description_rules program.files)
    (left_none (before ++ each description_rules program.files) behind e)

pub descriptions_kept : (items : List LocatedItem) (program : Program) → entry_rules program.storage ≡ []
    → program_file_rules items program ≡ [] → KeepsDescriptions program
descriptions_kept items program storage e =
    let rules = (parts items program e).descriptions in
    record {
      storage = storage;
      each_one = each_one program rules;
      few = not_many_files program.storage program.files rules;
    }

pub selects_kept : (items : List LocatedItem) (program : Program) → program_file_rules items program ≡ []
    → AllByRecursion (KeepsClauses items) program.selects
selects_kept items program e =
    let rules = parts items program e in
    all_kept items (storage_areas program.storage) program.files (each_one program rules.descriptions) program.selects
    rules.selects
