-- Where the rules of files are kept, each file of a program is one: its name and its keys are those of a file.
use Rattle.std.proofs.Common.{◌≡◌, ℕ, suc, ◌+◌, ◌≤◌, List, [], ◌∷◌, ◌++◌, refl, ap, ◌∙◌, arith}
use Rattle.std.specs.Prelude.{◌==◌, ◌-◌, nat_lt, nat_le, Bool, true, false, not, ◌&&◌, ◌||◌, if◌then◌else◌, length}
use Rattle.std.specs.Prelude.{drop, sum, Option, Some, None, IfSome}
use Rattle.std.specs.List.{list_all, AllByRecursion}
use Rattle.std.proofs.lemmas.Bool.{and_parts, and_from}
use Rattle.std.proofs.lemmas.List.{length-drop}
use Rattle.lexical.specs.declared.place.Place.{Place}
use Rattle.records.specs.declared.file_spec.KeyPlace.{KeyPlace}
use Rattle.records.specs.declared.file_spec.AlternateKey.{AlternateKey}
use Rattle.records.specs.Spec.{is_name, is_place, in_order, begins_elsewhere, are_keys}
use Rattle.source_tree.specs.declared.name.Name.{Name}
use Rattle.source_tree.specs.declared.reference.Reference.{Reference}
use Rattle.source_tree.specs.declared.select.OrganizationClause.{OrganizationClause}
use Rattle.source_tree.specs.declared.select.OrganizationClause.TheVariants as clause
use Rattle.source_tree.specs.declared.select.AlternateKeyClause.{AlternateKeyClause}
use Rattle.source_tree.specs.declared.select.Select.{Select}
use Rattle.source_tree.specs.declared.select.FileDescription.{FileDescription}
use Rattle.source_tree.specs.declared.program.Program.{Program}
use Rattle.source_tree.specs.Names.{same}
use Rattle.source_tree.specs.Levels.{forest_of, leading_conditions}
use Rattle.source_tree.specs.Places.{LocatedItem}
use Rattle.source_tree.specs.LookUp.{items_named, first}
use Rattle.source_tree.specs.Records.{storage_areas, record_length}
use Rattle.source_tree.specs.ProgramFiles.{DescribedFile, described_file, place_in_record, plain_place, key_place}
use Rattle.source_tree.specs.ProgramFiles.{item_place, with_key, alternates, organization_by, file_by, files_from}
use Rattle.source_tree.specs.ProgramFiles.{files_of}
use Rattle.source_tree.specs.SoundFiles.{IsRelativeKey, IsStatus, IsSound}
use Rattle.source_tree.specs.Broken.{RuleBreach, where_so, each}
use Rattle.source_tree.specs.ValueRules.{are_some}
use Rattle.records.specs.Tests.{is_sequential}
use Rattle.source_tree.specs.Rooms.{area_lengths}
use Rattle.source_tree.specs.EntryRules.{most_entries, outermost, level_rules, homeless, excess, forest_rules}
use Rattle.source_tree.specs.NameRules.{unique_name_rules, no_part_rules}
use Rattle.source_tree.specs.PerformRules.{is_among, given_once}
use Rattle.source_tree.specs.FileRules.{most_files, most_record_bytes, most_key_bytes, most_alternate_keys, broken_at}
use Rattle.source_tree.specs.FileRules.{select_names, description_names, broken_match_rule, file_name_rules}
use Rattle.source_tree.specs.FileRules.{file_entries, record_storage_rules, description_rules, descriptions_rules}
use Rattle.source_tree.specs.FileRules.{is_plain, is_key_kind, is_one_of, is_in_area, is_key_item, key_item}
use Rattle.source_tree.specs.FileRules.{another_clause, another_key, in_clause, clause_item, alternate_rules}
use Rattle.source_tree.specs.FileRules.{indexed_rules, relative_rules, organization_rules, excess_key}
use Rattle.source_tree.specs.FileRules.{is_unsigned_integer, relative_item, is_two_characters, status_item}
use Rattle.source_tree.specs.FileRules.{select_rules, program_file_rules}

-- ---- lists of broken rules that are empty

pub left_none : (xs ys : List RuleBreach) → xs ++ ys ≡ [] → xs ≡ []
left_none [] ys e = refl
left_none (x ∷ xs) ys e = absurd cc

pub right_none : (xs ys : List RuleBreach) → xs ++ ys ≡ [] → ys ≡ []
right_none [] ys e = e
right_none (x ∷ xs) ys e = absurd cc

-- a name without a part
without_part : (key : Reference) (asked : LocatedItem → List RuleBreach) (found : List LocatedItem)
    → unique_name_rules key.item.name.place (λ one. no_part_rules key ++ asked one) found ≡ []
    → unique_name_rules key.item.name.place asked found ≡ []
without_part key asked [] e = absurd cc
without_part key asked (only ∷ []) e = right_none (no_part_rules key) (asked only) e
without_part key asked (one ∷ other ∷ more) e = absurd cc

pub kept : (test : Bool) (rule : ℕ) (place : Place) → where_so (not test) rule place ≡ [] → test ≡ true
kept true rule place e = refl
kept false rule place e = absurd cc

-- ---- alternate keys in order of place

less_or_equal : (a b : ℕ) → not (a == b) ≡ true → nat_lt b a ≡ false → nat_lt a b ≡ true
less_or_equal a b e f = grind arith

-- the first of these follows a place
abbrev before : ℕ → List AlternateKey → Bool
before offset [] = true
before offset (one ∷ more) = nat_lt offset one.place.offset

in_front : (one : AlternateKey) (keys : List AlternateKey) → before one.place.offset keys ≡ true → in_order keys ≡ true
    → in_order (one ∷ keys) ≡ true
in_front one [] b o = refl
in_front one (two ∷ more) b o = and_from (nat_lt one.place.offset two.place.offset) (in_order (two ∷ more)) b o

behind_it : (one : AlternateKey) (keys : List AlternateKey) → in_order (one ∷ keys) ≡ true
    → before one.place.offset keys ≡ true
behind_it one [] o = refl
behind_it one (two ∷ more) o = (and_parts (nat_lt one.place.offset two.place.offset) (in_order (two ∷ more)) o).0

the_rest : (one : AlternateKey) (keys : List AlternateKey) → in_order (one ∷ keys) ≡ true → in_order keys ≡ true
the_rest one [] o = refl
the_rest one (two ∷ more) o = (and_parts (nat_lt one.place.offset two.place.offset) (in_order (two ∷ more)) o).1

either_before : (n : ℕ) (one other : AlternateKey) (rest more : List AlternateKey) (test : Bool)
    → nat_lt n one.place.offset ≡ true → nat_lt n other.place.offset ≡ true
    → before n (if test then other ∷ rest else one ∷ more) ≡ true
either_before n one other rest more true a b = b
either_before n one other rest more false a b = a

still_before : (n : ℕ) (one : AlternateKey) (keys : List AlternateKey) → nat_lt n one.place.offset ≡ true
    → before n keys ≡ true → before n (with_key one keys) ≡ true
still_before n one [] a b = a
still_before n one (other ∷ more) a b =
    either_before n one other (with_key one more) (other ∷ more) (nat_lt other.place.offset one.place.offset) a b

-- one among those that begin elsewhere
ordered_by : (one other : AlternateKey) (more : List AlternateKey) (test : Bool)
    → nat_lt other.place.offset one.place.offset ≡ test
    → begins_elsewhere one.place other ≡ true → in_order (other ∷ more) ≡ true → in_order (with_key one more) ≡ true
    → in_order (if test then other ∷ with_key one more else one ∷ other ∷ more) ≡ true
ordered_by one other more true e apart o rest =
    in_front other (with_key one more) (still_before other.place.offset one more e (behind_it other more o)) rest
ordered_by one other more false e apart o rest =
    in_front one (other ∷ more) (less_or_equal one.place.offset other.place.offset apart e) o

ordered : (one : AlternateKey) (keys : List AlternateKey) → list_all (begins_elsewhere one.place) keys ≡ true
    → in_order keys ≡ true → in_order (with_key one keys) ≡ true
ordered one [] apart o = refl
ordered one (other ∷ more) apart o =
    let both = and_parts (begins_elsewhere one.place other) (list_all (begins_elsewhere one.place) more) apart in
    ordered_by one other more (nat_lt other.place.offset one.place.offset) refl both.0 o
    (ordered one more both.1 (the_rest other more o))

-- what is so of each key is so of each with one more
all_by : (p : AlternateKey → Bool) (one other : AlternateKey) (rest more : List AlternateKey) (test : Bool)
    → p one ≡ true → p other ≡ true → list_all p rest ≡ true → list_all p more ≡ true
    → list_all p (if test then other ∷ rest else one ∷ other ∷ more) ≡ true
all_by p one other rest more true a b r m = and_from (p other) (list_all p rest) b r
all_by p one other rest more false a b r m =
    and_from (p one) (list_all p (other ∷ more)) a (and_from (p other) (list_all p more) b m)

all_with : (p : AlternateKey → Bool) (one : AlternateKey) (keys : List AlternateKey) → p one ≡ true
    → list_all p keys ≡ true → list_all p (with_key one keys) ≡ true
all_with p one [] a b = and_from (p one) true a refl
all_with p one (other ∷ more) a b =
    let both = and_parts (p other) (list_all p more) b in
    all_by p one other (with_key one more) more (nat_lt other.place.offset one.place.offset) a both.0
    (all_with p one more a both.1) both.1

all_of : (p q : AlternateKey → Bool) → ((one : AlternateKey) → p one ≡ true → q one ≡ true) → (keys : List AlternateKey)
    → list_all p keys ≡ true → list_all q keys ≡ true
all_of p q from [] a = refl
all_of p q from (one ∷ more) a =
    let both = and_parts (p one) (list_all p more) a in
    and_from (q one) (list_all q more) (from one both.0) (all_of p q from more both.1)

count_by : (one other : AlternateKey) (rest more : List AlternateKey) (test : Bool) → length rest ≡ suc (length more)
    → length (if test then other ∷ rest else one ∷ other ∷ more) ≡ suc (suc (length more))
count_by one other rest more true e = omega arith
count_by one other rest more false e = omega arith

count_with : (one : AlternateKey) (keys : List AlternateKey) → length (with_key one keys) ≡ suc (length keys)
count_with one [] = refl
count_with one (other ∷ more) =
    count_by one other (with_key one more) more (nat_lt other.place.offset one.place.offset) (count_with one more)

-- ---- the rules of a key

-- none of these places is its first
abbrev is_apart : List ℕ → AlternateKey → Bool
is_apart taken one = not (is_one_of one.place.offset taken)

record KeepsRules (there : DescribedFile) (taken : List ℕ) (place : KeyPlace) : Type 0 where
  lies : is_place (record_length there.entries) place ≡ true
  apart : not (is_one_of place.offset taken) ≡ true

item_keeps : (there : DescribedFile) (taken : List ℕ) (key : Reference) (one : LocatedItem)
    → key_item there taken key one ≡ [] → KeepsRules there taken (place_in_record (Some one))
item_keeps there taken key one e =
    let size = record_length there.entries in
    let free = not (is_one_of one.offset taken) in
    let fits = kept (is_key_item there taken key one) 58 key.item.name.place
    (left_none (where_so (not (is_key_item there taken key one)) 58 key.item.name.place)
    (where_so (not (are_some most_key_bytes one.item.length)) 69 key.item.name.place) e) in
    let long = kept (are_some most_key_bytes one.item.length) 69 key.item.name.place
    (right_none (where_so (not (is_key_item there taken key one)) 58 key.item.name.place)
    (where_so (not (are_some most_key_bytes one.item.length)) 69 key.item.name.place) e) in
    let parts = and_parts (is_plain key one && is_in_area there one && is_key_kind one.item.kind) free fits in
    let inner = (and_parts (is_plain key one && is_in_area there one) (is_key_kind one.item.kind) parts.0).0 in
    let within = (and_parts (one.area == there.area) (nat_le (one.offset + one.item.length) size)
    ((and_parts (is_plain key one) (is_in_area there one) inner).1)).1 in
    record {
      lies = and_from (nat_le 1 one.item.length && nat_le one.item.length 100)
          (nat_le (one.offset + one.item.length) size) long within;
      apart = parts.1;
    }

found_keeps : (there : DescribedFile) (taken : List ℕ) (key : Reference) (found : List LocatedItem)
    → unique_name_rules key.item.name.place (key_item there taken key) found ≡ []
    → KeepsRules there taken (place_in_record (first found))
found_keeps there taken key [] e = absurd cc
found_keeps there taken key (only ∷ []) e = item_keeps there taken key only e
found_keeps there taken key (one ∷ other ∷ more) e = absurd cc

module _ (items : List LocatedItem) (there : DescribedFile) where
  key_keeps : (taken : List ℕ) (key : Reference) → clause_item items (key_item there taken) key ≡ []
      → KeepsRules there taken (key_place items key)
  key_keeps taken key e =
      let found = items_named items key.item in
      found_keeps there taken key found (without_part key (key_item there taken key) found e)

  -- alternate keys after keys at some places
  record AreSound (taken : List ℕ) (keys : List AlternateKey) : Type 0 where
    apart : list_all (is_apart taken) keys ≡ true
    order : in_order keys ≡ true
    lie : list_all (λ (key : AlternateKey). is_place (record_length there.entries) key.place) keys ≡ true

  not_others : (a b : Bool) → not (a || b) ≡ true → not b ≡ true
  not_others false b e = e
  not_others true b e = absurd cc

  not_one : (a b : Bool) → not (a || b) ≡ true → not a ≡ true
  not_one false b e = refl
  not_one true b e = e

  other_way : (a b : ℕ) → not (a == b) ≡ true → not (b == a) ≡ true
  other_way a b e = grind arith

  alternates_sound : (taken : List ℕ) (keys : List AlternateKeyClause) → alternate_rules items there taken keys ≡ []
      → AreSound taken (alternates items keys)
  alternates_sound taken [] e = record { apart = refl; order = refl; lie = refl }
  alternates_sound taken (one ∷ more) e =
      let place = key_place items one.key in
      let key : AlternateKey = record { place = place; duplicates = one.duplicates } in
      let own = key_keeps taken one.key (left_none (clause_item items (key_item there taken) one.key)
      (alternate_rules items there (place.offset ∷ taken) more) e) in
      let rest = alternates_sound (place.offset ∷ taken) more (right_none
      (clause_item items (key_item there taken) one.key) (alternate_rules items there (place.offset ∷ taken) more) e) in
      let others = alternates items more in
      record {
        apart = all_with (is_apart taken) key others own.apart
            (all_of (is_apart (place.offset ∷ taken)) (is_apart taken) (λ (k : AlternateKey) a.
            not_others (k.place.offset == place.offset) (is_one_of k.place.offset taken) a) others rest.apart);
        order = ordered key others
            (all_of (is_apart (place.offset ∷ taken)) (begins_elsewhere place)
            (λ (k : AlternateKey) a. other_way k.place.offset place.offset
            (not_one (k.place.offset == place.offset) (is_one_of k.place.offset taken) a)) others rest.apart)
            rest.order;
        lie = all_with (λ (k : AlternateKey). is_place (record_length there.entries) k.place) key others own.lies
            rest.lie;
      }

-- ---- how many alternate keys

is_le : (a b : ℕ) → a ≤ b → nat_le a b ≡ true
is_le a b le = grind arith

excess_none : (keys : List AlternateKeyClause) → each excess_key keys ≡ [] → length keys ≡ 0
excess_none [] e = refl
excess_none (one ∷ more) e = absurd cc

another_none : (keys : List AlternateKeyClause) → each another_key keys ≡ [] → length keys ≡ 0
another_none [] e = refl
another_none (one ∷ more) e = absurd cc

few : (keys : List AlternateKeyClause) → each excess_key (drop most_alternate_keys keys) ≡ [] → length keys ≤ 7
few keys e = let zero_left : length (drop 7 keys) ≡ 0 = excess_none (drop most_alternate_keys keys) e in let counts =
    length-drop 7 keys in omega arith

module _ (items : List LocatedItem) where
  as_many : (keys : List AlternateKeyClause) → length (alternates items keys) ≡ length keys
  as_many [] = refl
  as_many (one ∷ more) =
      let counts =
      count_with (record { place = key_place items one.key; duplicates = one.duplicates }) (alternates items more) in
      counts ∙ ap suc (as_many more)

-- ---- the record of the FD

size_of_one : (one : FileDescription) → description_rules one ≡ []
    → are_some most_record_bytes (record_length one.entries) ≡ true
size_of_one one e =
    kept (are_some most_record_bytes (record_length one.entries)) 69 one.name.place
    (right_none (each level_rules one.entries ++ each homeless (leading_conditions one.entries)
    ++ forest_rules (outermost true) None (forest_of one.entries))
    (where_so (not (are_some most_record_bytes (record_length one.entries))) 69 one.name.place) e)

abbrev HasSize : DescribedFile → Type 0
HasSize there = are_some most_record_bytes (record_length there.entries) ≡ true

size_by : (area : ℕ) (name : Name) (one : FileDescription) (more : List FileDescription) (test : Bool)
    → (test || is_among name (description_names more)) ≡ true → HasSize (record { area = area; entries = one.entries })
    → (is_among name (description_names more) ≡ true → HasSize (described_file (area + 1) name more))
    → HasSize (if test then record { area = area; entries = one.entries } else described_file (area + 1) name more)
size_by area name one more true among own rest = own
size_by area name one more false among own rest = rest among

has_size : (area : ℕ) (name : Name) (descriptions : List FileDescription)
    → is_among name (description_names descriptions) ≡ true → each description_rules descriptions ≡ []
    → HasSize (described_file area name descriptions)
has_size area name [] among e = absurd cc
has_size area name (one ∷ more) among e =
    size_by area name one more (same name one.name) among
    (size_of_one one (left_none (description_rules one) (each description_rules more) e))
    (λ rest. has_size (area + 1) name more rest (right_none (description_rules one) (each description_rules more) e))

-- ---- a file

module _ (items : List LocatedItem) (there : DescribedFile) where
  indexed_keys : (one : Select) (record_key : Option Reference)
      → indexed_rules items there one.name record_key one.alternate_keys ≡ [] → length one.alternate_keys ≤ 7
      → are_keys (record_length there.entries) (organization_by items clause.Indexed record_key)
      (alternates items one.alternate_keys) ≡ true
  indexed_keys one None e most = absurd cc
  indexed_keys one (Some key) e most =
      let size = record_length there.entries in
      let place = key_place items key in
      let keys = alternates items one.alternate_keys in
      let own = key_keeps items there [] key (left_none (clause_item items (key_item there []) key)
      (alternate_rules items there (place.offset ∷ []) one.alternate_keys) e) in
      let others = alternates_sound items there (place.offset ∷ []) one.alternate_keys (right_none (clause_item items
      (key_item there []) key) (alternate_rules items there (place.offset ∷ []) one.alternate_keys) e) in
      let elsewhere = all_of (is_apart (place.offset ∷ [])) (begins_elsewhere place)
      (λ (k : AlternateKey) a. other_way items there k.place.offset place.offset
      (not_one items there (k.place.offset == place.offset) (is_one_of k.place.offset []) a)) keys others.apart in
      let counts = as_many items one.alternate_keys in
      let few_keys : nat_le (length keys) 7 ≡ true = is_le (length keys) 7 (omega arith) in
      and_from (is_place size place && nat_le (length keys) 7 && in_order keys
      && list_all (begins_elsewhere place) keys) (list_all (λ (k : AlternateKey). is_place size k.place) keys)
      (and_from (is_place size place && nat_le (length keys) 7 && in_order keys)
      (list_all (begins_elsewhere place) keys)
      (and_from (is_place size place && nat_le (length keys) 7) (in_order keys)
      (and_from (is_place size place) (nat_le (length keys) 7) own.lies few_keys) others.order) elsewhere)
      others.lie

  no_keys : (keys : List AlternateKeyClause) → each another_key keys ≡ [] → (length (alternates items keys) == 0) ≡ true
  no_keys [] e = refl
  no_keys (one ∷ more) e = absurd cc

  keys_sound : (organization : OrganizationClause) (one : Select) → organization_rules items there organization one ≡ []
      → length one.alternate_keys ≤ 7
      → are_keys (record_length there.entries) (organization_by items organization one.record_key)
      (alternates items one.alternate_keys) ≡ true
  keys_sound clause.Sequential one e most =
      no_keys one.alternate_keys
      (right_none (where_so (not (is_sequential one.access)) 58 one.name.place ++ in_clause another_clause
      one.relative_key ++ in_clause another_clause one.record_key) (each another_key one.alternate_keys) e)
  keys_sound clause.Relative one e most =
      no_keys one.alternate_keys (right_none (relative_rules items there one one.relative_key
      ++ in_clause another_clause one.record_key) (each another_key one.alternate_keys) e)
  keys_sound clause.Indexed one e most =
      indexed_keys one one.record_key (right_none (in_clause another_clause one.relative_key)
      (indexed_rules items there one.name one.record_key one.alternate_keys) e) most

-- ---- RELATIVE KEY and FILE STATUS

no_clause : (clause : Option Reference) → in_clause another_clause clause ≡ [] → clause ≡ None
no_clause None e = refl
no_clause (Some one) e = absurd cc

relative_found : (there : DescribedFile) (key : Reference) (found : List LocatedItem)
    → unique_name_rules key.item.name.place (relative_item there key) found ≡ []
    → IfSome (plain_place (first found)) (IsRelativeKey there.area)
relative_found there key [] e = absurd cc
relative_found there key (one ∷ other ∷ more) e = absurd cc
relative_found there key (only ∷ []) e =
    let parts = and_parts (is_plain key only && is_unsigned_integer only.item.kind) (not (only.area == there.area))
    (kept (is_plain key only && is_unsigned_integer only.item.kind && not (only.area == there.area)) 60
    key.item.name.place e) in
    record { kind = (and_parts (is_plain key only) (is_unsigned_integer only.item.kind) parts.0).1; outside = parts.1 }

status_found : (areas : ℕ) (key : Reference) (found : List LocatedItem) → unique_name_rules key.item.name.place
    (status_item areas key) found ≡ [] → IfSome (plain_place (first found)) (IsStatus areas)
status_found areas key [] e = absurd cc
status_found areas key (one ∷ other ∷ more) e = absurd cc
status_found areas key (only ∷ []) e =
    let parts =
    and_parts (is_plain key only && is_two_characters only.item.kind only.item.length) (nat_lt only.area areas)
    (kept (is_plain key only && is_two_characters only.item.kind only.item.length && nat_lt only.area areas) 59
    key.item.name.place e) in
    record {
      kind = (and_parts (is_plain key only) (is_two_characters only.item.kind only.item.length) parts.0).1;
      within = parts.1;
    }

module _ (items : List LocatedItem) where
  status_sound : (areas : ℕ) (clause : Option Reference) → in_clause (clause_item items (status_item areas)) clause ≡ []
      → IfSome (item_place items clause) (IsStatus areas)
  status_sound areas None e = tt
  status_sound areas (Some one) e =
      let found = items_named items one.item in
      status_found areas one found (without_part one (status_item areas one) found e)

  no_item : (area : ℕ) (clause : Option Reference) → clause ≡ None
      → IfSome (item_place items clause) (IsRelativeKey area)
  no_item area None e = tt
  no_item area (Some one) e = absurd cc

  relative_by : (there : DescribedFile) (one : Select) (clause : Option Reference)
      → relative_rules items there one clause ≡ [] → IfSome (item_place items clause) (IsRelativeKey there.area)
  relative_by there one None e = tt
  relative_by there one (Some key) e =
      let found = items_named items key.item in
      relative_found there key found (without_part key (relative_item there key) found e)

  relative_sound : (there : DescribedFile) (organization : OrganizationClause) (one : Select) → organization_rules items
      there organization one ≡ [] → IfSome (item_place items one.relative_key) (IsRelativeKey there.area)
  relative_sound there clause.Sequential one e =
      let access = where_so (not (is_sequential one.access)) 58 one.name.place in
      let relative = in_clause another_clause one.relative_key in
      let prime = in_clause another_clause one.record_key in
      no_item there.area one.relative_key (no_clause one.relative_key (right_none access relative (left_none
      (access ++ relative) prime (left_none (access ++ relative ++ prime) (each another_key one.alternate_keys) e))))
  relative_sound there clause.Relative one e =
      let relative = relative_rules items there one one.relative_key in
      let prime = in_clause another_clause one.record_key in
      relative_by there one one.relative_key
      (left_none relative prime (left_none (relative ++ prime) (each another_key one.alternate_keys) e))
  relative_sound there clause.Indexed one e =
      no_item there.area one.relative_key (no_clause one.relative_key (left_none (in_clause another_clause
      one.relative_key) (indexed_rules items there one.name one.record_key one.alternate_keys) e))

module _ (items : List LocatedItem) (areas : ℕ) (descriptions : List FileDescription)
    (sizes : each description_rules descriptions ≡ []) where
  file_sound : (number : ℕ) (one : Select)
      → is_among one.name (description_names descriptions) ≡ true → select_rules items areas descriptions one ≡ []
      → IsSound areas (file_by items number one (described_file areas one.name descriptions))
  file_sound number one among e =
      let there = described_file areas one.name descriptions in
      let size = record_length there.entries in
      let assigned = where_so (not (is_name one.assigned.characters)) 66 one.assigned.place in
      let clauses = organization_rules items there one.organization one in
      let many = each excess_key (drop most_alternate_keys one.alternate_keys) in
      let status = in_clause (clause_item items (status_item areas)) one.status in
      let three = left_none (assigned ++ clauses ++ many) status e in
      let two = left_none (assigned ++ clauses) many three in
      let keys = keys_sound items there one.organization one (right_none assigned clauses two)
      (few one.alternate_keys (right_none (assigned ++ clauses) many three)) in
      record {
        name = kept (is_name one.assigned.characters) 66 one.assigned.place (left_none assigned clauses two);
        spec = and_from (nat_le 1 size && nat_le size 16000) (are_keys
            size (organization_by items one.organization one.record_key) (alternates items one.alternate_keys))
            (has_size areas one.name descriptions among sizes) keys;
        relative_key = relative_sound items there one.organization one (right_none assigned clauses two);
        status = status_sound items areas one.status (right_none (assigned ++ clauses ++ many) status e);
      }

  files_sound : (number : ℕ) (selects : List Select) → each (broken_match_rule (description_names descriptions))
      (select_names selects) ≡ [] → each (select_rules items areas descriptions) selects ≡ []
      → AllByRecursion (IsSound areas) (files_from items areas descriptions number selects)
  files_sound number [] names e = tt
  files_sound number (one ∷ more) names e = (
    file_sound number one
        (kept (is_among one.name (description_names descriptions))
        57 one.name.place (left_none (broken_match_rule (description_names descriptions) one.name)
        (each (broken_match_rule (description_names descriptions)) (select_names more)) names))
        (left_none (select_rules items areas descriptions one) (each (select_rules items areas descriptions) more) e),
    files_sound (number + 1) more (right_none (broken_match_rule (description_names descriptions) one.name)
        (each (broken_match_rule (description_names descriptions)) (select_names more)) names)
        (right_none (select_rules items areas descriptions one) (each (select_rules items areas descriptions) more) e),
  )

-- ---- a program

pub names_matched : (selected others : List Name) → file_name_rules selected others ≡ []
    → each (broken_match_rule others) selected ≡ []
names_matched selected others e =
    let last = each (broken_match_rule selected) others in
    let matched = each (broken_match_rule others) selected in
    let front = each (broken_at 69) (drop most_files selected) ++ given_once [] selected ++ given_once [] others in
    right_none front matched (left_none (front ++ matched) last e)

sizes_kept : (program : Program) → descriptions_rules program.storage program.files ≡ []
    → each description_rules program.files ≡ []
sizes_kept program e =
    let before = each excess (drop (most_entries - length program.storage) (file_entries program.files)) in
    let behind = record_storage_rules (sum (area_lengths (forest_of program.storage))) program.files in
    right_none before (each description_rules program.files)
    (left_none (before ++ each description_rules program.files) behind e)

pub sound_files : (items : List LocatedItem) (program : Program) → program_file_rules items program ≡ []
    → AllByRecursion (IsSound (storage_areas program.storage)) (files_of items program)
sound_files items program e =
    let names = file_name_rules (select_names program.selects) (description_names program.files) in
    let entries = descriptions_rules program.storage program.files in
    let selects = each (select_rules items (storage_areas program.storage) program.files) program.selects in
    let front = left_none (names ++ entries) selects e in
    files_sound items (storage_areas program.storage) program.files
    (sizes_kept program (right_none names entries front)) 0 program.selects
    (names_matched (select_names program.selects) (description_names program.files) (left_none names entries front))
    (right_none (names ++ entries) selects e)
