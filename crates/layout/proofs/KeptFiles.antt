-- Files whose descriptions keep the rules are within the limits.
use Rattle.std.proofs.Common.{◌≡◌, ℕ, ◌+◌, ◌-◌, ◌≤◌, nat_lt, true, false, not, List, [], ◌∷◌, ◌++◌, length, drop, None}
use Rattle.std.proofs.Common.{sum, length-append, arith}
use Rattle.source_tree.specs.declared.entry.Entry.{Entry}
use Rattle.source_tree.specs.declared.select.FileDescription.{FileDescription}
use Rattle.source_tree.specs.Levels.{leading_conditions, forest_of}
use Rattle.source_tree.specs.Clauses.{nothing_around}
use Rattle.source_tree.specs.Records.{record_length}
use Rattle.source_tree.specs.Rooms.{area_lengths}
use Rattle.source_tree.specs.Broken.{where_so, each}
use Rattle.source_tree.specs.ValueRules.{are_some}
use Rattle.source_tree.specs.EntryRules.{outermost, level_rules, forest_rules, excess, homeless, most_entries}
use Rattle.source_tree.specs.EntryRules.{most_storage}
use Rattle.source_tree.specs.FileRules.{most_record_bytes, file_entries, description_rules, record_storage_rules}
use Rattle.source_tree.specs.FileRules.{descriptions_rules}
use Rattle.layout.specs.Fits.{Fits, FitFiles}
use Rattle.data_entries.proofs.Told.{levels_known}
use Rattle.layout.proofs.Kept.{front_nil, back_nil, kept, few, dropped_all, at_most, of_forest}

-- ---- the parts of the rules

record Description (one : FileDescription) : Type 0 where
  levels : each level_rules one.entries ≡ []
  forest : forest_rules (outermost true) None (forest_of one.entries) ≡ []
  bytes : not (are_some most_record_bytes (record_length one.entries)) ≡ false

parts : (one : FileDescription) → description_rules one ≡ [] → Description one
parts one e =
    let levels = each level_rules one.entries in
    let homes = each homeless (leading_conditions one.entries) in
    let forest = forest_rules (outermost true) None (forest_of one.entries) in
    let bytes = where_so (not (are_some most_record_bytes (record_length one.entries))) 69 one.name.place in
    let front = front_nil (levels ++ homes ++ forest) bytes e in
    record {
      levels = front_nil levels homes (front_nil (levels ++ homes) forest front);
      forest = back_nil (levels ++ homes) forest front;
      bytes = kept (not (are_some most_record_bytes (record_length one.entries))) 69 one.name.place
          (back_nil (levels ++ homes ++ forest) bytes e);
    }

pub description_fits : (one : FileDescription) → description_rules one ≡ []
    → Fits nothing_around (forest_of one.entries)
description_fits one e =
    let kept = parts one e in
    of_forest (outermost true) None (forest_of one.entries) (levels_known one.entries kept.levels) kept.forest

-- ---- the number of entries

each_few : (files : List FileDescription) → each description_rules files ≡ []
    → length (file_entries files) ≤ most_entries → FitFiles files
each_few [] e h = tt
each_few (one ∷ more) e h =
    let both = length-append one.entries (file_entries more) in (
      record {
        entries = description_fits one (front_nil (description_rules one) (each description_rules more) e);
        most = omega arith;
      },
      each_few more (back_nil (description_rules one) (each description_rules more) e) (omega arith),
    )

-- ---- the number of files: each has a byte or more

some_bytes : (n : ℕ) → not (are_some most_record_bytes n) ≡ false → 1 ≤ n
some_bytes n e = grind arith

counted : (before : ℕ) (files : List FileDescription) → before ≤ most_storage → each description_rules files ≡ []
    → record_storage_rules before files ≡ [] → before + length files ≤ most_storage
counted before [] h e f = omega arith
counted before (one ∷ more) h e f =
    let bytes = record_length one.entries in
    let test = nat_lt most_storage (before + bytes) in
    let own = front_nil (where_so test 48 one.name.place) (record_storage_rules (before + bytes) more) f in
    let some = some_bytes bytes (parts one (front_nil (description_rules one) (each description_rules more) e)).bytes in
    let most = at_most most_storage (before + bytes) (kept test 48 one.name.place own) in
    let rest = counted (before + bytes) more most (back_nil (description_rules one) (each description_rules more) e)
    (back_nil (where_so test 48 one.name.place) (record_storage_rules (before + bytes) more) f) in
    omega arith

first_counted : (before : ℕ) (files : List FileDescription) → each description_rules files ≡ []
    → record_storage_rules before files ≡ [] → length files ≤ most_storage
first_counted before [] e f = omega arith
first_counted before (one ∷ more) e f =
    let bytes = record_length one.entries in
    let test = nat_lt most_storage (before + bytes) in
    let own = front_nil (where_so test 48 one.name.place) (record_storage_rules (before + bytes) more) f in
    let some = some_bytes bytes (parts one (front_nil (description_rules one) (each description_rules more) e)).bytes in
    let most = at_most most_storage (before + bytes) (kept test 48 one.name.place own) in
    let rest = counted (before + bytes) more most (back_nil (description_rules one) (each description_rules more) e)
    (back_nil (where_so test 48 one.name.place) (record_storage_rules (before + bytes) more) f) in
    omega arith

-- ---- all files

record Descriptions (storage : List Entry) (files : List FileDescription) : Type 0 where
  entries : each excess (drop (most_entries - length storage) (file_entries files)) ≡ []
  each_one : each description_rules files ≡ []
  bytes : record_storage_rules (sum (area_lengths (forest_of storage))) files ≡ []

all_parts : (storage : List Entry) (files : List FileDescription) → descriptions_rules storage files ≡ []
    → Descriptions storage files
all_parts storage files e =
    let entries = each excess (drop (most_entries - length storage) (file_entries files)) in
    let bytes = record_storage_rules (sum (area_lengths (forest_of storage))) files in
    let front = front_nil (entries ++ each description_rules files) bytes e in
    record {
      entries = front_nil entries (each description_rules files) front;
      each_one = back_nil entries (each description_rules files) front;
      bytes = back_nil (entries ++ each description_rules files) bytes e;
    }

pub files_fit : (storage : List Entry) (files : List FileDescription) → descriptions_rules storage files ≡ []
    → FitFiles files
files_fit storage files e =
    let kept = all_parts storage files e in
    let most = dropped_all (most_entries - length storage) (file_entries files)
    (few (drop (most_entries - length storage) (file_entries files)) kept.entries) in
    each_few files kept.each_one (omega arith)

pub not_many_files : (storage : List Entry) (files : List FileDescription) → descriptions_rules storage files ≡ []
    → length files ≤ most_storage
not_many_files storage files e =
    let kept = all_parts storage files e in
    first_counted (sum (area_lengths (forest_of storage))) files kept.each_one kept.bytes
