-- Files whose descriptions keep the rules.
use Rattle.std.proofs.Common.{◌≡◌, ℕ, ◌+◌, ◌-◌, ◌≤◌, true, false, not, List, [], ◌∷◌, ◌++◌, length, drop, None, sum}
use Rattle.std.proofs.Common.{arith}
use Rattle.std.specs.List.{AllByRecursion}
use Rattle.source_tree.specs.declared.entry.Entry.{Entry}
use Rattle.source_tree.specs.declared.select.FileDescription.{FileDescription}
use Rattle.source_tree.specs.Levels.{leading_conditions, forest_of}
use Rattle.source_tree.specs.Places.{LocatedItem}
use Rattle.source_tree.specs.Records.{record_length, record_places, file_places}
use Rattle.source_tree.specs.Rooms.{area_lengths}
use Rattle.source_tree.specs.Broken.{where_so, each}
use Rattle.source_tree.specs.ValueRules.{are_some}
use Rattle.source_tree.specs.EntryRules.{outermost, level_rules, forest_rules, excess, homeless, most_entries}
use Rattle.source_tree.specs.FileRules.{most_record_bytes, file_entries, description_rules, record_storage_rules}
use Rattle.source_tree.specs.FileRules.{descriptions_rules}
use Rattle.data_entries.specs.Nesting.{AreTold}
use Rattle.initial_storage.specs.Fits.{FitsFile}
use Rattle.initial_storage.proofs.Groups.{all_append}
use Rattle.initial_storage.proofs.Kept.{front_nil, back_nil, kept, of_forest}

-- what the rules of a description say
pub record Description (one : FileDescription) : Type 0 where
  pub levels : each level_rules one.entries ≡ []
  pub forest : forest_rules (outermost true) None (forest_of one.entries) ≡ []
  pub most : record_length one.entries ≤ most_record_bytes

few_bytes : (n : ℕ) → not (are_some most_record_bytes n) ≡ false → n ≤ most_record_bytes
few_bytes n e = grind arith

description : (one : FileDescription) → description_rules one ≡ [] → Description one
description one e =
    let levels = each level_rules one.entries in
    let homes = each homeless (leading_conditions one.entries) in
    let forest = forest_rules (outermost true) None (forest_of one.entries) in
    let test = not (are_some most_record_bytes (record_length one.entries)) in
    let bytes = where_so test 69 one.name.place in
    let front = front_nil (levels ++ homes ++ forest) bytes e in
    record {
      levels = front_nil levels homes (front_nil (levels ++ homes) forest front);
      forest = back_nil (levels ++ homes) forest front;
      most = few_bytes (record_length one.entries)
          (kept test 69 one.name.place (back_nil (levels ++ homes ++ forest) bytes e));
    }

each_kept : (P : FileDescription → Type 0) → ((one : FileDescription) → description_rules one ≡ [] → P one)
    → (files : List FileDescription) → each description_rules files ≡ [] → AllByRecursion P files
each_kept P h [] e = tt
each_kept P h (one ∷ more) e = (
  h one (front_nil (description_rules one) (each description_rules more) e),
  each_kept P h more (back_nil (description_rules one) (each description_rules more) e),
)

each_one : (storage : List Entry) (files : List FileDescription) → descriptions_rules storage files ≡ []
    → each description_rules files ≡ []
each_one storage files e =
    let entries = each excess (drop (most_entries - length storage) (file_entries files)) in
    let bytes = record_storage_rules (sum (area_lengths (forest_of storage))) files in
    back_nil entries (each description_rules files) (front_nil (entries ++ each description_rules files) bytes e)

pub descriptions : (storage : List Entry) (files : List FileDescription) → descriptions_rules storage files ≡ []
    → AllByRecursion Description files
descriptions storage files e = each_kept Description description files (each_one storage files e)

pub of_descriptions : (P : FileDescription → Type 0) → ((one : FileDescription) → Description one → P one)
    → (files : List FileDescription) → AllByRecursion Description files → AllByRecursion P files
of_descriptions P h [] e = tt
of_descriptions P h (one ∷ more) e = (h one e.0, of_descriptions P h more e.1)

pub files_fit : (storage : List Entry) (files : List FileDescription) → descriptions_rules storage files ≡ []
    → ((one : FileDescription) → description_rules one ≡ [] → AreTold (forest_of one.entries))
    → AllByRecursion FitsFile files
files_fit storage files e told = each_kept FitsFile (λ one h. of_forest (outermost true) None (forest_of one.entries)
    (told one h) (description one h).forest) files (each_one storage files e)

-- ---- what holds of the items of each file, in whatever area, holds of those of all

pub of_files : (P : LocatedItem → Type 0) (area : ℕ) (files : List FileDescription)
    → AllByRecursion
    (λ (one : FileDescription). (a : ℕ) → AllByRecursion P (record_places a one.name (forest_of one.entries))) files
    → AllByRecursion P (file_places area files)
of_files P area [] h = tt
of_files P area (one ∷ more) h = all_append P (record_places area one.name (forest_of one.entries))
    (file_places (area + 1) more) (h.0 area) (of_files P (area + 1) more h.1)
