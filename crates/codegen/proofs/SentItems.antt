-- What READ INTO sends of each file is an item that is in order, where the rules are kept.
use Rattle.std.proofs.Common.{◌≡◌, ℕ, ◌+◌, ◌≤◌, ◌<◌, Bool, true, false, List, [], ◌∷◌, ◌++◌, length, Option}
use Rattle.std.proofs.Common.{Some, None, refl, sym, ap, subst, arith, if◌then◌else◌}
use Rattle.std.specs.Prelude.{◌==◌, ◌&&◌, ◌||◌, not, filter, slice_get, slice_index_or}
use Rattle.std.specs.List.{AllByRecursion}
use Rattle.std.proofs.lemmas.Bool.Decides.{nat_tests}
use Rattle.std.proofs.lemmas.Option.{slice_get-get_or}
use Rattle.items.specs.declared.item.Item.{Item}
use Rattle.items.specs.declared.item.Kind.{Kind}
use Rattle.items.specs.declared.item.Kind.TheVariants as kind
use Rattle.items.specs.Items.{IsItem}
use Rattle.edited_move.specs.Moves.{IsPlainKind}
use Rattle.source_tree.specs.declared.name.Name.{Name}
use Rattle.source_tree.specs.declared.entry.ItemEntry.{ItemEntry}
use Rattle.source_tree.specs.declared.entry.ConditionEntry.{ConditionEntry}
use Rattle.source_tree.specs.declared.select.FileDescription.{FileDescription}
use Rattle.source_tree.specs.Broken.{each, where_so}
use Rattle.source_tree.specs.Clauses.{nothing_around, editing_of, group}
use Rattle.source_tree.specs.EntryRules.{outermost, level_rules, homeless, forest_rules}
use Rattle.source_tree.specs.FileRules.{description_names, description_rules, most_record_bytes}
use Rattle.source_tree.specs.Levels.{Forest, End, Tree, leading_conditions, forest_of}
use Rattle.source_tree.specs.LookUp.{first}
use Rattle.source_tree.specs.Names.{same}
use Rattle.source_tree.specs.PerformRules.{is_among}
use Rattle.source_tree.specs.Places.{LocatedItem}
use Rattle.source_tree.specs.ProgramFiles.{DescribedFile, described_file, ProgramFile, sent_of}
use Rattle.source_tree.specs.Records.{record_length, record_places, file_places}
use Rattle.source_tree.specs.Rooms.{redefines, item_with}
use Rattle.source_tree.specs.ValueRules.{are_some}
use Rattle.data_instructions.specs.declared.tables.DataItem.{DataItem}
use Rattle.data_instructions.specs.Codes.{data_item}
use Rattle.data_instructions.specs.Tables.{Lies, IsEditing, IsDataItem}
use Rattle.statement_codegen.specs.FileCode.{edited_alike, edits, editing_in, sent_entry}
use Rattle.condition_codegen.proofs.Lists.{left_none, right_none}
use Rattle.codegen.proofs.Demands.{all_front, all_back}
use Rattle.codegen.proofs.HasFiles.{first_so, none_pass, first_passes}
use Rattle.condition_codegen.proofs.Integers.{kept, not_false}

-- ---- kinds that are edited

alike_same : (one other : Kind) → edited_alike one other ≡ true → one ≡ other
alike_same kind.AlphanumericEdited kind.AlphanumericEdited e = refl
alike_same kind.AlphanumericEdited kind.Group e = absurd cc
alike_same kind.AlphanumericEdited (kind.Alphabetic justified) e = absurd cc
alike_same kind.AlphanumericEdited (kind.Alphanumeric justified) e = absurd cc
alike_same kind.AlphanumericEdited (kind.NumericEdited blank) e = absurd cc
alike_same kind.AlphanumericEdited (kind.Numeric numeric) e = absurd cc
alike_same (kind.NumericEdited true) (kind.NumericEdited true) e = refl
alike_same (kind.NumericEdited false) (kind.NumericEdited false) e = refl
alike_same (kind.NumericEdited true) (kind.NumericEdited false) e = absurd cc
alike_same (kind.NumericEdited false) (kind.NumericEdited true) e = absurd cc
alike_same (kind.NumericEdited true) kind.AlphanumericEdited e = absurd cc
alike_same (kind.NumericEdited true) kind.Group e = absurd cc
alike_same (kind.NumericEdited true) (kind.Alphabetic justified) e = absurd cc
alike_same (kind.NumericEdited true) (kind.Alphanumeric justified) e = absurd cc
alike_same (kind.NumericEdited true) (kind.Numeric numeric) e = absurd cc
alike_same (kind.NumericEdited false) kind.AlphanumericEdited e = absurd cc
alike_same (kind.NumericEdited false) kind.Group e = absurd cc
alike_same (kind.NumericEdited false) (kind.Alphabetic justified) e = absurd cc
alike_same (kind.NumericEdited false) (kind.Alphanumeric justified) e = absurd cc
alike_same (kind.NumericEdited false) (kind.Numeric numeric) e = absurd cc
alike_same kind.Group other e = absurd cc
alike_same (kind.Alphabetic justified) other e = absurd cc
alike_same (kind.Alphanumeric justified) other e = absurd cc
alike_same (kind.Numeric numeric) other e = absurd cc

plain_else : (one : Kind) → edited_alike one one ≡ false → IsPlainKind one
plain_else kind.AlphanumericEdited e = absurd cc
plain_else (kind.NumericEdited true) e = absurd cc
plain_else (kind.NumericEdited false) e = absurd cc
plain_else kind.Group e = tt
plain_else (kind.Alphabetic justified) e = tt
plain_else (kind.Alphanumeric justified) e = tt
plain_else (kind.Numeric numeric) e = tt

-- ---- the record of an FD that has only one

same_either : (test : Bool) (n : ℕ) → (if test then n else n) ≡ n
same_either true n = refl
same_either false n = refl

-- an only record, where it stands
abbrev pub only_record : ℕ → ItemEntry → Forest → DataItem
only_record area one inner = record {
  item = item_with nothing_around one inner;
  editing = editing_of nothing_around one;
  area = area;
  offset = 0;
}

module _ (P : DataItem → Type 0) where
  abbrev OfPlaced : LocatedItem → Type 0
  OfPlaced one = P (data_item one)

  record_at :
      (area : ℕ) (file : Name) (records : Forest) (one : ItemEntry) (conditions : List ConditionEntry) (inner : Forest)
      → records ≡ Tree one conditions inner End → AllByRecursion OfPlaced (record_places area file records)
      → P (only_record area one inner)
  record_at area file records one conditions inner is all =
      let there = subst (λ (f : Forest). AllByRecursion OfPlaced (record_places area file f)) is all in
      subst (λ (n : ℕ). P (record (only_record area one inner) { offset = n })) (same_either (redefines one) 0) there.0

  -- the FD of a name, or a later one
  by_name :
      (test : Bool) (area : ℕ) (name : Name) (file : FileDescription) (more : List FileDescription) (one : ItemEntry)
      (conditions : List ConditionEntry) (inner : Forest)
      → (let there : DescribedFile =
      if test then record { area = area; entries = file.entries } else described_file (area + 1) name more in
      (test || is_among name (description_names more)) ≡ true → forest_of there.entries ≡ Tree one conditions inner End
      → AllByRecursion OfPlaced (record_places area file.name (forest_of file.entries))
      → (is_among name (description_names more) ≡ true
      → forest_of (described_file (area + 1) name more).entries ≡ Tree one conditions inner End
      → P (only_record (described_file (area + 1) name more).area one inner))
      → P (only_record there.area one inner))
  by_name true area name file more one conditions inner among is here rest =
      record_at area file.name (forest_of file.entries) one conditions inner is here
  by_name false area name file more one conditions inner among is here rest = rest among is

  record_so : (area : ℕ) (name : Name) (files : List FileDescription) (one : ItemEntry)
      (conditions : List ConditionEntry) (inner : Forest)
      → is_among name (description_names files) ≡ true
      → forest_of (described_file area name files).entries ≡ Tree one conditions inner End
      → AllByRecursion OfPlaced (file_places area files)
      → P (only_record (described_file area name files).area one inner)
  record_so area name [] one conditions inner among is all = absurd cc
  record_so area name (file ∷ more) one conditions inner among is all =
      let records = record_places area file.name (forest_of file.entries) in
      by_name (same name file.name) area name file more one conditions inner among is
      (all_front OfPlaced records (file_places (area + 1) more) all)
      (λ among is. record_so (area + 1) name more one conditions inner among is
      (all_back OfPlaced records (file_places (area + 1) more) all))

-- ---- the length of records

length_kept : (one : FileDescription) → description_rules one ≡ []
    → are_some most_record_bytes (record_length one.entries) ≡ true
length_kept one e =
    let levels = each level_rules one.entries in
    let lost = each homeless (leading_conditions one.entries) in
    let forest = forest_rules (outermost true) None (forest_of one.entries) in
    let size = where_so (not (are_some most_record_bytes (record_length one.entries))) 69 one.name.place in
    not_false (are_some most_record_bytes (record_length one.entries))
    (kept (not (are_some most_record_bytes (record_length one.entries))) 69 one.name.place
    (right_none (levels ++ lost ++ forest) size e))

length_by : (test : Bool) (area : ℕ) (name : Name) (file : FileDescription) (more : List FileDescription)
    → (let there : DescribedFile =
    if test then record { area = area; entries = file.entries } else described_file (area + 1) name more in
    (test || is_among name (description_names more)) ≡ true → description_rules file ≡ []
    → (is_among name (description_names more) ≡ true
    → are_some most_record_bytes (record_length (described_file (area + 1) name more).entries) ≡ true)
    → are_some most_record_bytes (record_length there.entries) ≡ true)
length_by true area name file more among e rest = length_kept file e
length_by false area name file more among e rest = rest among

described_length : (area : ℕ) (name : Name) (files : List FileDescription)
    → is_among name (description_names files) ≡ true
    → each description_rules files ≡ []
    → are_some most_record_bytes (record_length (described_file area name files).entries) ≡ true
described_length area name [] among e = absurd cc
described_length area name (file ∷ more) among e =
    length_by (same name file.name) area name file more among
    (left_none (description_rules file) (each description_rules more) e)
    (λ among. described_length (area + 1) name more among
    (right_none (description_rules file) (each description_rules more) e))

-- ---- what is sent

same_parts : (one other : Kind) (n m : ℕ) → one ≡ other → n ≡ m
    → (let x : Item = record { kind = one; length = n } in let y : Item = record { kind = other; length = m } in x ≡ y)
same_parts one other n m p q = cc

same_item : (one other : Item) → one.kind ≡ other.kind → one.length ≡ other.length → one ≡ other
same_item one other p q = same_parts one.kind other.kind one.length other.length p q

and_front : (a b : Bool) → (a && b) ≡ true → a ≡ true
and_front true b e = refl
and_front false b e = absurd cc

and_back : (a b : Bool) → (a && b) ≡ true → b ≡ true
and_back true b e = e
and_back false b e = absurd cc

and_false : (a b c : Bool) → (a && b && c) ≡ false → a ≡ true → c ≡ true → b ≡ false
and_false true b true e f g = grind (arith)
and_false true b false e f g = absurd cc
and_false false b c e f g = absurd cc

equal_is : (n m : ℕ) → (n == m) ≡ true → n ≡ m
equal_is n m e = grind (arith, nat_tests)

is_equal : (n m : ℕ) → n ≡ m → (n == m) ≡ true
is_equal n m e = grind (arith, nat_tests)

module _ (areas : List (List ℕ)) (items : List LocatedItem) where
  -- an item of the table that is in order
  abbrev pub IsInOrder : LocatedItem → Type 0
  IsInOrder one = IsDataItem areas (data_item one)

  -- not one that edits the record
  abbrev DoesNotEdit : ProgramFile → DataItem → Type 0
  DoesNotEdit file one =
      ((one.area == file.places.area) && edited_alike one.item.kind file.sent.kind
      && (one.item.length == file.sent.length)) ≡ false

  editing_found : (file : ProgramFile) (one : LocatedItem) → IsInOrder one → edits file one ≡ true
      → IsEditing file.sent one.editing
  editing_found file one h e =
      let front = and_front ((one.area == file.places.area) && edited_alike one.item.kind file.sent.kind)
      (one.item.length == file.sent.length) e in
      let size = and_back ((one.area == file.places.area) && edited_alike one.item.kind file.sent.kind)
      (one.item.length == file.sent.length) e in
      let alike = and_back (one.area == file.places.area) (edited_alike one.item.kind file.sent.kind) front in
      subst (λ (item : Item). IsEditing item one.editing)
      (same_item one.item file.sent (alike_same one.item.kind file.sent.kind alike)
      (equal_is one.item.length file.sent.length size)) h.editing

  -- by what edits the record, or where nothing does
  editing_so : (file : ProgramFile) → AllByRecursion IsInOrder items
      → (AllByRecursion (λ (one : LocatedItem). edits file one ≡ false) items → IsPlainKind file.sent.kind)
      → (found : Option LocatedItem)
      → first (filter (edits file) items) ≡ found → IsEditing file.sent (editing_in found)
  editing_so file all none None is =
      none (none_pass (λ (one : LocatedItem). edits file one ≡ false) (edits file) items is)
  editing_so file all none (Some one) is =
      editing_found file one (first_so IsInOrder (edits file) items one all is) (first_passes (edits file) items one is)

  -- where the sent item has its form and lies in the area
  sent_so : (file : ProgramFile) → AllByRecursion IsInOrder items
      → (AllByRecursion (λ (one : LocatedItem). edits file one ≡ false) items → IsPlainKind file.sent.kind)
      → IsItem file.sent → Lies areas (sent_entry items file) 0 → IsDataItem areas (sent_entry items file)
  sent_so file all none form lies =
      record { form = form; editing = editing_so file all none (first (filter (edits file) items)) refl; lies = lies }

  -- an area of this length
  area_there : (n size : ℕ) → n < length areas → length (slice_index_or areas n []) ≡ size
      → (area : List ℕ) × (slice_get areas n ≡ Some area) × (length area ≡ size)
  area_there n size within e = (slice_index_or areas n [], slice_get-get_or areas n [] within, e)

  module _ (storage : List LocatedItem) (first_area : ℕ) (files : List FileDescription) (name : Name)
      (file : ProgramFile)
      (split : items ≡ storage ++ file_places first_area files) (among : is_among name (description_names files) ≡ true)
      (rules : each description_rules files ≡ []) (all : AllByRecursion IsInOrder items) where
    abbrev there : DescribedFile
    there = described_file first_area name files

    of_records : (P : LocatedItem → Type 0) → AllByRecursion P items → AllByRecursion P (file_places first_area files)
    of_records P h = all_back P storage (file_places first_area files) (subst (AllByRecursion P) split h)

    -- several records, or none
    group_so : file.sent ≡ group (record_length there.entries) → file.places.area < length areas
        → length (slice_index_or areas file.places.area []) ≡ record_length there.entries
        → IsDataItem areas (sent_entry items file)
    group_so is within long =
        let size = described_length first_area name files among rules in
        let bounds : (1 ≤ record_length there.entries) × (record_length there.entries ≤ 16000) =
        bounds_of (record_length there.entries) size in
        let low = bounds.0 in
        let high = bounds.1 in
        let area = area_there file.places.area (record_length there.entries) within long in
        let size_is : length area.0 ≡ record_length there.entries = area.2 in
        let sent_is : file.sent.length ≡ record_length there.entries = ap (λ (item : Item). item.length) is in
        sent_so file all (λ none. subst (λ (item : Item). IsPlainKind item.kind) (sym is) tt)
        (subst IsItem (sym is) (low, omega arith)) (record { area = area.0; here = area.1; within = omega arith })
      where
        bounds_of : (n : ℕ) → are_some most_record_bytes n ≡ true → (1 ≤ n) × (n ≤ 16000)
        bounds_of n e = (grind (arith, nat_tests), grind (arith, nat_tests))

    -- the only record
    record_is : (one : ItemEntry) (conditions : List ConditionEntry) (inner : Forest)
        → forest_of there.entries ≡ Tree one conditions inner End
        → file.sent ≡ item_with nothing_around one inner → file.places.area ≡ there.area
        → IsDataItem areas (sent_entry items file)
    record_is one conditions inner is sent area =
        let here =
        record_so (IsDataItem areas) first_area name files one conditions inner among is (of_records IsInOrder all) in
        let none = λ (none : AllByRecursion (λ (one : LocatedItem). edits file one ≡ false) items).
        let not_it = record_so (DoesNotEdit file) first_area name files one conditions inner among is
        (of_records (λ (one : LocatedItem). edits file one ≡ false) none) in
        let item : Item = item_with nothing_around one inner in
        let not_alike : edited_alike item.kind file.sent.kind ≡ false =
        and_false (there.area == file.places.area) (edited_alike item.kind file.sent.kind)
        (item.length == file.sent.length) not_it
        (is_equal there.area file.places.area (sym area))
        (is_equal item.length file.sent.length (ap (λ (i : Item). i.length) (sym sent))) in
        plain_else file.sent.kind
        (subst (λ (i : Item). edited_alike i.kind file.sent.kind ≡ false) (sym sent) not_alike) in
        let lies = here.lies in
        let size : file.sent.length ≡ (item_with nothing_around one inner).length = ap (λ (i : Item). i.length) sent in
        let within = lies.within in
        sent_so file all none (subst IsItem (sym sent) here.form)
        (record {
          area = lies.area;
          here = subst (λ n. slice_get areas n ≡ Some lies.area) (sym area) lies.here;
          within = omega arith;
        })

    -- by the records
    sent_by : (records : Forest) → forest_of there.entries ≡ records
        → file.sent ≡ sent_of (record_length there.entries) records
        → file.places.area ≡ there.area → file.places.area < length areas
        → length (slice_index_or areas file.places.area []) ≡ record_length there.entries
        → IsDataItem areas (sent_entry items file)
    sent_by End is sent area within long = group_so sent within long
    sent_by (Tree one conditions inner End) is sent area within long = record_is one conditions inner is sent area
    sent_by (Tree one conditions inner (Tree other more deeper next)) is sent area within long =
        group_so sent within long

    pub sent_is_item : file.sent ≡ sent_of (record_length there.entries) (forest_of there.entries)
        → file.places.area ≡ there.area
        → file.places.area < length areas
        → length (slice_index_or areas file.places.area []) ≡ record_length there.entries
        → IsDataItem areas (sent_entry items file)
    sent_is_item = sent_by (forest_of there.entries) refl
