-- The condition names along the flat lists of entries are those of the items.
use Rattle.std.proofs.Common.{◌≡◌, ℕ, suc, ◌+◌, ◌-◌, ◌*◌, ◌<◌, Bool, true, false, if◌then◌else◌, List, [], ◌∷◌, ◌++◌}
use Rattle.std.proofs.Common.{length, drop, get_or, Some, refl, sym, ap, subst, ◌∙◌, append_assoc, drop-cons, add-one}
use Rattle.std.proofs.Common.{◌≤◌, arith}
use Rattle.std.specs.Prelude.{map, slice_get, nat_lt}
use Rattle.std.specs.Option.{option_map}
use Rattle.std.proofs.lemmas.List.{map-append, append-nil, length-map, length-append}
use Rattle.std.proofs.lemmas.Option.{slice_get-map, get_or_from_slice_get}
use Rattle.source_tree.specs.declared.name.Name.{Name}
use Rattle.source_tree.specs.declared.entry.ItemEntry.{ItemEntry}
use Rattle.source_tree.specs.declared.entry.ConditionEntry.{ConditionEntry}
use Rattle.source_tree.specs.declared.entry.Entry.{Entry}
use Rattle.source_tree.specs.declared.entry.Entry.TheVariants.{Item, Condition}
use Rattle.source_tree.specs.declared.select.FileDescription.{FileDescription}
use Rattle.source_tree.specs.declared.program.Program.{Program}
use Rattle.source_tree.specs.Levels.{Forest, End, Tree, level_of, deeper, beyond, leading_conditions, forest_of}
use Rattle.source_tree.specs.Clauses.{occurrences}
use Rattle.source_tree.specs.Rooms.{redefines, item_with}
use Rattle.source_tree.specs.Places.{LocatedItem, Surroundings, within, places, top, storage_places, items_of}
use Rattle.source_tree.specs.Records.{storage_areas, record_places, file_places, program_items}
use Rattle.source_tree.specs.LookUp.{NamedCondition, conditions_of, all_conditions}
use Rattle.name_table.specs.declared.conditions.ConditionNames.{ConditionNames}
use Rattle.name_table.specs.Positions.{NamePath, empty_path}
use Rattle.name_table.specs.Items.{called_item}
use Rattle.name_table.specs.Table.{IsTable, calls_in}
use Rattle.name_table.specs.declared.conditions.DeclaredCondition.{DeclaredCondition}
use Rattle.name_table.specs.Conditions.{called_condition, pair_of, pairs_in, condition_at, condition_of, item_numbers}
use Rattle.name_table.specs.Conditions.{AreConditions}
use Rattle.name_table.specs.Passing.{of_last, conditions_after, item_count, behind_records, record_item_count}
use Rattle.name_table.specs.Passing.{AreCalled}

-- the condition names of each item, in order
abbrev lists : Forest → List (List ConditionEntry)
lists End = []
lists (Tree one conditions inner next) = conditions ∷ (lists inner ++ lists next)

-- each with the number of its item, of which the first has this one
abbrev numbered : ℕ → List (List ConditionEntry) → List (ConditionEntry × ℕ)
numbered n [] = []
numbered n (one ∷ more) = map (λ c. (c, n)) one ++ numbered (suc n) more

-- ---- the flat list's are the tree's

split_by : (b : Bool) (one : ItemEntry) (conditions : List ConditionEntry) (inner front back next : Forest)
    → lists front ++ lists back ≡ lists next
    → lists (if b then Tree one conditions inner front else End)
    ++ lists (if b then back else Tree one conditions inner next) ≡ conditions ∷ (lists inner ++ lists next)
split_by true one conditions inner front back next e =
    ap (λ l. conditions ∷ l) (append_assoc (lists inner) (lists front) (lists back) ∙ ap (λ l. lists inner ++ l) e)
split_by false one conditions inner front back next e = refl

split : (level : ℕ) (F : Forest) → lists (deeper level F) ++ lists (beyond level F) ≡ lists F
split level End = refl
split level (Tree one conditions inner next) = split_by (nat_lt level (level_of one)) one conditions inner
    (deeper level next) (beyond level next) next (split level next)

passed : (before n : ℕ) (one : ConditionEntry) → before ≤ n → of_last before (suc n) one ≡ (one, n) ∷ []
passed before n one h = by (nat_lt before (suc n)) (grind arith)
  where
    by : (b : Bool) → b ≡ true
        → ◌≡◌ {A = List (ConditionEntry × ℕ)} (if b then (one, suc n - 1) ∷ [] else []) ((one, n) ∷ [])
    by true e = let same : suc n - 1 ≡ n = omega arith in ap (λ (m : ℕ). (one, m) ∷ []) same
    by false e = cc

none_passed : (n : ℕ) (one : ConditionEntry) → of_last n n one ≡ []
none_passed n one = by (nat_lt n n) (grind arith)
  where
    by : (b : Bool) → b ≡ false → ◌≡◌ {A = List (ConditionEntry × ℕ)} (if b then (one, n - 1) ∷ [] else []) []
    by true e = cc
    by false e = refl

after : (before n : ℕ) (entries : List Entry) → before ≤ n → conditions_after before (suc n) entries ≡ map (λ c. (c, n))
    (leading_conditions entries) ++ numbered (suc n) (lists (forest_of entries))
after before n [] h = refl
after before n (Item one ∷ more) h =
    after before (suc n) more (omega arith) ∙ sym (ap (λ l. map (λ c. (c, suc n)) (leading_conditions more)
    ++ numbered (suc (suc n)) l) (split (level_of one) (forest_of more)))
after before n (Condition one ∷ more) h = ap (λ l. l ++ conditions_after before (suc n) more) (passed before n one h)
    ∙ ap (λ l. (one, n) ∷ l) (after before n more h)

from_start : (n : ℕ) (entries : List Entry) → conditions_after n n entries ≡ numbered n (lists (forest_of entries))
from_start n [] = refl
from_start n (Item one ∷ more) = after n n more (omega arith) ∙ sym (ap
    (λ l. map (λ c. (c, n)) (leading_conditions more) ++ numbered (suc n) l) (split (level_of one) (forest_of more)))
from_start n (Condition one ∷ more) = ap (λ l. l ++ conditions_after n n more) (none_passed n one) ∙ from_start n more

counted : (entries : List Entry) → item_count entries ≡ length (lists (forest_of entries))
counted [] = refl
counted (Item one ∷ more) = ap suc (counted more ∙ sym (ap length (split (level_of one) (forest_of more))))
counted (Condition one ∷ more) = counted more

-- ---- the tree's are the items'

of_group : (around : Surroundings) (last here : ℕ) (F : Forest)
    → map (λ (p : LocatedItem). p.conditions) (places around last here F) ≡ lists F
of_group around last here End = refl
of_group around last here (Tree one conditions inner next) =
    let at : ℕ = if redefines one then last else here in
    let item = item_with around.around one inner in
    let further : ℕ = here + (if redefines one then 0 else occurrences one * item.length) in
    ap (λ l. conditions ∷ l) (map-append (λ (p : LocatedItem). p.conditions)
    (places (within around one item) at at inner) (places around at further next)
    ∙ ap (λ l. l ++ map (λ (p : LocatedItem). p.conditions) (places around at further next))
    (of_group (within around one item) at at inner)
    ∙ ap (λ l. lists inner ++ l) (of_group around at further next))

of_storage : (areas : ℕ) (F : Forest) → map (λ (p : LocatedItem). p.conditions) (storage_places areas F) ≡ lists F
of_storage areas End = refl
of_storage areas (Tree one conditions inner next) =
    let area : ℕ = if redefines one then areas - 1 else areas in
    map-append (λ (p : LocatedItem). p.conditions) (places (top area []) 0 0 (Tree one conditions inner End))
    (storage_places (area + 1) next)
    ∙ ap (λ l. l ++ map (λ (p : LocatedItem). p.conditions) (storage_places (area + 1) next))
    (of_group (top area []) 0 0 (Tree one conditions inner End) ∙ append-nil (conditions ∷ lists inner))
    ∙ ap (λ l. (conditions ∷ lists inner) ++ l) (of_storage (area + 1) next)

of_records : (area : ℕ) (file : Name) (F : Forest)
    → map (λ (p : LocatedItem). p.conditions) (record_places area file F) ≡ lists F
of_records area file End = refl
of_records area file (Tree one conditions inner next) =
    map-append (λ (p : LocatedItem). p.conditions) (places (top area (file ∷ [])) 0 0 (Tree one conditions inner End))
    (record_places area file next)
    ∙ ap (λ l. l ++ map (λ (p : LocatedItem). p.conditions) (record_places area file next))
    (of_group (top area (file ∷ [])) 0 0 (Tree one conditions inner End) ∙ append-nil (conditions ∷ lists inner))
    ∙ ap (λ l. (conditions ∷ lists inner) ++ l) (of_records area file next)

numbered_append : (n : ℕ) (xs ys : List (List ConditionEntry))
    → numbered n (xs ++ ys) ≡ numbered n xs ++ numbered (n + length xs) ys
numbered_append n [] ys = let same : n ≡ n + 0 = omega arith in ap (λ m. numbered m ys) same
numbered_append n (one ∷ more) ys =
    let same : suc n + length more ≡ n + suc (length more) = omega arith in
    ap (λ l. map (λ c. (c, n)) one ++ l)
    (numbered_append (suc n) more ys ∙ ap (λ m. numbered (suc n) more ++ numbered m ys) same)
    ∙ sym (append_assoc (map (λ c. (c, n)) one) (numbered (suc n) more) (numbered (n + suc (length more)) ys))

-- those of the records of files, where so many items stand before them
of_files : (area n : ℕ) (files : List FileDescription)
    → behind_records n files ≡ numbered n (map (λ (p : LocatedItem). p.conditions) (file_places area files))
of_files area n [] = refl
of_files area n (one ∷ more) =
    let own = lists (forest_of one.entries) in
    let rest = map (λ (p : LocatedItem). p.conditions) (file_places (area + 1) more) in
    ap (λ l. l ++ behind_records (n + item_count one.entries) more) (from_start n one.entries)
    ∙ ap (λ l. numbered n own ++ l) (of_files (area + 1) (n + item_count one.entries) more)
    ∙ ap (λ m. numbered n own ++ numbered (n + m) rest) (counted one.entries)
    ∙ sym (numbered_append n own rest)
    ∙ ap (λ l. numbered n (l ++ rest)) (sym (of_records area one.name (forest_of one.entries)))
    ∙ ap (numbered n) (sym (map-append (λ (p : LocatedItem). p.conditions)
    (record_places area one.name (forest_of one.entries)) (file_places (area + 1) more)))

records_counted : (area : ℕ) (files : List FileDescription) → record_item_count files ≡ length (file_places area files)
records_counted area [] = refl
records_counted area (one ∷ more) =
    let own = counted one.entries in
    let same = ap length (of_records area one.name (forest_of one.entries)) in
    let mapped = length-map (record_places area one.name (forest_of one.entries)) (λ (p : LocatedItem). p.conditions) in
    let rest = records_counted (area + 1) more in
    let both = length-append (record_places area one.name (forest_of one.entries)) (file_places (area + 1) more) in
    omega arith

module _ {B : Type 0} (items : List LocatedItem) (told : ConditionEntry × ℕ → B)
    (meant : NamedCondition → B) (same : (c : ConditionEntry) (n : ℕ) (one : LocatedItem) → slice_get items n ≡ Some one
    → told (c, n) ≡ meant (record { condition = c; item = one })) where
  of_item : (n : ℕ) (one : LocatedItem) → slice_get items n ≡ Some one → (conditions : List ConditionEntry)
      → map told (map (λ c. (c, n)) conditions) ≡ map meant (conditions_of one conditions)
  of_item n one e [] = refl
  of_item n one e (c ∷ more) = ap (λ x. x ∷ map told (map (λ c. (c, n)) more)) (same c n one e)
      ∙ ap (λ l. meant (record { condition = c; item = one }) ∷ l) (of_item n one e more)

  of_items : (n : ℕ) (rest : List LocatedItem)
      → ((i : ℕ) (one : LocatedItem) → slice_get rest i ≡ Some one → slice_get items (n + i) ≡ Some one)
      → map told (numbered n (map (λ (p : LocatedItem). p.conditions) rest)) ≡ map meant (all_conditions rest)
  of_items n [] at = refl
  of_items n (one ∷ more) at =
      map-append told (map (λ c. (c, n)) one.conditions)
      (numbered (suc n) (map (λ (p : LocatedItem). p.conditions) more))
      ∙ ap (λ l. l ++ map told (numbered (suc n) (map (λ (p : LocatedItem). p.conditions) more)))
      (of_item n one (subst (λ m. slice_get items m ≡ Some one) (omega arith) (at 0 one refl)) one.conditions)
      ∙ ap (λ l. map meant (conditions_of one one.conditions) ++ l)
      (of_items (suc n) more (λ i x e. subst (λ m. slice_get items m ≡ Some x) (omega arith) (at (suc i) x e)))
      ∙ sym (map-append meant (conditions_of one one.conditions) (all_conditions more))

-- what is told of a program's
abbrev program_pairs : Program → List (ConditionEntry × ℕ)
program_pairs program =
    conditions_after 0 0 program.storage ++ behind_records (item_count program.storage) program.files

of_program : (program : Program)
    → program_pairs program ≡ numbered 0 (map (λ (p : LocatedItem). p.conditions) (program_items program))
of_program program =
    let area = storage_areas program.storage in
    let storage = lists (forest_of program.storage) in
    let records = map (λ (p : LocatedItem). p.conditions) (file_places area program.files) in
    ap (λ l. l ++ behind_records (item_count program.storage) program.files) (from_start 0 program.storage)
    ∙ ap (λ l. numbered 0 storage ++ l) (of_files area (item_count program.storage) program.files)
    ∙ ap (λ m. numbered 0 storage ++ numbered m records) (let same =
    counted program.storage in let sum : item_count program.storage ≡ 0 + length storage = omega arith in sum)
    ∙ sym (numbered_append 0 storage records)
    ∙ ap (λ l. numbered 0 (l ++ records)) (sym (of_storage 0 (forest_of program.storage)))
    ∙ ap (numbered 0)
    (sym (map-append (λ (p : LocatedItem). p.conditions) (items_of program.storage) (file_places area program.files)))

told_all : {B : Type 0} (program : Program) (told : ConditionEntry × ℕ → B) (meant : NamedCondition → B)
    → ((c : ConditionEntry) (n : ℕ) (one : LocatedItem) → slice_get (program_items program) n ≡ Some one
    → told (c, n) ≡ meant (record { condition = c; item = one }))
    → map told (program_pairs program) ≡ map meant (all_conditions (program_items program))
told_all program told meant same =
    ap (map told) (of_program program)
    ∙ of_items (program_items program) told meant same 0 (program_items program)
    (λ i one e. subst (λ m. slice_get (program_items program) m ≡ Some one) (omega arith) e)

pub items_are_counted : (program : Program)
    → item_count program.storage + record_item_count program.files ≡ length (program_items program)
items_are_counted program =
    let own = counted program.storage in
    let same = ap length (of_storage 0 (forest_of program.storage)) in
    let mapped = length-map (items_of program.storage) (λ (p : LocatedItem). p.conditions) in
    let rest = records_counted (storage_areas program.storage) program.files in
    let both = length-append (items_of program.storage) (file_places (storage_areas program.storage) program.files) in
    omega arith

called_at : (items : List LocatedItem) (c : ConditionEntry) (n : ℕ) (one : LocatedItem) → slice_get items n ≡ Some one
    → condition_at (map called_item items) (c, n) ≡ called_condition (record { condition = c; item = one })
called_at items c n one e =
    ap (λ (d : NamePath). condition_at (d ∷ []) (c, 0)) (get_or_from_slice_get (map called_item items) n
    (called_item one) empty_path (slice_get-map called_item items n ∙ ap (option_map called_item) e))

map_map : {A B C : Type 0} (g : B → C) (f : A → B) (xs : List A) → map g (map f xs) ≡ map (λ x. g (f x)) xs
map_map g f [] = refl
map_map g f (x ∷ more) = ap (λ l. g (f x) ∷ l) (map_map g f more)

-- ---- the numbers of their items

abbrev number : ConditionEntry × ℕ → ℕ
number pair = pair.1

numbers_from : (n : ℕ) (items : List LocatedItem)
    → map number (numbered n (map (λ (p : LocatedItem). p.conditions) items)) ≡ item_numbers n items
numbers_from n [] = refl
numbers_from n (one ∷ more) =
    map-append number (map (λ c. (c, n)) one.conditions)
    (numbered (suc n) (map (λ (p : LocatedItem). p.conditions) more))
    ∙ ap (λ l. l ++ map number (numbered (suc n) (map (λ (p : LocatedItem). p.conditions) more)))
    (map_map number (λ c. (c, n)) one.conditions)
    ∙ ap (λ l. map (λ _. n) one.conditions ++ l) (numbers_from (suc n) more)

numbers_are : (program : Program) (all : ConditionNames) → pairs_in all ≡ program_pairs program
    → map (λ (one : DeclaredCondition). one.item) all.conditions.items ≡ item_numbers 0 (program_items program)
numbers_are program all pairs = sym (map_map number pair_of all.conditions.items)
    ∙ ap (map number) (pairs ∙ of_program program) ∙ numbers_from 0 (program_items program)

pub all_told : (calls : List NamePath) (program : Program) (all : ConditionNames)
    → calls ≡ map called_item (program_items program) → AreCalled calls all
    → pairs_in all ≡ conditions_after 0 0 program.storage ++ behind_records (item_count program.storage) program.files
    → AreConditions (program_items program) all
all_told calls program all e told pairs =
    let items = program_items program in
    record {
      table = told.table;
      calls = told.calls_are ∙ ap (λ l. map (condition_at calls) l) pairs
          ∙ ap (λ (l : List NamePath). map (condition_at l) (program_pairs program)) e
          ∙ told_all program (condition_at (map called_item items)) called_condition (called_at items);
      found = sym (map_map (condition_of items) pair_of all.conditions.items) ∙ ap (map (condition_of items)) pairs
          ∙ told_all program (condition_of items) Some
          (λ c n one at. ap (option_map (λ (item : LocatedItem). record { condition = c; item = item })) at);
      numbers = numbers_are program all pairs;
    }

-- ---- the walk along entries

-- Of the entries before these, which so many items are in front of, all condition names are told, after those that
-- were there.
pub record AreTold (calls : List NamePath) (before : ℕ) (old : List (ConditionEntry × ℕ)) (entries rest : List Entry)
    (count : ℕ) (all : ConditionNames) : Type 0 where
  pub called : AreCalled calls all
  pub pairs : pairs_in all ++ conditions_after before count rest ≡ old ++ conditions_after before before entries
  pub range : count + item_count rest ≡ before + item_count entries

pub told_start : (calls : List NamePath) (entries : List Entry) (before : ℕ) (all : ConditionNames)
    → AreCalled calls all → AreTold calls before (pairs_in all) entries entries before all
told_start calls entries before all h = record { called = h; pairs = refl; range = refl }

rest_is : (entries : List Entry) (i : ℕ) (d one : Entry) → i < length entries → d ≡ get_or entries i d → d ≡ one
    → drop i entries ≡ one ∷ drop (i + 1) entries
rest_is entries i d one h is e =
    drop-cons entries i d h ∙ ap (λ k. get_or entries i d ∷ drop k entries) (sym (add-one i))
    ∙ ap (λ x. x ∷ drop (i + 1) entries) (sym is ∙ e)

some_last : (before n : ℕ) (one : ConditionEntry) → before < n → of_last before n one ≡ (one, n - 1) ∷ []
some_last before n one h = by (nat_lt before n) (grind arith)
  where
    by : (b : Bool) → b ≡ true
        → ◌≡◌ {A = List (ConditionEntry × ℕ)} (if b then (one, n - 1) ∷ [] else []) ((one, n - 1) ∷ [])
    by true e = refl
    by false e = cc

no_last : (before n : ℕ) (one : ConditionEntry) → n ≤ before → of_last before n one ≡ []
no_last before n one h = by (nat_lt before n) (grind arith)
  where
    by : (b : Bool) → b ≡ false → ◌≡◌ {A = List (ConditionEntry × ℕ)} (if b then (one, n - 1) ∷ [] else []) []
    by true e = cc
    by false e = refl

module _ (calls : List NamePath) (before : ℕ) (old : List (ConditionEntry × ℕ)) (entries rest more : List Entry)
    (count : ℕ) (all : ConditionNames) where
  -- an item, of which there is room for one more
  pub item_within : (one : ItemEntry) → rest ≡ Item one ∷ more → AreTold calls before old entries rest count all
      → count + 1 ≤ before + item_count entries
  item_within one e h =
      let here : item_count rest ≡ suc (item_count more) = ap item_count e in
      let range = h.range in
      omega arith

  item_step : (one : ItemEntry) → rest ≡ Item one ∷ more → AreTold calls before old entries rest count all
      → AreTold calls before old entries more (count + 1) all
  item_step one e h =
      let here : item_count rest ≡ suc (item_count more) = ap item_count e in
      let range = h.range in
      let next : count + 1 ≡ suc count = omega arith in
      record {
        called = h.called;
        pairs = ap (λ n. pairs_in all ++ conditions_after before n more) next
            ∙ sym (ap (λ l. pairs_in all ++ conditions_after before count l) e) ∙ h.pairs;
        range = omega arith;
      }

  condition_step : (one : ConditionEntry) (new : ConditionNames) → rest ≡ Condition one ∷ more → before < count
      → IsTable new.names → calls_in new.names ≡ calls_in all.names ++ condition_at calls (one, count - 1) ∷ []
      → pairs_in new ≡ pairs_in all ++ (one, count - 1) ∷ [] → AreTold calls before old entries rest count all
      → AreTold calls before old entries more count new
  condition_step one new e some table added told h =
      let here : item_count rest ≡ item_count more = ap item_count e in
      let range = h.range in
      record {
        called = record {
          table = table;
          calls_are = added ∙ ap (λ l. l ++ condition_at calls (one, count - 1) ∷ []) h.called.calls_are
              ∙ sym (map-append (condition_at calls) (pairs_in all) ((one, count - 1) ∷ []))
              ∙ ap (map (condition_at calls)) (sym told);
        };
        pairs = ap (λ l. l ++ conditions_after before count more) told
            ∙ append_assoc (pairs_in all) ((one, count - 1) ∷ []) (conditions_after before count more)
            ∙ ap (λ l. pairs_in all ++ (l ++ conditions_after before count more))
            (sym (some_last before count one some))
            ∙ sym (ap (λ l. pairs_in all ++ conditions_after before count l) e) ∙ h.pairs;
        range = omega arith;
      }

  skipped_step : (one : ConditionEntry) → rest ≡ Condition one ∷ more → count ≤ before
      → AreTold calls before old entries rest count all → AreTold calls before old entries more count all
  skipped_step one e none h =
      let here : item_count rest ≡ item_count more = ap item_count e in
      let range = h.range in
      record {
        called = h.called;
        pairs =
            ap (λ l. pairs_in all ++ (l ++ conditions_after before count more)) (sym (no_last before count one none))
            ∙ sym (ap (λ l. pairs_in all ++ conditions_after before count l) e) ∙ h.pairs;
        range = omega arith;
      }

-- the same at an entry of the list, from which on the walk is at the next one
module _ (calls : List NamePath) (before : ℕ) (old : List (ConditionEntry × ℕ)) (entries : List Entry) (i : ℕ)
    (d : Entry) (count now : ℕ) (all new : ConditionNames) (lt : i < length entries) (is : d ≡ get_or entries i d)
    (so_far : AreTold calls before old entries (drop i entries) count all) where
  pub item_passed : (one : ItemEntry) → d ≡ Item one → now ≡ count + 1 → new ≡ all
      → AreTold calls before old entries (drop (i + 1) entries) now new
  item_passed one e counted same = rw (same, counted) (item_step calls before old entries (drop i entries)
      (drop (i + 1) entries) count all one (rest_is entries i d (Item one) lt is e) so_far)

  pub condition_added : (one : ConditionEntry) (added : ConditionNames) → d ≡ Condition one → before < count
      → IsTable added.names → calls_in added.names ≡ calls_in all.names ++ condition_at calls (one, count - 1) ∷ []
      → pairs_in added ≡ pairs_in all ++ (one, count - 1) ∷ [] → now ≡ count → new ≡ added
      → AreTold calls before old entries (drop (i + 1) entries) now new
  condition_added one added e some table more pairs counted same =
      rw (same, counted) (condition_step calls before old entries (drop i entries) (drop (i + 1) entries) count all one
      added (rest_is entries i d (Condition one) lt is e) some table more pairs so_far)

  pub condition_skipped : (one : ConditionEntry) → d ≡ Condition one → count ≤ before → now ≡ count → new ≡ all
      → AreTold calls before old entries (drop (i + 1) entries) now new
  condition_skipped one e none counted same = rw (same, counted) (skipped_step calls before old entries
      (drop i entries) (drop (i + 1) entries) count all one (rest_is entries i d (Condition one) lt is e) none so_far)
