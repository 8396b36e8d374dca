-- The rules of items and files, by the items that a program declares.
use Rattle.std.proofs.Common.{◌≡◌, ℕ, List, [], ◌++◌, Ok, Err, sym, ap, subst, ◌∙◌, append_assoc}
use Rattle.std.specs.Prelude.{Result, IfOk, map}
use Rattle.std.specs.Result.{result_map_both}
use Rattle.source_tree.specs.declared.program.Program.{Program}
use Rattle.source_tree.specs.Broken.{RuleBreach, each}
use Rattle.source_tree.specs.EntryRules.{entry_rules}
use Rattle.source_tree.specs.FileRules.{descriptions_rules, program_file_rules, select_rules}
use Rattle.source_tree.specs.Records.{program_items, storage_areas}
use Rattle.layout.specs.Placing.{placed_item}
use Rattle.name_table.specs.Items.{called_item}
use Rattle.entry_rules.specs.Checks.{IsFirst, IsFirstFault, fault_of}
use Rattle.entry_rules.specs.RecordAreas.{length_of}
use Rattle.entry_rules.specs.declared.rule.CheckError.{CheckError}
use Rattle.declarations.specs.declared.declared_items.DeclaredItems.{DeclaredItems}
use Rattle.declarations.specs.Data.{with_data}
use Rattle.declarations.specs.Declaring.{file_rules, data_rules, selects_rules, item_rules}
use Rattle.declarations.specs.Found.{AreDeclared, HasItems, data_of, items_of}
use Rattle.declarations.proofs.Declared.{same_data}
use Rattle.declarations.proofs.Firsts.{right_none}

-- the rules of the SELECTs of some data
abbrev pub of_selects : Program → List RuleBreach
of_selects given =
    each (select_rules (program_items given) (storage_areas given.storage) given.files) given.selects

module _ (program : Program) (all : DeclaredItems) (h : HasItems program all) where
  same : data_of all ≡ with_data program.selects program.files program.storage
  same =
      same_data program all.selects.now all.descriptions.now all.storage.now h.selects h.descriptions h.storage

  same_items : items_of all ≡ program_items program
  same_items = ap program_items same

  pub are_declared : AreDeclared all
  are_declared = record {
    table = h.table;
    calls = h.calls ∙ ap (map called_item) (sym same_items);
    items = h.items ∙ ap (map placed_item) (sym same_items);
  }

  pub storage_kept : entry_rules program.storage ≡ [] → entry_rules all.storage.now ≡ []
  storage_kept e = ap entry_rules h.storage ∙ e

  pub files_kept : descriptions_rules program.storage program.files ≡ []
      → descriptions_rules all.storage.now all.descriptions.now ≡ []
  files_kept e = ap (λ l. descriptions_rules l all.descriptions.now) h.storage
      ∙ ap (λ l. descriptions_rules program.storage l) h.descriptions ∙ e

  pub lengths_are : (lengths : List ℕ) → lengths ≡ map length_of program.files
      → lengths ≡ map length_of all.descriptions.now
  lengths_are lengths e = e ∙ ap (map length_of) (sym h.descriptions)

  -- What is found of the SELECTs is the first of all, where the entries keep their rules.
  pub all_ruled : (result : Result (Unit {0}) CheckError) → data_rules program ≡ []
      → IsFirstFault result (of_selects (data_of all)) → IsFirstFault result (item_rules program)
  all_ruled result none found =
      let whole : item_rules program ≡ of_selects (data_of all) =
      sym (append_assoc (entry_rules program.storage) (file_rules program) (selects_rules program))
      ∙ ap (λ l. l ++ selects_rules program) none ∙ sym (ap of_selects same) in
      subst (IsFirstFault result) (sym whole) found

-- ---- what was made, where something after it failed or not

pub none_failed : {A B E : Type 0} (first : A) (second : Result B E) (held : A) (end : B)
    → result_map_both {U = A × B} (λ b. (first, b)) (λ e. e) second ≡ Ok (held, end)
    → (held ≡ first) × (second ≡ Ok end)
none_failed {A} {B} first (Ok b) held end h =
    let same : ◌≡◌ {A = A × B} (held, end) (first, b) = cc in
    (ap (λ (pair : A × B). pair.0) same, ap (λ (pair : A × B). Ok pair.1) (sym same))
none_failed first (Err e) held end h = absurd cc

pub second_failed : {A B E : Type 0} (first : A) (second : Result B E) (error : E)
    → result_map_both {U = A × B} (λ b. (first, b)) (λ e. e) second ≡ Err error → second ≡ Err error
second_failed first (Ok b) error h = absurd cc
second_failed first (Err e) error h = let same : e ≡ error = cc in ap Err same

pub second_made : {A B E : Type 0} (first : A) (second : Result B E) (both : A × B)
    → result_map_both {U = A × B} (λ b. (first, b)) (λ e. e) second ≡ Ok both → second ≡ Ok both.1
second_made {A} {B} first (Ok b) both h =
    let same : ◌≡◌ {A = A × B} (first, b) both = cc in ap (λ (pair : A × B). Ok pair.1) same
second_made first (Err e) both h = absurd cc

-- The same of three that were made one after another.
pub three_held : {A B C D E F G : Type 0} (a : A) (second : Result B E) (third : Result C F) (fourth : Result D G)
    (two : A × B) (three : (A × B) × C) (a' : A) (b' : B) (c' : C) (d' : D)
    → result_map_both {U = A × B} (λ b. (a, b)) (λ e. e) second ≡ Ok two
    → result_map_both {U = (A × B) × C} (λ c. (two, c)) (λ e. e) third ≡ Ok three
    → result_map_both {U = ((A × B) × C) × D} (λ d. (three, d)) (λ e. e) fourth ≡ Ok (((a', b'), c'), d')
    → (a' ≡ a) × (second ≡ Ok b') × (third ≡ Ok c') × (fourth ≡ Ok d')
three_held a (Err e) third fourth two three a' b' c' d' h i j = absurd cc
three_held a (Ok b) (Err e) fourth two three a' b' c' d' h i j = absurd cc
three_held a (Ok b) (Ok c) (Err e) two three a' b' c' d' h i j = absurd cc
three_held {A} {B} {C} {D} a (Ok b) (Ok c) (Ok d) two three a' b' c' d' h i j =
    let first : ◌≡◌ {A = A × B} (a, b) two = cc in
    let next : ◌≡◌ {A = (A × B) × C} (two, c) three = cc in
    let last : ◌≡◌ {A = ((A × B) × C) × D} (three, d) (((a', b'), c'), d') = cc in
    let whole : ◌≡◌ {A = ((A × B) × C) × D} (((a, b), c), d) (((a', b'), c'), d') =
    ◌∙◌ {b = ((two, c), d)} (ap (λ (x : A × B). ((x, c), d)) first)
    (◌∙◌ {b = (three, d)} (ap (λ (x : (A × B) × C). (x, d)) next) last) in (
      sym (ap (λ (x : ((A × B) × C) × D). x.0.0.0) whole),
      ap (λ (x : ((A × B) × C) × D). Ok x.0.0.1) whole,
      ap (λ (x : ((A × B) × C) × D). Ok x.0.1) whole,
      ap (λ (x : ((A × B) × C) × D). Ok x.1) whole,
    )

pub of_ok : {A E : Type 0} (P : A → Type 0) (r : Result A E) (x : A) → IfOk r P → r ≡ Ok x → P x
of_ok P r x h e = subst (λ r. IfOk r P) e h

pub kept_rules : (program : Program) (result : Result (Unit {0}) CheckError) (end : Unit {0})
    → result ≡ Ok end → IsFirstFault result (item_rules program) → item_rules program ≡ []
kept_rules program result end e h = subst (λ r. IsFirstFault r (item_rules program)) e h

pub first_fault : (program : Program) (result : Result (Unit {0}) CheckError) (error : CheckError)
    → result ≡ Err error → IsFirstFault result (item_rules program) → IsFirst (fault_of error) (item_rules program)
first_fault program result error e h = subst (λ r. IsFirstFault r (item_rules program)) e h

pub kept_files : (program : Program) → item_rules program ≡ []
    → program_file_rules (program_items program) program ≡ []
kept_files program e = right_none (entry_rules program.storage) (program_file_rules (program_items program) program) e
