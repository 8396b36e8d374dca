-- Files one after another: their items and their condition names.
use Rattle.std.proofs.Common.{◌≡◌, ℕ, ◌+◌, ◌<◌, ◌≤◌, List, [], ◌∷◌, ◌++◌, length, drop, get_or, refl, sym, ap, ◌∙◌}
use Rattle.std.proofs.Common.{append_assoc, drop-cons, add-one, arith}
use Rattle.source_tree.specs.declared.entry.ConditionEntry.{ConditionEntry}
use Rattle.source_tree.specs.declared.entry.Entry.{Entry}
use Rattle.source_tree.specs.declared.select.FileDescription.{FileDescription}
use Rattle.source_tree.specs.Broken.{each}
use Rattle.source_tree.specs.FileRules.{description_rules}
use Rattle.source_tree.specs.Levels.{forest_of}
use Rattle.name_table.specs.Positions.{NamePath}
use Rattle.name_table.specs.Items.{item_calls, record_calls}
use Rattle.name_table.specs.Passing.{conditions_after, item_count, behind_records, record_item_count}

pub rest_at : {A : Type 0} (xs : List A) (i : ℕ) (one : A) → i < length xs → one ≡ get_or xs i one
    → drop i xs ≡ one ∷ drop (i + 1) xs
rest_at xs i one h is = drop-cons xs i one h ∙ ap (λ k. get_or xs i one ∷ drop k xs) (sym (add-one i))
    ∙ ap (λ x. x ∷ drop (i + 1) xs) (sym is)

pub front_nil : {A : Type 0} (xs ys : List A) → xs ++ ys ≡ [] → xs ≡ []
front_nil [] ys e = refl
front_nil (x ∷ xs) ys e = cc

pub back_nil : {A : Type 0} (xs ys : List A) → xs ++ ys ≡ [] → ys ≡ []
back_nil [] ys e = e
back_nil (x ∷ xs) ys e = cc

module _ (rest more : List FileDescription) (one : FileDescription) (e : rest ≡ one ∷ more) where
  pub first_kept : each description_rules rest ≡ [] → description_rules one ≡ []
  first_kept h =
      front_nil (description_rules one) (each description_rules more) (sym (ap (each description_rules) e) ∙ h)

  pub others_kept : each description_rules rest ≡ [] → each description_rules more ≡ []
  others_kept h =
      back_nil (description_rules one) (each description_rules more) (sym (ap (each description_rules) e) ∙ h)

  pub declared_step : (new old all : List NamePath) → new ≡ old ++ item_calls (one.name ∷ []) (forest_of one.entries)
      → old ++ record_calls rest ≡ all → new ++ record_calls more ≡ all
  declared_step new old all added before =
      ap (λ l. l ++ record_calls more) added
      ∙ append_assoc old (item_calls (one.name ∷ []) (forest_of one.entries)) (record_calls more)
      ∙ ap (λ l. old ++ record_calls l) (sym e) ∙ before

  passed_step : (new old all : List (ConditionEntry × ℕ)) (count after : ℕ) → after ≡ count + item_count one.entries
      → new ≡ old ++ conditions_after count count one.entries
      → old ++ behind_records count rest ≡ all → new ++ behind_records after more ≡ all
  passed_step new old all count after counted added before =
      ap (λ n. new ++ behind_records n more) counted
      ∙ ap (λ l. l ++ behind_records (count + item_count one.entries) more) added
      ∙ append_assoc old (conditions_after count count one.entries)
      (behind_records (count + item_count one.entries) more)
      ∙ ap (λ l. old ++ behind_records count l) (sym e) ∙ before

  counted_step : (count after most : ℕ) → after ≡ count + item_count one.entries
      → count + record_item_count rest ≤ most → after + record_item_count more ≤ most
  counted_step count after most counted h =
      let here : record_item_count rest ≡ item_count one.entries + record_item_count more = ap record_item_count e in
      omega arith

  pub first_counted : (count most : ℕ) → count + record_item_count rest ≤ most → count + item_count one.entries ≤ most
  first_counted count most h =
      let here : record_item_count rest ≡ item_count one.entries + record_item_count more = ap record_item_count e in
      omega arith

-- one file more of a list
pub file_passed : (files : List FileDescription) (i : ℕ) (one : FileDescription) (entries : List Entry)
    (old new all : List (ConditionEntry × ℕ)) (count after most : ℕ) → i < length files → one ≡ get_or files i one
    → entries ≡ one.entries → after ≡ count + item_count entries → new ≡ old ++ conditions_after count count entries
    → count + record_item_count (drop i files) ≤ most → old ++ behind_records count (drop i files) ≡ all
    → (after + record_item_count (drop (i + 1) files) ≤ most)
    × (new ++ behind_records after (drop (i + 1) files) ≡ all)
file_passed files i one entries old new all count after most lt is same counted added room before =
    let rest = rest_at files i one lt is in
    let counted' = counted ∙ ap (λ l. count + item_count l) same in (
      counted_step (drop i files) (drop (i + 1) files) one rest count after most counted' room,
      passed_step (drop i files) (drop (i + 1) files) one rest new old all count after counted'
          (added ∙ ap (λ l. old ++ conditions_after count count l) same) before,
    )
