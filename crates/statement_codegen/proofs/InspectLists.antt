-- The texts and entries of INSPECT, list after list.
use Rattle.std.proofs.Common.{◌≡◌, ℕ, suc, ◌+◌, List, [], ◌∷◌, ◌++◌, length, map, refl, sym, ap}
use Rattle.std.proofs.Common.{◌∙◌, arith, append_assoc, length-append}
use Rattle.source_tree.specs.declared.inspect_statement.Tallying.{Tallying}
use Rattle.source_tree.specs.declared.inspect_statement.InspectStatement.{InspectStatement}
use Rattle.source_tree.specs.Places.{LocatedItem}
use Rattle.source_tree.specs.InspectLayout.{Source, Bytes, Characters, InspectArgument, Counter, Text, InspectEntry}
use Rattle.source_tree.specs.InspectLayout.{text_sizes}
use Rattle.source_tree.specs.InspectLayout.{taken_size, entry_texts, entries_texts, entry_at, entries_at}
use Rattle.source_tree.specs.InspectLayout.{counter_entries, tallying_takings, all_inspected, entry_counts}
use Rattle.source_tree.specs.InspectLayout.{all_replaced, takings, tallied_size, inspected_size, measured_texts}
use Rattle.data_instructions.specs.Tables.{total_length}
use Rattle.condition_codegen.proofs.Lists.{map_both}

-- ---- lists

pub all_inspected_append : {A : Type 0} (f : A → List InspectEntry) (xs ys : List A)
    → all_inspected f (xs ++ ys) ≡ all_inspected f xs ++ all_inspected f ys
all_inspected_append f [] ys = refl
all_inspected_append f (x ∷ xs) ys = ap (λ l. f x ++ l) (all_inspected_append f xs ys)
    ∙ sym (append_assoc (f x) (all_inspected f xs) (all_inspected f ys))

pub texts_append : (xs ys : List InspectEntry) → entries_texts (xs ++ ys) ≡ entries_texts xs ++ entries_texts ys
texts_append [] ys = refl
texts_append (x ∷ xs) ys = ap (λ l. entry_texts x ++ l) (texts_append xs ys)
    ∙ sym (append_assoc (entry_texts x) (entries_texts xs) (entries_texts ys))

pub takings_append : (xs ys : List Tallying) → tallying_takings (xs ++ ys) ≡ tallying_takings xs ++ tallying_takings ys
takings_append [] ys = refl
takings_append (x ∷ xs) ys =
    let texts = map Text (entries_texts (counter_entries x)) in
    ap (λ l. Counter x.counter ∷ (texts ++ l)) (takings_append xs ys)
    ∙ ap (λ l. Counter x.counter ∷ l) (sym (append_assoc texts (tallying_takings xs) (tallying_takings ys)))

pub counts_append : (xs ys : List Tallying) → entry_counts (xs ++ ys) ≡ entry_counts xs ++ entry_counts ys
counts_append [] ys = refl
counts_append (x ∷ xs) ys = ap (λ l. length (counter_entries x) ∷ l) (counts_append xs ys)

pub total_counts : (all : List Tallying) → total_length (entry_counts all) ≡ length (all_inspected counter_entries all)
total_counts [] = refl
total_counts (x ∷ xs) =
    omega (arith, total_counts xs, length-append (counter_entries x) (all_inspected counter_entries xs))

module _ (items : List LocatedItem) where
  -- ---- sizes

  pub sizes_append : (xs ys : List Source) → text_sizes items (xs ++ ys) ≡ text_sizes items xs + text_sizes items ys
  sizes_append [] ys = omega arith
  sizes_append (x ∷ xs) ys = omega (arith, sizes_append xs ys)

  pub entries_sizes : (xs ys : List InspectEntry) → text_sizes items (entries_texts (xs ++ ys)) ≡ text_sizes items
      (entries_texts xs) + text_sizes items (entries_texts ys)
  entries_sizes xs ys = ap (text_sizes items) (texts_append xs ys) ∙ sizes_append (entries_texts xs) (entries_texts ys)

  taken_append : (xs ys : List InspectArgument)
      → taken_size items (xs ++ ys) ≡ taken_size items xs + taken_size items ys
  taken_append [] ys = omega arith
  taken_append (Counter x ∷ xs) ys = taken_append xs ys
  taken_append (Text x ∷ xs) ys = omega (arith, taken_append xs ys)

  taken_texts : (xs : List Source) → taken_size items (map Text xs) ≡ text_sizes items xs
  taken_texts [] = refl
  taken_texts (x ∷ xs) = omega (arith, taken_texts xs)

  taken_tallying : (all : List Tallying)
      → taken_size items (tallying_takings all) ≡ text_sizes items (entries_texts (all_inspected counter_entries all))
  taken_tallying [] = refl
  taken_tallying (x ∷ xs) =
      let texts = entries_texts (counter_entries x) in
      let a = taken_append (map Text texts) (tallying_takings xs) in
      let b = taken_texts texts in
      let c = taken_tallying xs in
      let d = entries_sizes (counter_entries x) (all_inspected counter_entries xs) in
      omega (arith, a, b, c, d)

  -- REPLACING's texts follow TALLYING's.
  pub inspected_whole : (one : InspectStatement)
      → inspected_size items one ≡ tallied_size items one + text_sizes items (entries_texts (all_replaced items one))
  inspected_whole one =
      let texts = entries_texts (all_replaced items one) in
      let a = taken_append (tallying_takings one.tallying) (map Text texts) in
      let b = taken_tallying one.tallying in
      let c = taken_texts texts in
      omega (arith, a, b, c)

  -- ---- texts that are measured

  pub measured_both : (xs ys : List InspectArgument)
      → measured_texts items (xs ++ ys) ≡ measured_texts items xs + measured_texts items ys
  measured_both [] ys = omega arith
  measured_both (Counter x ∷ xs) ys = measured_both xs ys
  measured_both (Text (Bytes x) ∷ xs) ys = omega (arith, measured_both xs ys)
  measured_both (Text (Characters x) ∷ xs) ys = measured_both xs ys

  pub measured_sources : (xs ys : List Source) → measured_texts items (map Text (xs ++ ys))
      ≡ measured_texts items (map Text xs) + measured_texts items (map Text ys)
  measured_sources xs ys = ap (measured_texts items) (map_both Text xs ys) ∙ measured_both (map Text xs) (map Text ys)

  -- Counters are none of them.
  measured_tallying : (all : List Tallying) → measured_texts items (tallying_takings all)
      ≡ measured_texts items (map Text (entries_texts (all_inspected counter_entries all)))
  measured_tallying [] = refl
  measured_tallying (x ∷ xs) =
      let texts = entries_texts (counter_entries x) in
      let others = all_inspected counter_entries xs in
      let a = measured_both (map Text texts) (tallying_takings xs) in
      let b = measured_tallying xs in
      let c = ap (λ l. measured_texts items (map Text l)) (texts_append (counter_entries x) others)
      ∙ measured_sources texts (entries_texts others) in
      omega (arith, a, b, c)

  pub measured_whole : (one : InspectStatement) → measured_texts items (takings items one)
      ≡ measured_texts items
      (map Text (entries_texts (all_inspected counter_entries one.tallying) ++ entries_texts (all_replaced items one)))
  measured_whole one =
      let texts = entries_texts (all_replaced items one) in
      let a = measured_both (tallying_takings one.tallying) (map Text texts) in
      let b = measured_tallying one.tallying in
      let c = measured_sources (entries_texts (all_inspected counter_entries one.tallying)) texts in
      omega (arith, a, b, c)

  -- ---- entries

  pub so_many : (at : ℕ) (all : List InspectEntry) → length (entries_at items at all) ≡ length all
  so_many at [] = refl
  so_many at (x ∷ xs) = ap suc (so_many (at + text_sizes items (entry_texts x)) xs)

  pub entries_append : (at : ℕ) (xs ys : List InspectEntry) → entries_at items at (xs ++ ys) ≡ entries_at items at
      xs ++ entries_at items (at + text_sizes items (entries_texts xs)) ys
  entries_append at [] ys = ap (λ n. entries_at items n ys) (omega arith)
  entries_append at (x ∷ xs) ys =
      let here = text_sizes items (entry_texts x) in
      let sum : at + here + text_sizes items (entries_texts xs) ≡ at + text_sizes items (entries_texts (x ∷ xs)) =
      omega (arith, sizes_append (entry_texts x) (entries_texts xs)) in
      ap (λ l. entry_at items at x ∷ l)
      (entries_append (at + here) xs ys ∙ ap (λ n. entries_at items (at + here) xs ++ entries_at items n ys) sum)
