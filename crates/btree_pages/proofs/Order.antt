-- The order of keys, and keys that ascend.
use Rattle.std.proofs.Common.{◌≡◌, ℕ, ◌+◌, ◌<◌, ◌≤◌, List, [], ◌∷◌, length, take, drop, get_or, refl, sym, ap, ◌∙◌}
use Rattle.std.proofs.Common.{arith, inl, inr}
use Rattle.std.specs.declared.cmp.Ordering.{Ordering}
use Rattle.std.specs.declared.cmp.Ordering.TheVariants.{Less, Equal, Greater}
use Rattle.std.specs.Ordering.{nat_cmp, ordering_then, ordering_reverse}
use Rattle.std.specs.Cmp.Lexicographic.{slice_cmp}
use Rattle.std.proofs.lemmas.Bool.{cases_lt}
use Rattle.std.proofs.lemmas.Cmp.{ranked, nat_list_cmp_total}
use Rattle.std.proofs.lemmas.Map.Keys.{Less-from_sorted, sorted_from_all_adjacent}
use Rattle.std.proofs.lemmas.List.{get_or-map, get_or-take, get_or-drop, length-drop, length-map, length-take-le}
use Rattle.std.proofs.lemmas.List.Elements.{All-from_get_or}
use Rattle.btree_pages.specs.declared.row_layout.RowLayout.{RowLayout}
use Rattle.btree_pages.specs.Keys.{key_cmp, Precedes, Ascend, AllAbove, AllBelow, key_of, keys_of}

both_equal : (one two : Ordering) → ordering_then one two ≡ Equal → (one ≡ Equal) × (two ≡ Equal)
both_equal Less two e = cc
both_equal Equal two e = (refl, e)
both_equal Greater two e = cc

-- keys that compare as equal are one
pub same_key : (one two : List ℕ) → key_cmp one two ≡ Equal → one ≡ two
same_key [] [] e = refl
same_key [] (y ∷ ys) e = cc
same_key (x ∷ xs) [] e = cc
same_key (x ∷ xs) (y ∷ ys) e =
    let both = both_equal (nat_cmp x y) (slice_cmp nat_cmp xs ys) e in
    let first : x ≡ y = ranked x y Equal (sym both.0) in
    let rest : xs ≡ ys = same_key xs ys both.1 in
    cc

pub greater_precedes : (one two : List ℕ) → key_cmp one two ≡ Greater → Precedes two one
greater_precedes one two e = nat_list_cmp_total.antisymm two one ∙ ap ordering_reverse e

pub precedes-trans : (one two three : List ℕ) → Precedes one two → Precedes two three → Precedes one three
precedes-trans one two three p q = nat_list_cmp_total.trans one two three p q

module _ (layout : RowLayout) (rows : List (List ℕ)) (up : Ascend (keys_of layout rows)) where
  -- of two rows the first has the lesser key
  pub ordered : (i j : ℕ) → i < j → j < length rows
      → Precedes (key_of layout (get_or rows i [])) (key_of layout (get_or rows j []))
  ordered i j lt within =
      let first : get_or (keys_of layout rows) i [] ≡ key_of layout (get_or rows i []) =
      get_or-map (key_of layout) rows i [] [] (omega arith) in
      let second : get_or (keys_of layout rows) j [] ≡ key_of layout (get_or rows j []) =
      get_or-map (key_of layout) rows j [] [] within in
      let less : key_cmp (get_or (keys_of layout rows) i []) (get_or (keys_of layout rows) j []) ≡ Less =
      Less-from_sorted key_cmp (keys_of layout rows) i j [] up lt (omega (arith, length-map rows (key_of layout))) in
      sym (ap (λ (k : List ℕ). key_cmp k (key_of layout (get_or rows j []))) first)
      ∙ sym (ap (key_cmp (get_or (keys_of layout rows) i [])) second) ∙ less

  module _ (key : List ℕ) (middle : ℕ) (within : middle < length rows) where
    pub below_before : (n : ℕ) → n ≤ middle → Precedes (key_of layout (get_or rows middle [])) key
        → AllBelow layout key (take (n + 1) rows)
    below_before n le p = All-from_get_or (λ row. Precedes (key_of layout row) key) (take (n + 1) rows) [] (λ i lt.
        let long : length (take (n + 1) rows) ≡ n + 1 = length-take-le (n + 1) rows (omega arith) in
        let same : get_or (take (n + 1) rows) i [] ≡ get_or rows i [] = get_or-take (n + 1) rows i [] (omega arith) in
        ap (λ (row : List ℕ). key_cmp (key_of layout row) key) same
        ∙ elim (cases_lt i middle) [
          | inl under ↦ precedes-trans (key_of layout (get_or rows i [])) (key_of layout (get_or rows middle [])) key
              (ordered i middle under within) p
          | inr from ↦ let at : i ≡ middle = omega arith in rw at p
        ])

    pub above_after : Precedes key (key_of layout (get_or rows middle [])) → AllAbove layout key (drop middle rows)
    above_after p = All-from_get_or (λ row. Precedes key (key_of layout row)) (drop middle rows) [] (λ i lt.
        let long : length (drop middle rows) + middle ≡ length rows = omega (arith, length-drop middle rows) in
        let same : get_or (drop middle rows) i [] ≡ get_or rows (middle + i) [] = get_or-drop middle rows i [] in
        ap (λ (row : List ℕ). key_cmp key (key_of layout row)) same
        ∙ elim (cases_lt middle (middle + i)) [
          | inl under ↦ precedes-trans key (key_of layout (get_or rows middle []))
              (key_of layout (get_or rows (middle + i) [])) p (ordered middle (middle + i) under (omega arith))
          | inr from ↦ let at : middle + i ≡ middle = omega arith in rw at p
        ])

    pub below_found : key_of layout (get_or rows middle []) ≡ key → AllBelow layout key (take middle rows)
    below_found e = All-from_get_or (λ row. Precedes (key_of layout row) key) (take middle rows) [] (λ i lt.
        let long : length (take middle rows) ≡ middle = length-take-le middle rows (omega arith) in
        let same : get_or (take middle rows) i [] ≡ get_or rows i [] = get_or-take middle rows i [] (omega arith) in
        ap (λ (row : List ℕ). key_cmp (key_of layout row) key) same
        ∙ ap (key_cmp (key_of layout (get_or rows i []))) (sym e)
        ∙ ordered i middle (omega arith) within)

    pub above_found : key_of layout (get_or rows middle []) ≡ key → AllAbove layout key (drop (middle + 1) rows)
    above_found e = All-from_get_or (λ row. Precedes key (key_of layout row)) (drop (middle + 1) rows) [] (λ i lt.
        let long : length (drop (middle + 1) rows) + (middle + 1) ≡ length rows =
        omega (arith, length-drop (middle + 1) rows) in
        let same : get_or (drop (middle + 1) rows) i [] ≡ get_or rows (middle + 1 + i) [] =
        get_or-drop (middle + 1) rows i [] in
        ap (λ (row : List ℕ). key_cmp key (key_of layout row)) same
        ∙ ap (λ (one : List ℕ). key_cmp one (key_of layout (get_or rows (middle + 1 + i) []))) (sym e)
        ∙ ordered middle (middle + 1 + i) (omega arith) (omega arith))

-- keys of which each is below the next one ascend
pub ascending : (layout : RowLayout) (rows : List (List ℕ)) → ((k : ℕ)
    → k + 1 < length rows → key_cmp (key_of layout (get_or rows k [])) (key_of layout (get_or rows (k + 1) [])) ≡ Less)
    → Ascend (keys_of layout rows)
ascending layout rows up = sorted_from_all_adjacent nat_list_cmp_total (keys_of layout rows) [] (λ k lt.
    let within : k + 1 < length rows = omega (arith, length-map rows (key_of layout)) in
    let first : get_or (keys_of layout rows) k [] ≡ key_of layout (get_or rows k []) =
    get_or-map (key_of layout) rows k [] [] (omega arith) in
    let second : get_or (keys_of layout rows) (k + 1) [] ≡ key_of layout (get_or rows (k + 1) []) =
    get_or-map (key_of layout) rows (k + 1) [] [] within in
    ap (λ (one : List ℕ). key_cmp one (get_or (keys_of layout rows) (k + 1) [])) first
    ∙ ap (key_cmp (key_of layout (get_or rows k []))) second ∙ up k within)
