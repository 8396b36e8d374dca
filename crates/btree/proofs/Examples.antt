-- Small trees, worked out.
use Rattle.std.proofs.Common.{◌≡◌, ◌≢◌, ◌<◌, ◌≤◌, ◌^◌, inl, ℕ, List, [], ◌∷◌, ◌++◌, length, refl, ap, arith, lit<, lit≤}
use Rattle.std.specs.Prelude.{Option, Some, None}
use Rattle.std.specs.declared.cmp.Ordering.TheVariants.{Less, Greater}
use Rattle.std.specs.List.Sorted.{IsStrictlySortedBy}
use Rattle.std.proofs.lemmas.List.Elements.{All-cons, All-nil}
use Rattle.std.proofs.lemmas.List.Kept.{AllPairs-cons}
use Rattle.station.specs.Disk.{Sector}
use Rattle.btree_pages.specs.declared.row_layout.RowLayout.{RowLayout}
use Rattle.btree_pages.specs.declared.row_layout.Kind.TheVariants.{Leaf, Inner}
use Rattle.btree_pages.specs.RowLayouts.{row_length}
use Rattle.btree_pages.specs.Keys.{Ascend, keys_of}
use Rattle.btree.specs.Entries.{Entry, entries_of, entry_with, first_entry_after, first_from, with_new_entry}
use Rattle.btree.specs.Entries.{with_value, without_entry}
use Rattle.btree.specs.Path.{right_key}
use Rattle.btree.specs.Tree.{HasTop, IsTreeOrEmpty, IsTree, AreJoinedLevels, TreeNode, IsOnPage, node_of, pages_of}
use Rattle.btree.specs.Tree.{row_of, rows_in_order}
use Rattle.btree.proofs.Runs.{in_none, pairs_from_once}
use Rattle.btree.proofs.Descents.{along_stands, start}
use Rattle.btree.proofs.TreeNodes.{read_few, read_none}

-- keys of two bytes, values of one
abbrev pairs : RowLayout
pairs = record { key_length = 2; value_length = 1 }

abbrev entry : ℕ → ℕ → ℕ → Entry
entry a b value = record { key = a ∷ b ∷ []; value = value ∷ [] }

-- a page of this kind byte and number of rows, cut after its rows
abbrev page_with : ℕ → ℕ → List ℕ → Option Sector
page_with kind count rows = Some ((kind ∷ 0 ∷ 0 ∷ count ∷ 0 ∷ 0 ∷ 0 ∷ 0 ∷ 0 ∷ 0 ∷ 0 ∷ 0 ∷ 0 ∷ 0 ∷ 0 ∷ 0 ∷ []) ++ rows)

-- Page 1 is a leaf of two entries, page 2 one of one, page 3 names both, and page 4 names page 2 alone.
abbrev pages : List (Option Sector)
pages = None ∷ page_with 1 2 (1 ∷ 1 ∷ 10 ∷ 1 ∷ 2 ∷ 20 ∷ []) ∷ page_with 1 1 (3 ∷ 0 ∷ 30 ∷ []) ∷ page_with 2 2
    (1 ∷ 1 ∷ 0 ∷ 0 ∷ 0 ∷ 1 ∷ 3 ∷ 0 ∷ 0 ∷ 0 ∷ 0 ∷ 2 ∷ []) ∷ page_with 2 1 (3 ∷ 0 ∷ 0 ∷ 0 ∷ 0 ∷ 2 ∷ []) ∷ None ∷ []

abbrev low : TreeNode
low = record { page = 1; rows = (1 ∷ 1 ∷ 10 ∷ []) ∷ (1 ∷ 2 ∷ 20 ∷ []) ∷ [] }

abbrev high : TreeNode
high = record { page = 2; rows = (3 ∷ 0 ∷ 30 ∷ []) ∷ [] }

abbrev top : TreeNode
top = record { page = 3; rows = (1 ∷ 1 ∷ 0 ∷ 0 ∷ 0 ∷ 1 ∷ []) ∷ (3 ∷ 0 ∷ 0 ∷ 0 ∷ 0 ∷ 2 ∷ []) ∷ [] }

-- a tree of one leaf, and one of two levels
abbrev leaf : List (List TreeNode)
leaf = (low ∷ []) ∷ []

abbrev two : List (List TreeNode)
two = (top ∷ []) ∷ (low ∷ high ∷ []) ∷ []

-- the entries of the second one
abbrev three : List Entry
three = entry 1 1 10 ∷ entry 1 2 20 ∷ entry 3 0 30 ∷ []

named_by_least_key_and_page : row_of pairs low ≡ 1 ∷ 1 ∷ 0 ∷ 0 ∷ 0 ∷ 1 ∷ []
named_by_least_key_and_page = refl

rows_of_the_leaves_alone : rows_in_order two ≡ (1 ∷ 1 ∷ 10 ∷ []) ∷ (1 ∷ 2 ∷ 20 ∷ []) ∷ (3 ∷ 0 ∷ 30 ∷ []) ∷ []
rows_of_the_leaves_alone = refl

entries_of_one_leaf : entries_of pairs leaf ≡ entry 1 1 10 ∷ entry 1 2 20 ∷ []
entries_of_one_leaf = refl

entries_of_two_levels : entries_of pairs two ≡ three
entries_of_two_levels = refl

pages_from_the_root_on : pages_of two ≡ 3 ∷ 1 ∷ 2 ∷ []
pages_from_the_root_on = refl

no_levels_no_entries : entries_of pairs [] ≡ []
no_levels_no_entries = refl

key_that_is_there : entry_with three (1 ∷ 2 ∷ []) ≡ Some (entry 1 2 20)
key_that_is_there = refl

key_that_is_not_there : entry_with three (2 ∷ 0 ∷ []) ≡ None
key_that_is_not_there = refl

from_a_key_on_itself : first_from three (1 ∷ 2 ∷ []) ≡ Some (entry 1 2 20)
from_a_key_on_itself = refl

from_a_gap_on : first_from three (1 ∷ 3 ∷ []) ≡ Some (entry 3 0 30)
from_a_gap_on = refl

after_a_key_not_itself : first_entry_after three (1 ∷ 2 ∷ []) ≡ Some (entry 3 0 30)
after_a_key_not_itself = refl

after_the_last : first_entry_after three (3 ∷ 0 ∷ []) ≡ None
after_the_last = refl

comes_between : with_new_entry three (entry 2 0 25) ≡ entry 1 1 10 ∷ entry 1 2 20 ∷ entry 2 0 25 ∷ entry 3 0 30 ∷ []
comes_between = refl

comes_last : with_new_entry three (entry 255 0 40) ≡ entry 1 1 10 ∷ entry 1 2 20 ∷ entry 3 0 30 ∷ entry 255 0 40 ∷ []
comes_last = refl

gets_another_value : with_value three (entry 1 2 21) ≡ entry 1 1 10 ∷ entry 1 2 21 ∷ entry 3 0 30 ∷ []
gets_another_value = refl

no_entry_no_other_value : with_value three (entry 2 0 25) ≡ three
no_entry_no_other_value = refl

first_goes : without_entry three (1 ∷ 1 ∷ []) ≡ entry 1 2 20 ∷ entry 3 0 30 ∷ []
first_goes = refl

none_goes : without_entry three (1 ∷ 3 ∷ []) ≡ three
none_goes = refl

first_of_the_right_leaf : right_key pairs (record { before = []; node = low; after = high ∷ [] }) ≡ Some (3 ∷ 0 ∷ [])
first_of_the_right_leaf = refl

-- Both are trees.
low_stands : IsOnPage pairs pages Leaf low
low_stands =
    let P = λ (row : List ℕ). length row ≡ row_length pairs Leaf in
    record {
      node = refl;
      lengths =
          All-cons P (1 ∷ 1 ∷ 10 ∷ []) ((1 ∷ 2 ∷ 20 ∷ []) ∷ []) refl (All-cons P (1 ∷ 2 ∷ 20 ∷ []) [] refl (All-nil P));
      enough = lit≤ tt;
    }

high_stands : IsOnPage pairs pages Leaf high
high_stands = let P = λ (row : List ℕ). length row ≡ row_length pairs Leaf in
    record { node = refl; lengths = All-cons P (3 ∷ 0 ∷ 30 ∷ []) [] refl (All-nil P); enough = lit≤ tt }

top_stands : IsOnPage pairs pages Inner top
top_stands =
    let P = λ (row : List ℕ). length row ≡ row_length pairs Inner in
    record {
      node = refl;
      lengths = All-cons P (row_of pairs low) (row_of pairs high ∷ []) refl
          (All-cons P (row_of pairs high) [] refl (All-nil P));
      enough = lit≤ tt;
    }

top_of_two : HasTop 3 two
top_of_two = (top, refl, refl)

abbrev IsNumber : ℕ → Type 0
IsNumber page = (0 < page) × (page < length pages)

abbrev Differ : ℕ → ℕ → Type 0
Differ one other = one ≢ other

leaf_is_a_tree : IsTree pairs pages 1 leaf
unfolding IsStrictlySortedBy
leaf_is_a_tree = record {
  top = (low, refl, refl);
  joined = All-cons (IsOnPage pairs pages Leaf) low [] low_stands (All-nil (IsOnPage pairs pages Leaf));
  ascend = ((refl, tt), (tt, tt));
  once = pairs_from_once (1 ∷ []) ((λ has. in_none 1 has), tt);
  numbers = All-cons IsNumber 1 [] (lit< tt, lit< tt) (All-nil IsNumber);
}

two_is_a_tree : IsTree pairs pages 3 two
unfolding IsStrictlySortedBy
two_is_a_tree = record {
  top = top_of_two;
  joined = (
    All-cons (IsOnPage pairs pages Inner) top [] top_stands (All-nil (IsOnPage pairs pages Inner)),
    refl,
    All-cons (IsOnPage pairs pages Leaf) low (high ∷ []) low_stands
        (All-cons (IsOnPage pairs pages Leaf) high [] high_stands (All-nil (IsOnPage pairs pages Leaf))),
  );
  ascend = ((refl, (refl, tt)), ((refl, tt), (tt, tt)));
  once = AllPairs-cons Differ 3 (1 ∷ 2 ∷ [])
      (All-cons (Differ 3) 1 (2 ∷ []) (λ same. omega arith)
      (All-cons (Differ 3) 2 [] (λ same. omega arith) (All-nil (Differ 3))))
      (AllPairs-cons Differ 1 (2 ∷ []) (All-cons (Differ 1) 2 [] (λ same. omega arith) (All-nil (Differ 1)))
      (pairs_from_once (2 ∷ []) ((λ has. in_none 2 has), tt)));
  numbers = All-cons IsNumber 3 (1 ∷ 2 ∷ []) (lit< tt, lit< tt)
      (All-cons IsNumber 1 (2 ∷ []) (lit< tt, lit< tt) (All-cons IsNumber 2 [] (lit< tt, lit< tt) (All-nil IsNumber)));
}

-- root 0 is a tree without levels, and no page is needed for it
none_is_held : IsTreeOrEmpty pairs [] 0 []
none_is_held = inl (refl, refl)

-- What is no tree, whatever its levels: an inner page that names one child, and a page that isn't in the map.
few : length pages ≤ 2 ^ 20
few = lit≤ tt

one_child : (levels : List (List TreeNode)) → IsTree pairs pages 4 levels → ⊥
one_child levels tree =
    let root = along_stands pairs pages levels [] [] 4 None (start pairs pages 4 levels [] few tree) in
    read_few pairs pages 4 (node_of pairs Inner (row_of pairs high ∷ [])) root.kind root.node refl (lit< tt) root.same
    root.stands

no_page : (levels : List (List TreeNode)) → IsTree pairs pages 5 levels → ⊥
no_page levels tree =
    let root = along_stands pairs pages levels [] [] 5 None (start pairs pages 5 levels [] few tree) in
    read_none pairs pages 5 None root.kind root.node refl refl root.same root.stands

-- two leaves with no page above them, and a page that names a leaf which the level below it hasn't
no_top : (root : ℕ) → HasTop root ((low ∷ high ∷ []) ∷ []) → ⊥
no_top root has = let one : ◌≡◌ {A = ℕ} 2 1 = ap length has.1 in omega arith

not_named : AreJoinedLevels pairs pages ((top ∷ []) ∷ (low ∷ []) ∷ []) → ⊥
not_named joined = let one : ◌≡◌ {A = ℕ} 2 1 = ap length joined.1 in omega arith

-- keys that don't ascend
falling : Ascend (keys_of pairs ((1 ∷ 2 ∷ 20 ∷ []) ∷ (1 ∷ 1 ∷ 10 ∷ []) ∷ [])) → ⊥
unfolding IsStrictlySortedBy
falling ascend = let clash : Greater ≡ Less = ascend.0.0 in cc
