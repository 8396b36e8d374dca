-- Small pages, worked out.
use Rattle.std.proofs.Common.{◌≡◌, ℕ, List, [], ◌∷◌, ◌++◌, Some, None, refl, arith}
use Rattle.std.specs.Prelude.{Ok, Err}
use Rattle.std.proofs.lemmas.List.Elements.{All-from_recursion, All-head}
use Rattle.std.specs.declared.cmp.Ordering.TheVariants.{Less, Equal, Greater}
use Rattle.btree_pages.specs.declared.row_layout.RowLayout.{RowLayout}
use Rattle.btree_pages.specs.declared.row_layout.Kind.TheVariants.{Leaf, Inner}
use Rattle.btree_pages.specs.RowLayouts.{capacity, row_length}
use Rattle.btree_pages.specs.Keys.{child_of, key_cmp, key_of, keys_of, rest_of, Ascend, Precedes}
use Rattle.btree_pages.specs.Node.{Node, kind_in, node_in, rows_in}
use Rattle.btree_pages.specs.Searches.{HasKeyAt, SplitsRows}
use Rattle.btree_pages.specs.Edits.{node_with_row, node_without_row, with_key, with_rest}

-- keys of two bytes, values of one
abbrev pairs : RowLayout
pairs = record { key_length = 2; value_length = 1 }

leaf_row : row_length pairs Leaf ≡ 3
leaf_row = refl

leaf_rows : capacity pairs Leaf ≡ 1360
leaf_rows = refl

inner_rows : capacity pairs Inner ≡ 680
inner_rows = refl

no_kind : kind_in 0 ≡ None
no_kind = refl

-- what follows the rows is none of them
two_rows : rows_in 3 2 (1 ∷ 2 ∷ 3 ∷ 4 ∷ 5 ∷ 6 ∷ 9 ∷ []) ≡ (1 ∷ 2 ∷ 3 ∷ []) ∷ (4 ∷ 5 ∷ 6 ∷ []) ∷ []
two_rows = refl

key_first : key_of pairs (1 ∷ 2 ∷ 3 ∷ []) ≡ 1 ∷ 2 ∷ []
key_first = refl

rest_behind : rest_of pairs (1 ∷ 2 ∷ 3 ∷ []) ≡ 3 ∷ []
rest_behind = refl

child_big_endian : child_of pairs (1 ∷ 2 ∷ 0 ∷ 0 ∷ 1 ∷ 2 ∷ []) ≡ 258
child_big_endian = refl

first_byte_decides : key_cmp (1 ∷ 255 ∷ []) (2 ∷ 0 ∷ []) ≡ Less
first_byte_decides = refl

bytes_have_no_sign : key_cmp (128 ∷ 0 ∷ []) (127 ∷ 255 ∷ []) ≡ Greater
bytes_have_no_sign = refl

same_bytes : key_cmp (7 ∷ 7 ∷ []) (7 ∷ 7 ∷ []) ≡ Equal
same_bytes = refl

-- a page of this kind byte and number of rows, cut after its first rows
abbrev page_with : ℕ → ℕ → List ℕ → List ℕ
page_with kind count rows = (kind ∷ 0 ∷ 0 ∷ count ∷ 0 ∷ 0 ∷ 0 ∷ 0 ∷ 0 ∷ 0 ∷ 0 ∷ 0 ∷ 0 ∷ 0 ∷ 0 ∷ 0 ∷ []) ++ rows

abbrev leaf_with : List (List ℕ) → Node
leaf_with rows = record { layout = pairs; kind = Leaf; rows = rows }

one_entry : node_in pairs (page_with 1 1 (7 ∷ 8 ∷ 9 ∷ 0 ∷ 0 ∷ [])) ≡ Some (leaf_with ((7 ∷ 8 ∷ 9 ∷ []) ∷ []))
one_entry = refl

of_no_kind : node_in pairs (page_with 3 1 (7 ∷ 8 ∷ 9 ∷ [])) ≡ None
of_no_kind = refl

-- 1,536 rows of three bytes don't fit
too_many : node_in pairs (1 ∷ 0 ∷ 6 ∷ 0 ∷ []) ≡ None
too_many = refl

between : node_with_row (leaf_with ((1 ∷ 1 ∷ 1 ∷ []) ∷ (3 ∷ 3 ∷ 3 ∷ []) ∷ [])) 1 (2 ∷ 2 ∷ 2 ∷ [])
    ≡ leaf_with ((1 ∷ 1 ∷ 1 ∷ []) ∷ (2 ∷ 2 ∷ 2 ∷ []) ∷ (3 ∷ 3 ∷ 3 ∷ []) ∷ [])
between = refl

first_gone : node_without_row (leaf_with ((1 ∷ 1 ∷ 1 ∷ []) ∷ (3 ∷ 3 ∷ 3 ∷ []) ∷ [])) 0
    ≡ leaf_with ((3 ∷ 3 ∷ 3 ∷ []) ∷ [])
first_gone = refl

other_value : with_rest (leaf_with ((1 ∷ 2 ∷ 3 ∷ []) ∷ [])) 0 (9 ∷ []) ≡ leaf_with ((1 ∷ 2 ∷ 9 ∷ []) ∷ [])
other_value = refl

other_key : with_key (leaf_with ((1 ∷ 2 ∷ 3 ∷ []) ∷ [])) 0 (8 ∷ 9 ∷ []) ≡ leaf_with ((8 ∷ 9 ∷ 3 ∷ []) ∷ [])
other_key = refl

-- three rows, with the keys 1 1, 3 3 and 5 5
abbrev three : Node
three = leaf_with ((1 ∷ 1 ∷ 1 ∷ []) ∷ (3 ∷ 3 ∷ 3 ∷ []) ∷ (5 ∷ 5 ∷ 5 ∷ []) ∷ [])

key_in_the_middle : HasKeyAt three (3 ∷ 3 ∷ []) 1
key_in_the_middle = (omega arith, refl)

found_in_the_middle : SplitsRows three (3 ∷ 3 ∷ []) (Ok 1)
found_in_the_middle = λ ascend. (
  All-from_recursion (λ row. Precedes (key_of pairs row) (3 ∷ 3 ∷ [])) ((1 ∷ 1 ∷ 1 ∷ []) ∷ []) (refl, tt),
  All-from_recursion (λ row. Precedes (3 ∷ 3 ∷ []) (key_of pairs row)) ((5 ∷ 5 ∷ 5 ∷ []) ∷ []) (refl, tt),
)

missing_in_the_middle : SplitsRows three (4 ∷ 4 ∷ []) (Err 2)
missing_in_the_middle = λ ascend. (
  All-from_recursion (λ row. Precedes (key_of pairs row) (4 ∷ 4 ∷ [])) ((1 ∷ 1 ∷ 1 ∷ []) ∷ (3 ∷ 3 ∷ 3 ∷ []) ∷ [])
      (refl, (refl, tt)),
  All-from_recursion (λ row. Precedes (4 ∷ 4 ∷ []) (key_of pairs row)) ((5 ∷ 5 ∷ 5 ∷ []) ∷ []) (refl, tt),
)

-- no lesser row is behind the place
not_at_the_front : Ascend (keys_of pairs three.rows) → SplitsRows three (4 ∷ 4 ∷ []) (Err 1) → ⊥
not_at_the_front ascend splits =
    let greater : key_cmp (4 ∷ 4 ∷ []) (3 ∷ 3 ∷ []) ≡ Less =
    All-head (λ row. Precedes (4 ∷ 4 ∷ []) (key_of pairs row)) (3 ∷ 3 ∷ 3 ∷ []) ((5 ∷ 5 ∷ 5 ∷ []) ∷ [])
    (splits ascend).1 in
    cc
