-- A page of a tree as data: its kind and its rows (own choice). Byte 0 tells the kind, 1 for a leaf and 2 for an inner page; bytes
-- 2 and 3 are the number of rows, big-endian; rows stand from byte 16 on. No reader looks at the other bytes. They are written as zeros.
use Rattle.std.specs.Prelude.{◌≡◌, ◌⊎◌, ◌<◌, ◌≤◌, ◌+◌, ◌*◌, ◌==◌, ℕ, zero, suc, List, [], ◌∷◌, length, take, drop, slice_index, Option, Some, None, nat_le, if◌then◌else◌}
use Rattle.std.specs.List.{All}
use Rattle.byteorder.specs.Endian.{big_number}
use Rattle.btree_pages.specs.declared.row_layout.RowLayout.{RowLayout}
use Rattle.btree_pages.specs.declared.row_layout.Kind.{Kind}
use Rattle.btree_pages.specs.declared.row_layout.Kind.TheVariants.{Leaf, Inner}
use Rattle.btree_pages.specs.RowLayouts.{row_length, capacity, IsRowLayout}

pub record Node : Type 0 where
  pub layout : RowLayout
  pub kind : Kind
  pub rows : List (List ℕ)

abbrev pub kind_in : ℕ → Option Kind
kind_in byte = if byte == 1 then Some Leaf else if byte == 2 then Some Inner else None

-- so many rows of this length, one after the other
abbrev pub rows_in : ℕ → ℕ → List ℕ → List (List ℕ)
rows_in length zero bytes = []
rows_in length (suc count) bytes = take length bytes ∷ rows_in length count (drop length bytes)

abbrev pub count_in : List ℕ → ℕ
count_in bytes = big_number 2 (drop 2 bytes)

abbrev pub node_of_kind : RowLayout → List ℕ → Option Kind → Option Node
node_of_kind layout bytes None = None
node_of_kind layout bytes (Some kind) =
    if nat_le (count_in bytes) (capacity layout kind)
    then Some (record { layout = layout; kind = kind; rows = rows_in (row_length layout kind) (count_in bytes) (drop 16 bytes) })
    else None

-- what a page is in a tree of this layout, if its kind is one of the two and its rows fit
abbrev pub node_in : RowLayout → List ℕ → Option Node
node_in layout bytes = node_of_kind layout bytes (kind_in (slice_index bytes 0))

-- a place of a page's bytes that names neither the kind nor the number of rows, and is in no row
abbrev pub IsUnnamed : Node → ℕ → Type 0
IsUnnamed node place = (place ≡ 1) ⊎ ((4 ≤ place) × (place < 16)) ⊎ (16 + length node.rows * row_length node.layout node.kind ≤ place)

-- the bytes at such places are zeros
abbrev pub HasZeros : Node → List ℕ → Type 0
HasZeros node bytes = (place : ℕ) → IsUnnamed node place → slice_index bytes place ≡ 0

-- the rows are of the length that the layout tells, and fit
pub record IsNode (node : Node) : Type 0 where
  pub layout : IsRowLayout node.layout
  pub lengths : All (λ row. length row ≡ row_length node.layout node.kind) node.rows
  pub fits : length node.rows ≤ capacity node.layout node.kind
