-- Nodes after a change.
use Rattle.std.specs.Prelude.{◌++◌, ℕ, List, [], slice_set, slice_index_or}
use Rattle.std.specs.List.{insert, remove}
use Rattle.btree_pages.specs.declared.row_layout.RowLayout.{RowLayout}
use Rattle.btree_pages.specs.declared.row_layout.Kind.{Kind}
use Rattle.btree_pages.specs.Keys.{key_of, rest_of}
use Rattle.btree_pages.specs.Node.{Node}

abbrev pub with_rows : Node → List (List ℕ) → Node
with_rows node rows = record { layout = node.layout; kind = node.kind; rows = rows }

abbrev pub empty_node : RowLayout → Kind → Node
empty_node layout kind = record { layout = layout; kind = kind; rows = [] }

-- a row comes to this place
abbrev pub node_with_row : Node → ℕ → List ℕ → Node
node_with_row node place row = with_rows node (insert node.rows place row)

abbrev pub node_without_row : Node → ℕ → Node
node_without_row node place = with_rows node (remove node.rows place)

-- a row gets another rest, or another key
abbrev pub with_rest : Node → ℕ → List ℕ → Node
with_rest node place rest = with_rows node (slice_set node.rows place (key_of node.layout (slice_index_or node.rows place []) ++ rest))

abbrev pub with_key : Node → ℕ → List ℕ → Node
with_key node place key = with_rows node (slice_set node.rows place (key ++ rest_of node.layout (slice_index_or node.rows place [])))
