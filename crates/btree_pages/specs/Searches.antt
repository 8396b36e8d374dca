-- What a search in a page answers: the place of the row with a key, or the place where the row would go in.
use Rattle.std.specs.Prelude.{◌≡◌, ◌<◌, ◌+◌, ℕ, List, [], length, take, drop, slice_index_or, Result, MatchResult}
use Rattle.btree_pages.specs.Keys.{Ascend, AllAbove, AllBelow, key_of, keys_of}
use Rattle.btree_pages.specs.Node.{Node}

-- the row at a place has the key
abbrev pub HasKeyAt : Node → List ℕ → ℕ → Type 0
HasKeyAt node key place = (place < length node.rows) × (key_of node.layout (slice_index_or node.rows place []) ≡ key)

-- If the keys ascend, the rows before the place have lesser keys. The rows from it on have greater ones, except the row with the key.
abbrev pub SplitsRows : Node → List ℕ → Result ℕ ℕ → Type 0
SplitsRows node key found = Ascend (keys_of node.layout node.rows) → MatchResult found
    (λ place. AllBelow node.layout key (take place node.rows) × AllAbove node.layout key (drop (place + 1) node.rows))
    (λ place. AllBelow node.layout key (take place node.rows) × AllAbove node.layout key (drop place node.rows))
