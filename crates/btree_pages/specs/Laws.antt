-- A row's parts, and what is read back.
use Rattle.std.specs.Prelude.{◌≡◌, ◌<◌, ◌+◌, ◌^◌, ◌++◌, ℕ, List, length, take, replicate, Some}
use Rattle.std.specs.List.{All}
use Rattle.std.specs.Ordering.{nat_cmp, ordering_then, is_lt, is_gt}
use Rattle.byteorder.specs.Endian.{big_bytes}
use Rattle.btree_pages.specs.declared.row_layout.RowLayout.{RowLayout}
use Rattle.btree_pages.specs.RowLayouts.{IsRowLayout}
use Rattle.btree_pages.specs.Keys.{key_cmp, child_of, key_of, rest_of}
use Rattle.btree_pages.specs.Node.{Node, IsNode, node_in}

-- a row made of a key and what follows it has these as its parts
abbrev pub KeyReadsBack : Type 0
KeyReadsBack = (layout : RowLayout) (key rest : List ℕ) → length key ≡ layout.key_length → key_of layout (key ++ rest) ≡ key

abbrev pub RestReadsBack : Type 0
RestReadsBack = (layout : RowLayout) (key rest : List ℕ) → length key ≡ layout.key_length → rest_of layout (key ++ rest) ≡ rest

abbrev pub ChildReadsBack : Type 0
ChildReadsBack = (layout : RowLayout) (key : List ℕ) (page : ℕ) → length key ≡ layout.key_length → page < 2 ^ 32 → child_of layout (key ++ big_bytes 4 page) ≡ page

-- what a page's bytes spell has rows of the layout's length, which fit
abbrev pub SpellsNode : Type 0
SpellsNode = (layout : RowLayout) (bytes : List ℕ) (node : Node) → IsRowLayout layout → length bytes ≡ 4096 → node_in layout bytes ≡ Some node → IsNode node

-- numbers that are spelled in as many bytes compare as the numbers
abbrev pub NumbersInOrder : Type 0
NumbersInOrder = (count x y : ℕ) → x < 256 ^ count → y < 256 ^ count → key_cmp (big_bytes count x) (big_bytes count y) ≡ nat_cmp x y

-- keys whose first parts are of one length compare by those, and then by what is after them
abbrev pub PartsInOrder : Type 0
PartsInOrder = (one two behind_one behind_two : List ℕ) → length one ≡ length two →
    key_cmp (one ++ behind_one) (two ++ behind_two) ≡ ordering_then (key_cmp one two) (key_cmp behind_one behind_two)

-- Where keys that begin with some bytes stand: the first is at or after these bytes and zeros, and with the greatest bytes in
-- place of the zeros it is the last.
abbrev pub ZerosAreFirst : Type 0
ZerosAreFirst = (start key : List ℕ) (more : ℕ) → length key ≡ length start + more →
    is_lt (key_cmp key (start ++ replicate more 0)) ≡ is_lt (key_cmp (take (length start) key) start)

abbrev pub GreatestAreLast : Type 0
GreatestAreLast = (start key : List ℕ) (more : ℕ) → length key ≡ length start + more → All (λ byte. byte < 256) key →
    is_gt (key_cmp key (start ++ replicate more 255)) ≡ is_gt (key_cmp (take (length start) key) start)
