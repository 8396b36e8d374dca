-- The order of keys: by bytes, from the first on.
use Rattle.std.specs.Prelude.{◌≡◌, ℕ, List, map, take, drop}
use Rattle.std.specs.Ordering.{nat_cmp}
use Rattle.std.specs.Cmp.Lexicographic.{slice_cmp}
use Rattle.std.specs.List.{All}
use Rattle.std.specs.List.Sorted.{IsStrictlySortedBy}
use Rattle.std.specs.declared.cmp.Ordering.{Ordering}
use Rattle.std.specs.declared.cmp.Ordering.TheVariants.{Less}
use Rattle.byteorder.specs.Endian.{big_number}
use Rattle.btree_pages.specs.declared.row_layout.RowLayout.{RowLayout}

abbrev pub key_cmp : List ℕ → List ℕ → Ordering
key_cmp one two = slice_cmp nat_cmp one two

-- one key is below another
abbrev pub Precedes : List ℕ → List ℕ → Type 0
Precedes one two = key_cmp one two ≡ Less

-- each key is below those after it
abbrev pub Ascend : List (List ℕ) → Type 0
Ascend keys = IsStrictlySortedBy key_cmp keys

-- a row's key, and what follows it
abbrev pub key_of : RowLayout → List ℕ → List ℕ
key_of layout row = take layout.key_length row

abbrev pub rest_of : RowLayout → List ℕ → List ℕ
rest_of layout row = drop layout.key_length row

abbrev pub keys_of : RowLayout → List (List ℕ) → List (List ℕ)
keys_of layout rows = map (key_of layout) rows

-- the page of the child that an inner page's row names
abbrev pub child_of : RowLayout → List ℕ → ℕ
child_of layout row = big_number 4 (rest_of layout row)

-- all keys of these rows are below a key, or above it
abbrev pub AllBelow : RowLayout → List ℕ → List (List ℕ) → Type 0
AllBelow layout key rows = All (λ row. Precedes (key_of layout row) key) rows

abbrev pub AllAbove : RowLayout → List ℕ → List (List ℕ) → Type 0
AllAbove layout key rows = All (λ row. Precedes key (key_of layout row)) rows
