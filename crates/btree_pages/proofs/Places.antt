-- Where rows stand in a page.
use Rattle.std.proofs.Common.{ℕ, suc, ◌+◌, ◌*◌, ◌/◌, ◌<◌, ◌≤◌, arith}
use Rattle.std.proofs.Math.Nat.{mul-le-mul_left, mul_comm}
use Rattle.btree_pages.specs.declared.row_layout.RowLayout.{RowLayout}
use Rattle.btree_pages.specs.declared.row_layout.Kind.{Kind}
use Rattle.btree_pages.specs.declared.row_layout.Kind.TheVariants.{Leaf, Inner}
use Rattle.btree_pages.specs.RowLayouts.{IsRowLayout, row_length, capacity}

-- a row has a byte at least
pub row_has_bytes : (layout : RowLayout) (kind : Kind) → IsRowLayout layout → 1 ≤ row_length layout kind
row_has_bytes layout Leaf sound = omega (arith, sound.key)
row_has_bytes layout Inner sound = omega (arith, sound.key)

pub row_is_short : (layout : RowLayout) (kind : Kind) → IsRowLayout layout → row_length layout kind ≤ 1360
row_is_short layout Leaf sound = omega (arith, sound.leaf)
row_is_short layout Inner sound = omega (arith, sound.inner)

-- as many rows as a page has room for fit into its bytes
within_quotient : (n row : ℕ) → 1 ≤ row → n ≤ 4080 / row → n * row ≤ 4080
within_quotient n row some le = omega (arith, mul-le-mul_left row le, mul_comm n row)

pub rows_fit : (layout : RowLayout) (kind : Kind) (n : ℕ) → IsRowLayout layout → n ≤ capacity layout kind
    → n * row_length layout kind ≤ 4080
rows_fit layout kind n sound le = within_quotient n (row_length layout kind) (row_has_bytes layout kind sound) le

-- a row at a place before the last stands within them
pub row_fits : (place n row most : ℕ) → place < n → n * row ≤ most → place * row + row ≤ most
row_fits place n row most lt le = let more : suc place ≤ n =
    omega arith in omega (arith, mul-le-mul_left row more, mul_comm n row)
