-- The levels of a tree, one above the other.
use Rattle.std.proofs.Common.{◌≡◌, ◌≤◌, ℕ, List, [], ◌∷◌, ◌++◌, length, map, take, drop, refl, sym, ap, subst, ◌∙◌}
use Rattle.std.proofs.Common.{arith}
use Rattle.std.specs.Prelude.{slice_index_or, Option, Some}
use Rattle.std.specs.List.{All}
use Rattle.std.proofs.Math.Seq.{take-append_seam, drop-append_seam}
use Rattle.std.proofs.lemmas.List.{append_assoc, length-take-le}
use Rattle.std.proofs.lemmas.List.Elements.{All-head, All-tail, All-cons, All-nil, All-append, All-weaker}
use Rattle.station.specs.Disk.{Sector}
use Rattle.byteorder.specs.Endian.{big_bytes}
use Rattle.btree_pages.specs.declared.row_layout.RowLayout.{RowLayout}
use Rattle.btree_pages.specs.declared.row_layout.Kind.{Kind}
use Rattle.btree_pages.specs.declared.row_layout.Kind.TheVariants.{Leaf, Inner}
use Rattle.btree_pages.specs.RowLayouts.{row_length}
use Rattle.btree_pages.specs.Keys.{key_of, keys_of, rest_of, Precedes, Ascend, AllAbove}
use Rattle.btree.specs.Tree.{TreeNode, least_key, row_of, rows_of, IsOnPage, fewest, AreJoinedLevels, rows_in_order}
use Rattle.btree.specs.Path.{first_key}
use Rattle.btree.specs.Laws.{AllAscend}
use Rattle.btree.proofs.Order.{all_left, all_right, Up, up_none, up_cons, up_left, up_right, up_across}
use Rattle.btree.proofs.Order.{above_from_first}

-- a node has rows, and each of them has a key
pub record HasRows (layout : RowLayout) (node : TreeNode) : Type 0 where
  pub some : 1 ≤ length node.rows
  pub lengths : All (λ row. layout.key_length ≤ length row) node.rows

pub least_is_enough : (kind : Kind) → 1 ≤ fewest kind
least_is_enough Leaf = omega arith
least_is_enough Inner = omega arith

key_within : (layout : RowLayout) (kind : Kind) → layout.key_length ≤ row_length layout kind
key_within layout Leaf = omega arith
key_within layout Inner = omega arith

pub has_rows : (layout : RowLayout) (pages : List (Option Sector)) (kind : Kind) (node : TreeNode)
    → IsOnPage layout pages kind node → HasRows layout node
has_rows layout pages kind node stands = record {
  some = let few = least_is_enough kind in let enough = stands.enough in omega arith;
  lengths = All-weaker (λ row. length row ≡ row_length layout kind) (λ row. layout.key_length ≤ length row)
      (λ row is. let within = key_within layout kind in omega arith) node.rows stands.lengths;
}

pub all_have_rows : (layout : RowLayout) (pages : List (Option Sector)) (kind : Kind) (level : List TreeNode)
    → All (IsOnPage layout pages kind) level → All (HasRows layout) level
all_have_rows layout pages kind level all =
    All-weaker (IsOnPage layout pages kind) (HasRows layout) (has_rows layout pages kind) level all

pub joined_have_rows : (layout : RowLayout) (pages : List (Option Sector)) (level : List TreeNode)
    (more : List (List TreeNode)) → AreJoinedLevels layout pages (level ∷ more) → All (HasRows layout) level
joined_have_rows layout pages level [] joined = all_have_rows layout pages Leaf level joined
joined_have_rows layout pages level (lower ∷ more) joined = all_have_rows layout pages Inner level joined.0

-- The row of a node, in the level above.
pub length_least : (layout : RowLayout) (node : TreeNode) → HasRows layout node
    → length (least_key layout node) ≡ layout.key_length
length_least layout node has =
    length-take-le layout.key_length (slice_index_or node.rows 0 []) (has.lengths 0 [] has.some)

take_front : (n : ℕ) (xs ys : List ℕ) → length xs ≡ n → take n (xs ++ ys) ≡ xs
take_front n xs ys is = subst (λ (m : ℕ). take m (xs ++ ys) ≡ xs) is (take-append_seam xs ys)

drop_front : (n : ℕ) (xs ys : List ℕ) → length xs ≡ n → drop n (xs ++ ys) ≡ ys
drop_front n xs ys is = subst (λ (m : ℕ). drop m (xs ++ ys) ≡ ys) is (drop-append_seam xs ys)

pub key_of_row : (layout : RowLayout) (node : TreeNode) → HasRows layout node
    → key_of layout (row_of layout node) ≡ least_key layout node
key_of_row layout node has =
    take_front layout.key_length (least_key layout node) (big_bytes 4 node.page) (length_least layout node has)

pub rest_of_row : (layout : RowLayout) (node : TreeNode) → HasRows layout node
    → rest_of layout (row_of layout node) ≡ big_bytes 4 node.page
rest_of_row layout node has =
    drop_front layout.key_length (least_key layout node) (big_bytes 4 node.page) (length_least layout node has)

pub rows_of_append : (one two : List TreeNode) → rows_of (one ++ two) ≡ rows_of one ++ rows_of two
rows_of_append [] two = refl
rows_of_append (node ∷ one) two =
    ap (λ rows. node.rows ++ rows) (rows_of_append one two) ∙ sym (append_assoc node.rows (rows_of one) (rows_of two))

-- where all rows are above a key, so are those in the level above
pub above_names : (layout : RowLayout) (key : List ℕ) (nodes : List TreeNode) → All (HasRows layout) nodes
    → AllAbove layout key (rows_of nodes) → AllAbove layout key (map (row_of layout) nodes)
above_names layout key [] all above = All-nil (λ row. Precedes key (key_of layout row))
above_names layout key (node ∷ nodes) all above =
    let P : List ℕ → Type 0 = λ row. Precedes key (key_of layout row) in
    let has = All-head (HasRows layout) node nodes all in
    All-cons P (row_of layout node) (map (row_of layout) nodes)
    (subst (Precedes key) (sym (key_of_row layout node has)) (all_left P node.rows (rows_of nodes) above 0 [] has.some))
    (above_names layout key nodes (All-tail (HasRows layout) node nodes all)
    (all_right P node.rows (rows_of nodes) above))

above_from_least : (layout : RowLayout) (key : List ℕ) (rows : List (List ℕ)) → Up layout rows
    → Precedes key (key_of layout (slice_index_or rows 0 [])) → AllAbove layout key rows
above_from_least layout key [] up first = All-nil (λ row. Precedes key (key_of layout row))
above_from_least layout key (row ∷ rows) up first = above_from_first layout key row rows up first

-- and the other way round, where the rows ascend
pub above_rows : (layout : RowLayout) (key : List ℕ) (nodes : List TreeNode) → All (HasRows layout) nodes
    → Up layout (rows_of nodes) → AllAbove layout key (map (row_of layout) nodes) → AllAbove layout key (rows_of nodes)
above_rows layout key [] all up above = All-nil (λ row. Precedes key (key_of layout row))
above_rows layout key (node ∷ nodes) all up above =
    let P : List ℕ → Type 0 = λ row. Precedes key (key_of layout row) in
    let has = All-head (HasRows layout) node nodes all in
    All-append P node.rows (rows_of nodes)
    (above_from_least layout key node.rows (up_left layout node.rows (rows_of nodes) up) (subst (Precedes key)
    (key_of_row layout node has) (All-head P (row_of layout node) (map (row_of layout) nodes) above)))
    (above_rows layout key nodes (All-tail (HasRows layout) node nodes all) (up_right layout node.rows (rows_of nodes)
    up) (All-tail P (row_of layout node) (map (row_of layout) nodes) above))

-- the level above ascends
pub names_up : (layout : RowLayout) (nodes : List TreeNode) → All (HasRows layout) nodes → Up layout (rows_of nodes)
    → Up layout (map (row_of layout) nodes)
names_up layout [] all up = up_none layout
names_up layout (node ∷ nodes) all up =
    let has = All-head (HasRows layout) node nodes all in
    let tail = All-tail (HasRows layout) node nodes all in
    up_cons layout (row_of layout node) (map (row_of layout) nodes)
    (subst (λ (key : List ℕ). AllAbove layout key (map (row_of layout) nodes)) (sym (key_of_row layout node has))
    (above_names layout (least_key layout node) nodes tail
    (up_across layout node.rows (rows_of nodes) up 0 [] has.some)))
    (names_up layout nodes tail (up_right layout node.rows (rows_of nodes) up))

pub all_ascend : (layout : RowLayout) (pages : List (Option Sector)) (levels : List (List TreeNode))
    → AreJoinedLevels layout pages levels → Ascend (keys_of layout (rows_in_order levels)) → AllAscend layout levels
all_ascend layout pages [] joined up = tt
all_ascend layout pages (leaves ∷ []) joined up = (up, tt)
all_ascend layout pages (upper ∷ lower ∷ more) joined up =
    let rest : AllAscend layout (lower ∷ more) = all_ascend layout pages (lower ∷ more) joined.2 up in (
      subst (Up layout) (sym joined.1)
          (names_up layout lower (joined_have_rows layout pages lower more joined.2) rest.0),
      rest,
    )

-- The first key of rows.
pub first_key_left : (layout : RowLayout) (rows more : List (List ℕ)) → 1 ≤ length rows
    → first_key layout (rows ++ more) ≡ Some (key_of layout (slice_index_or rows 0 []))
first_key_left layout [] more some = absurd (omega arith)
first_key_left layout (row ∷ rows) more some = refl

-- it is that of the level above
pub first_names : (layout : RowLayout) (nodes : List TreeNode) → All (HasRows layout) nodes
    → first_key layout (rows_of nodes) ≡ first_key layout (map (row_of layout) nodes)
first_names layout [] all = refl
first_names layout (node ∷ nodes) all =
    let has = All-head (HasRows layout) node nodes all in
    first_key_left layout node.rows (rows_of nodes) has.some ∙ ap Some (sym (key_of_row layout node has))
