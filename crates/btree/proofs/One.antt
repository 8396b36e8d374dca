-- The pages under a root are one tree at most.
use Rattle.std.proofs.Common.{◌≡◌, ◌≤◌, ◌<◌, ◌^◌, ℕ, List, [], ◌∷◌, length, map, refl, sym, ap, subst, ◌∙◌, arith, inl}
use Rattle.std.proofs.Common.{inr}
use Rattle.std.specs.Prelude.{slice_index_or, Option, Some}
use Rattle.std.specs.List.{All}
use Rattle.std.proofs.lemmas.List.{append-nil, length-map}
use Rattle.std.proofs.lemmas.List.Elements.{All-head, All-tail, All-cons}
use Rattle.station.specs.Disk.{Sector}
use Rattle.byteorder.specs.Endian.{big_bytes, big_number}
use Rattle.byteorder.specs.Numbers.{big_number-reads_back}
use Rattle.btree_pages.specs.declared.row_layout.RowLayout.{RowLayout}
use Rattle.btree_pages.specs.declared.row_layout.Kind.{Kind}
use Rattle.btree_pages.specs.declared.row_layout.Kind.TheVariants.{Leaf, Inner}
use Rattle.btree_pages.specs.Node.{Node}
use Rattle.btree_pages.specs.Keys.{rest_of}
use Rattle.btree.specs.Tree.{TreeNode, row_of, rows_of, IsOnPage, AreJoinedLevels, pages_of, IsTree, IsTreeOrEmpty}
use Rattle.btree.specs.Tree.{node_at, node_of}
use Rattle.btree.proofs.Order.{all_left, all_right}
use Rattle.btree.proofs.Levels.{has_rows, rest_of_row}
use Rattle.btree.proofs.Depth.{twice}

-- a node stands, whatever its kind
pub record StandsHere (layout : RowLayout) (pages : List (Option Sector)) (node : TreeNode) : Type 0 where
  pub kind : Kind
  pub stands : IsOnPage layout pages kind node
  pub small : node.page < 2 ^ 32

same_node : (one two : Node) → Some one ≡ Some two → one ≡ two
same_node one two same = cc

pub same_kind : (layout : RowLayout) (pages : List (Option Sector)) (one two : Kind) (tree_node : TreeNode)
    → IsOnPage layout pages one tree_node → IsOnPage layout pages two tree_node → one ≡ two
same_kind layout pages one two tree_node first second =
    ap (λ (node : Node). node.kind)
    (same_node (node_of layout one tree_node.rows) (node_of layout two tree_node.rows) (sym first.node ∙ second.node))

abbrev node_with : ℕ → List (List ℕ) → TreeNode
node_with page rows = record { page = page; rows = rows }

same_tree_node : (layout : RowLayout) (pages : List (Option Sector)) (one two : TreeNode) → StandsHere layout pages one
    → StandsHere layout pages two → one.page ≡ two.page → one ≡ two
same_tree_node layout pages one two first second same =
    let nodes : Some (node_of layout first.kind one.rows) ≡ Some (node_of layout second.kind two.rows) =
    sym first.stands.node ∙ ap (node_at layout pages) same ∙ second.stands.node in
    let rows : one.rows ≡ two.rows = ap (λ (node : Node). node.rows)
    (same_node (node_of layout first.kind one.rows) (node_of layout second.kind two.rows) nodes) in
    ap (λ (page : ℕ). node_with page one.rows) same ∙ ap (λ (rows : List (List ℕ)). node_with two.page rows) rows

page_in_row : (layout : RowLayout) (pages : List (Option Sector)) (node : TreeNode) → StandsHere layout pages node
    → big_number 4 (rest_of layout (row_of layout node)) ≡ node.page
page_in_row layout pages node here =
    ap (big_number 4) (rest_of_row layout node (has_rows layout pages here.kind node here.stands)
    ∙ sym (append-nil (big_bytes 4 node.page)))
    ∙ big_number-reads_back 4 node.page [] here.small

-- nodes of the same names are the same
same_nodes : (layout : RowLayout) (pages : List (Option Sector)) (one two : List TreeNode)
    → All (StandsHere layout pages) one → All (StandsHere layout pages) two
    → map (row_of layout) one ≡ map (row_of layout) two → one ≡ two
same_nodes layout pages [] [] first second same = refl
same_nodes layout pages [] (node ∷ two) first second same = cc
same_nodes layout pages (node ∷ one) [] first second same = cc
same_nodes layout pages (node ∷ one) (other ∷ two) first second same =
    let here = All-head (StandsHere layout pages) node one first in
    let there = All-head (StandsHere layout pages) other two second in
    let row : row_of layout node ≡ row_of layout other = cc in
    let rest : map (row_of layout) one ≡ map (row_of layout) two = cc in
    let page : node.page ≡ other.page = sym (page_in_row layout pages node here)
    ∙ ap (λ row. big_number 4 (rest_of layout row)) row ∙ page_in_row layout pages other there in
    let head = same_tree_node layout pages node other here there page in
    let tail = same_nodes layout pages one two (All-tail (StandsHere layout pages) node one first)
    (All-tail (StandsHere layout pages) other two second) rest in
    cc

level_numbers : (P : ℕ → Type 0) (level : List TreeNode) → All P (map (λ (node : TreeNode). node.page) level)
    → All (λ (node : TreeNode). P node.page) level
level_numbers P [] all = λ k d low. absurd (omega arith)
level_numbers P (node ∷ level) all =
    All-cons (λ (p : TreeNode). P p.page) node level (All-head P node.page (map (λ (p : TreeNode). p.page) level) all)
    (level_numbers P level (All-tail P node.page (map (λ (p : TreeNode). p.page) level) all))

all_stand : (layout : RowLayout) (pages : List (Option Sector)) (kind : Kind) (level : List TreeNode)
    → All (IsOnPage layout pages kind) level → All (λ (node : TreeNode). node.page < 2 ^ 32) level
    → All (StandsHere layout pages) level
all_stand layout pages kind level stands small =
    λ k d low. record { kind = kind; stands = stands k d low; small = small k d low }

pub level_stands : (layout : RowLayout) (pages : List (Option Sector))
    (level : List TreeNode) (more : List (List TreeNode)) → AreJoinedLevels layout pages (level ∷ more)
    → All (λ page. page < 2 ^ 32) (pages_of (level ∷ more)) → All (StandsHere layout pages) level
level_stands layout pages level [] joined small =
    all_stand layout pages Leaf level joined (level_numbers (λ page. page < 2 ^ 32) level
    (all_left (λ page. page < 2 ^ 32) (map (λ (node : TreeNode). node.page) level) [] small))
level_stands layout pages level (lower ∷ more) joined small =
    all_stand layout pages Inner level joined.0 (level_numbers (λ page. page < 2 ^ 32) level
    (all_left (λ page. page < 2 ^ 32) (map (λ (node : TreeNode). node.page) level) (pages_of (lower ∷ more)) small))

leaf_or_inner : (layout : RowLayout) (pages : List (Option Sector)) (level : List TreeNode) → 1 ≤ length level
    → All (IsOnPage layout pages Leaf) level → All (IsOnPage layout pages Inner) level → ⊥
leaf_or_inner layout pages level some leaf inner =
    let none : TreeNode = record { page = 0; rows = [] } in
    let clash : Leaf ≡ Inner =
    same_kind layout pages Leaf Inner (slice_index_or level 0 none) (leaf 0 none some) (inner 0 none some) in
    cc

some_below : (layout : RowLayout) (pages : List (Option Sector)) (level lower : List TreeNode) → 1 ≤ length level
    → All (IsOnPage layout pages Inner) level → rows_of level ≡ map (row_of layout) lower → 1 ≤ length lower
some_below layout pages level lower some inner names =
    let count : length (rows_of level) ≡ length lower = ap length names ∙ length-map lower (row_of layout) in
    let double = twice layout pages level inner in
    omega arith

same_below :
    (layout : RowLayout) (pages : List (Option Sector)) (level : List TreeNode) (one two : List (List TreeNode))
    → 1 ≤ length level → AreJoinedLevels layout pages (level ∷ one) → AreJoinedLevels layout pages (level ∷ two)
    → All (λ page. page < 2 ^ 32) (pages_of one) → All (λ page. page < 2 ^ 32) (pages_of two) → one ≡ two
same_below layout pages level [] [] some first second small_one small_two = refl
same_below layout pages level [] (lower ∷ two) some first second small_one small_two =
    absurd (leaf_or_inner layout pages level some first second.0)
same_below layout pages level (lower ∷ one) [] some first second small_one small_two =
    absurd (leaf_or_inner layout pages level some second first.0)
same_below layout pages level (lower ∷ one) (other ∷ two) some first second small_one small_two =
    let same : lower ≡ other =
    same_nodes layout pages lower other (level_stands layout pages lower one first.2 small_one)
    (level_stands layout pages other two second.2 small_two) (sym first.1 ∙ second.1) in
    let joined : AreJoinedLevels layout pages (lower ∷ two) =
    subst (λ (l : List TreeNode). AreJoinedLevels layout pages (l ∷ two)) (sym same) second.2 in
    let rest : one ≡ two =
    same_below layout pages lower one two (some_below layout pages level lower some first.0 first.1) first.2 joined
    (all_right (λ page. page < 2 ^ 32) (map (λ (node : TreeNode). node.page) lower) (pages_of one) small_one)
    (all_right (λ page. page < 2 ^ 32) (map (λ (node : TreeNode). node.page) other) (pages_of two) small_two) in
    cc

pub small_numbers : (layout : RowLayout) (pages : List (Option Sector)) (root : ℕ) (levels : List (List TreeNode))
    → length pages ≤ 2 ^ 20 → IsTree layout pages root levels → All (λ page. page < 2 ^ 32) (pages_of levels)
small_numbers layout pages root levels small tree = λ k d low. let number = (tree.numbers k d low).1 in omega arith

one_tree_from : (layout : RowLayout) (pages : List (Option Sector)) (root : ℕ) (one two : List (List TreeNode))
    → length pages ≤ 2 ^ 20 → IsTree layout pages root one → IsTree layout pages root two → one ≡ two
one_tree_from layout pages root [] two small first second = absurd first.top
one_tree_from layout pages root (top ∷ one) [] small first second = absurd second.top
one_tree_from layout pages root (top ∷ one) (other ∷ two) small first second =
    let small_one = small_numbers layout pages root (top ∷ one) small first in
    let small_two = small_numbers layout pages root (other ∷ two) small second in
    let P : ℕ → Type 0 = λ page. page < 2 ^ 32 in
    let here : All (StandsHere layout pages) (first.top.0 ∷ []) =
    subst (All (StandsHere layout pages)) first.top.1 (level_stands layout pages top one first.joined small_one) in
    let there : All (StandsHere layout pages) (second.top.0 ∷ []) =
    subst (All (StandsHere layout pages)) second.top.1 (level_stands layout pages other two second.joined small_two) in
    let node : first.top.0 ≡ second.top.0 =
    same_tree_node layout pages first.top.0 second.top.0 (All-head (StandsHere layout pages) first.top.0 [] here)
    (All-head (StandsHere layout pages) second.top.0 [] there) (first.top.2 ∙ sym second.top.2) in
    let same : top ≡ other = first.top.1 ∙ ap (λ (p : TreeNode). p ∷ []) node ∙ sym second.top.1 in
    let some : 1 ≤ length top = let count : length top ≡ 1 = ap length first.top.1 in omega arith in
    let joined : AreJoinedLevels layout pages (top ∷ two) =
    subst (λ (l : List TreeNode). AreJoinedLevels layout pages (l ∷ two)) (sym same) second.joined in
    let rest : one ≡ two =
    same_below layout pages top one two some first.joined joined
    (all_right P (map (λ (p : TreeNode). p.page) top) (pages_of one) small_one)
    (all_right P (map (λ (p : TreeNode). p.page) other) (pages_of two) small_two) in
    cc

pub one_tree : (layout : RowLayout) (pages : List (Option Sector)) (root : ℕ) (one two : List (List TreeNode))
    → length pages ≤ 2 ^ 20 → IsTreeOrEmpty layout pages root one → IsTreeOrEmpty layout pages root two → one ≡ two
one_tree layout pages root one two small (inl first) (inl second) = first.1 ∙ sym second.1
one_tree layout pages root one two small (inl first) (inr second) = absurd (second.0 first.0)
one_tree layout pages root one two small (inr first) (inl second) = absurd (first.0 second.0)
one_tree layout pages root one two small (inr first) (inr second) =
    one_tree_from layout pages root one two small first.1 second.1
