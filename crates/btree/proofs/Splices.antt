-- Levels in which a run of neighbouring nodes is replaced by another.
use Rattle.std.proofs.Common.{◌≡◌, ⊎_elim, ◌+◌, ℕ, List, [], ◌∷◌, ◌++◌, length, map, refl, sym, ◌∙◌, ap, arith}
use Rattle.std.proofs.Common.{append_assoc, length-append}
use Rattle.std.specs.Prelude.{Option, None}
use Rattle.std.specs.List.{All}
use Rattle.std.proofs.lemmas.List.{map-append, append_cancel_left, length-map}
use Rattle.std.proofs.lemmas.List.Concat.{flat_map-append}
use Rattle.std.proofs.lemmas.List.Elements.{Contains-append_left, Contains-append_right, Contains-append_cases}
use Rattle.std.proofs.lemmas.List.Elements.{All-head, All-tail, All-cons, All-nil}
use Rattle.station.specs.Disk.{Sector}
use Rattle.btree_pages.specs.declared.row_layout.RowLayout.{RowLayout}
use Rattle.btree_pages.specs.declared.row_layout.Kind.{Kind}
use Rattle.btree_pages.specs.declared.row_layout.Kind.TheVariants.{Leaf, Inner}
use Rattle.btree.specs.Tree.{TreeNode, row_of, rows_of, node_on, IsOnPage, AreJoinedLevels, pages_of}
use Rattle.btree.specs.Moves.{numbers_of}
use Rattle.btree.proofs.Runs.{same_cut, in_none, in_cases}
use Rattle.btree.proofs.Shifts.{There, Kept, sector_of}

pub rows_append : (a b : List TreeNode) → rows_of (a ++ b) ≡ rows_of a ++ rows_of b
rows_append a b = flat_map-append (λ (node : TreeNode). node.rows) a b

pub numbers_append : (a b : List TreeNode) → numbers_of (a ++ b) ≡ numbers_of a ++ numbers_of b
numbers_append a b = map-append (λ (node : TreeNode). node.page) a b

-- A level's rows, around those of a run.
pub rows_around : (layout : RowLayout) (before run after : List TreeNode) (left mid right : List (List ℕ))
    → rows_of run ≡ left ++ (mid ++ right)
    → rows_of (before ++ (run ++ after)) ≡ (rows_of before ++ left) ++ (mid ++ (right ++ rows_of after))
rows_around layout before run after left mid right is =
    rows_append before (run ++ after)
    ∙ ap (λ x. rows_of before ++ x) (rows_append run after ∙ ap (λ x. x ++ rows_of after) is
    ∙ append_assoc left (mid ++ right) (rows_of after) ∙ ap (λ x. left ++ x) (append_assoc mid right (rows_of after)))
    ∙ sym (append_assoc (rows_of before) left (mid ++ (right ++ rows_of after)))

pub names_around : (layout : RowLayout) (before low after : List TreeNode) → map (row_of layout)
    (before ++ (low ++ after)) ≡ map (row_of layout) before ++ (map (row_of layout) low ++ map (row_of layout) after)
names_around layout before low after = map-append (row_of layout) before (low ++ after)
    ∙ ap (λ x. map (row_of layout) before ++ x) (map-append (row_of layout) low after)

-- In a level `run` becomes `run'`, and in the next one `low`, whose rows `run` had, becomes `low'`.
pub record Named (layout : RowLayout) (before run run' lower_before low low' : List TreeNode)
    (left right : List (List ℕ)) : Type 0 where
  pub place : length (rows_of before) + length left ≡ length lower_before
  pub was : rows_of run ≡ left ++ (map (row_of layout) low ++ right)
  pub is : rows_of run' ≡ left ++ (map (row_of layout) low' ++ right)

pub rows_replaced : (layout : RowLayout) (before run run' after lower_before low low' lower_after : List TreeNode)
    (left right : List (List ℕ))
    → Named layout before run run' lower_before low low' left right
    → rows_of (before ++ (run ++ after)) ≡ map (row_of layout) (lower_before ++ (low ++ lower_after))
    → rows_of (before ++ (run' ++ after)) ≡ map (row_of layout) (lower_before ++ (low' ++ lower_after))
rows_replaced layout before run run' after lower_before low low' lower_after left right named same =
    let both = same_cut (rows_of before ++ left) (map (row_of layout) low ++ (right ++ rows_of after))
    (map (row_of layout) lower_before) (map (row_of layout) low ++ map (row_of layout) lower_after)
    (length-append (rows_of before) left ∙ named.place ∙ sym (length-map lower_before (row_of layout)))
    (sym (rows_around layout before run after left (map (row_of layout) low) right named.was) ∙ same
    ∙ names_around layout lower_before low lower_after) in
    let tails =
    append_cancel_left (map (row_of layout) low) (right ++ rows_of after) (map (row_of layout) lower_after) both.1 in
    rows_around layout before run' after left (map (row_of layout) low') right named.is
    ∙ ap (λ x. x ++ (map (row_of layout) low' ++ (right ++ rows_of after))) both.0
    ∙ ap (λ x. map (row_of layout) lower_before ++ (map (row_of layout) low' ++ x)) tails
    ∙ sym (names_around layout lower_before low' lower_after)

-- nodes whose pages stay
pub stands_still : (layout : RowLayout) (pages after : List (Option Sector)) (kind : Kind) (tree_node : TreeNode)
    → sector_of after tree_node.page ≡ sector_of pages tree_node.page → IsOnPage layout pages kind tree_node
    → IsOnPage layout after kind tree_node
stands_still layout pages after kind tree_node same stands =
    record { node = ap (node_on layout) same ∙ stands.node; lengths = stands.lengths; enough = stands.enough }

pub all_still : (layout : RowLayout) (pages after : List (Option Sector)) (kind : Kind) (nodes : List TreeNode)
    → Kept pages after (numbers_of nodes) → All (IsOnPage layout pages kind) nodes
    → All (IsOnPage layout after kind) nodes
all_still layout pages after kind [] kept all = All-nil (IsOnPage layout after kind)
all_still layout pages after kind (node ∷ nodes) kept all =
    All-cons (IsOnPage layout after kind) node nodes
    (stands_still layout pages after kind node (kept node.page (Contains-append_left (node.page ∷ []) (numbers_of nodes)
    node.page (0, omega arith, refl))) (All-head (IsOnPage layout pages kind) node nodes all))
    (all_still layout pages after kind nodes (λ page has. kept page (Contains-append_right (node.page ∷ [])
    (numbers_of nodes) page has)) (All-tail (IsOnPage layout pages kind) node nodes all))

pub joined_still : (layout : RowLayout) (pages after : List (Option Sector)) (levels : List (List TreeNode))
    → Kept pages after (pages_of levels) → AreJoinedLevels layout pages levels → AreJoinedLevels layout after levels
joined_still layout pages after [] kept joined = joined
joined_still layout pages after (leaves ∷ []) kept joined =
    all_still layout pages after Leaf leaves
    (λ page has. kept page (Contains-append_left (numbers_of leaves) [] page has)) joined
joined_still layout pages after (upper ∷ lower ∷ more) kept joined = (
  all_still layout pages after Inner upper
      (λ page has. kept page (Contains-append_left (numbers_of upper) (pages_of (lower ∷ more)) page has)) joined.0,
  joined.1,
  joined_still layout pages after (lower ∷ more)
      (λ page has. kept page (Contains-append_right (numbers_of upper) (pages_of (lower ∷ more)) page has)) joined.2,
)

-- a node's page is in the map
pub no_node : (layout : RowLayout) (pages : List (Option Sector)) (kind : Kind) (node : TreeNode)
    → IsOnPage layout pages kind node → sector_of pages node.page ≡ None → ⊥
no_node layout pages kind node stands none = let clash = sym (ap (node_on layout) none) ∙ stands.node in cc

pub all_there : (layout : RowLayout) (pages : List (Option Sector)) (kind : Kind) (nodes : List TreeNode)
    → All (IsOnPage layout pages kind) nodes → There pages (numbers_of nodes)
all_there layout pages kind [] all page has none = in_none page has
all_there layout pages kind (node ∷ nodes) all page has none =
    ⊎_elim (λ same. no_node layout pages kind node (All-head (IsOnPage layout pages kind) node nodes all)
    (sym (ap (sector_of pages) same) ∙ none))
    (λ in_rest.
    all_there layout pages kind nodes (All-tail (IsOnPage layout pages kind) node nodes all) page in_rest none)
    (in_cases node.page (numbers_of nodes) page has)

there_both : (pages : List (Option Sector)) (a b : List ℕ) → There pages a → There pages b → There pages (a ++ b)
there_both pages a b one two page has none =
    ⊎_elim (λ left. one page left none) (λ right. two page right none) (Contains-append_cases a b page has)

pub joined_there : (layout : RowLayout) (pages : List (Option Sector)) (levels : List (List TreeNode))
    → AreJoinedLevels layout pages levels → There pages (pages_of levels)
joined_there layout pages [] joined = absurd joined
joined_there layout pages (leaves ∷ []) joined = there_both pages (numbers_of leaves) []
    (all_there layout pages Leaf leaves joined) (λ page has none. in_none page has)
joined_there layout pages (upper ∷ lower ∷ more) joined =
    there_both pages (numbers_of upper) (pages_of (lower ∷ more)) (all_there layout pages Inner upper joined.0)
    (joined_there layout pages (lower ∷ more) joined.2)

pub all_left : {X : Type 0} (P : X → Type 0) (a b : List X) → All P (a ++ b) → All P a
all_left P [] b all = All-nil P
all_left P (x ∷ a) b all = All-cons P x a (All-head P x (a ++ b) all) (all_left P a b (All-tail P x (a ++ b) all))

pub all_right : {X : Type 0} (P : X → Type 0) (a b : List X) → All P (a ++ b) → All P b
all_right P [] b all = all
all_right P (x ∷ a) b all = all_right P a b (All-tail P x (a ++ b) all)
