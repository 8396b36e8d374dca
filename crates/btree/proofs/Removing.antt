-- A tree after a removal.
use Rattle.std.proofs.Common.{◌≡◌, ◌⊎◌, inl, ⊎_elim, ◌<◌, ◌≤◌, ◌+◌, ℕ, List, [], ◌∷◌, ◌++◌, length, map, take}
use Rattle.std.proofs.Common.{drop, refl, sym, ◌∙◌, ap, subst, arith, append_assoc}
use Rattle.std.specs.Prelude.{Option, Some, None, IsSome, slice_index_or}
use Rattle.std.proofs.lemmas.List.{take-append-drop, drop_more}
use Rattle.std.proofs.lemmas.List.Elements.{All-append}
use Rattle.station.specs.Disk.{Sector}
use Rattle.btree_pages.specs.declared.row_layout.RowLayout.{RowLayout}
use Rattle.btree_pages.specs.declared.row_layout.Kind.{Kind}
use Rattle.btree_pages.specs.declared.row_layout.Kind.TheVariants.{Leaf}
use Rattle.btree_pages.specs.Node.{Node}
use Rattle.btree_pages.specs.Keys.{key_of, Precedes, AllBelow}
use Rattle.btree.specs.declared.removal_outcome.RemovalOutcome.{RemovalOutcome}
use Rattle.btree.specs.Tree.{TreeNode, rows_of, IsOnPage, rows_in_order, IsTree}
use Rattle.btree.specs.Path.{LevelZipper, PathStep, level_of, IsPathOf, lowest, EndsAt}
use Rattle.btree.specs.Entries.{Entry, entry_of, entries_of, without_entry}
use Rattle.btree.specs.Propagates.{node_with}
use Rattle.btree.specs.Changes.{CanStand}
use Rattle.btree.specs.Outcomes.{IsRemovalResult}
use Rattle.btree.specs.Shrinks.{ShrinksBy, NeverShrinks, IsFilledTree, IsShrunkRoot, NeverIsShrunkRoot, HasEmptied}
use Rattle.btree.specs.Shrinks.{Shrinks}
use Rattle.btree.specs.Removals.{Lessens, Removes}
use Rattle.btree.proofs.Order.{Up}
use Rattle.btree.proofs.Splices.{rows_append}
use Rattle.btree.proofs.Propagating.{node_stands, some_row}
use Rattle.btree.proofs.Upward.{standing_leaves}
use Rattle.btree.proofs.Entered.{entry_goes, up_goes, left_below}
use Rattle.btree.proofs.NewRoots.{tree_after}
use Rattle.btree.proofs.Settling.{tree_stands, first_of_way, some_first}
use Rattle.btree.proofs.Frames.{tree_holds}
use Rattle.btree.proofs.Searches.{FindsAt, FindsGap, leaf_among, got, got_none}
use Rattle.btree.proofs.Entering.{end_stands, end_in, tree_node_is}
use Rattle.btree.proofs.Shrinking.{shrinks_leaf}

-- What the leaf at the end of a way loses: the row at a place, which has that key.
pub record Loses (layout : RowLayout) (key : List ℕ) (before one : List (Option Sector)) (node : TreeNode) (place : ℕ)
    (out : RemovalOutcome) : Type 0 where
  pub low : place < length node.rows
  pub here : key_of layout (slice_index_or node.rows place []) ≡ key
  pub below : AllBelow layout key (take place node.rows)
  pub fares : IsRemovalResult layout Leaf before one node.page node.rows
      (take place node.rows ++ drop (place + 1) node.rows) out

-- the levels of a tree, after the leaf lost it
lost : (layout : RowLayout) (key : List ℕ) (before one : List (Option Sector)) (root : ℕ)
    (levels : List (List TreeNode)) (steps : List PathStep) (top : LevelZipper) (below : List LevelZipper) (place : ℕ)
    (out : RemovalOutcome) → IsTree layout before root levels → IsPathOf layout key levels steps top below
    → Loses layout key before one (lowest top below).node place out
    → Shrinks layout before (level_of (lowest top below) ∷ []) (lowest top below) one (rows_of (lowest top below).before
    ++ ((take place (lowest top below).node.rows ++ drop (place + 1) (lowest top below).node.rows)
    ++ rows_of (lowest top below).after)) out
lost layout key before one root levels steps top below place out tree leads loses =
    let end =
    standing_leaves layout key before levels steps top below leads (tree_stands layout before root levels tree) in
    shrinks_leaf layout before one (lowest top below) (take place (lowest top below).node.rows
    ++ drop (place + 1) (lowest top below).node.rows) out end.0.joined end.0.once loses.fares

-- the rows around the one that goes
rows_around_gap : (before after rows : List (List ℕ)) (place : ℕ)
    → before ++ ((take place rows ++ drop (place + 1) rows) ++ after)
    ≡ (before ++ take place rows) ++ (drop (place + 1) rows ++ after)
rows_around_gap before after rows place =
    ap (λ x. before ++ x) (append_assoc (take place rows) (drop (place + 1) rows) after)
    ∙ sym (append_assoc before (take place rows) (drop (place + 1) rows ++ after))

rows_around_row : (before after rows : List (List ℕ)) (place : ℕ) → place < length rows → before ++ (rows ++ after)
    ≡ (before ++ take place rows) ++ (slice_index_or rows place [] ∷ (drop (place + 1) rows ++ after))
rows_around_row before after rows place low =
    ap (λ x. before ++ (x ++ after))
    (sym (take-append-drop place rows) ∙ ap (λ x. take place rows ++ x) (drop_more rows place [] low))
    ∙ ap (λ x. before ++ x)
    (append_assoc (take place rows) (slice_index_or rows place [] ∷ drop (place + 1) rows) after)
    ∙ sym (append_assoc before (take place rows) (slice_index_or rows place [] ∷ (drop (place + 1) rows ++ after)))

-- What is left of a tree: the entries but one.
left_of : (layout : RowLayout) (before after : List (Option Sector)) (root new : ℕ) (levels : List (List TreeNode))
    (left right ordered : List (List ℕ)) (row : List ℕ) → IsTree layout before root levels
    → rows_in_order levels ≡ left ++ (row ∷ right) → ordered ≡ left ++ right → AllBelow layout (key_of layout row) left
    → IsFilledTree layout before levels after new ordered ⊎ HasEmptied before levels after new ordered
    → Lessens layout before levels after new (without_entry (entries_of layout levels) (key_of layout row))
left_of layout before after root new levels left right ordered row tree old_rows new_rows lower settled =
    let up : Up layout ordered = subst (λ r. Up layout r) (sym new_rows)
    (up_goes layout left right row (subst (λ r. Up layout r) old_rows tree.ascend)) in
    let entries : map (entry_of layout) ordered ≡ without_entry (entries_of layout levels) (key_of layout row) =
    ap (map (entry_of layout)) new_rows ∙ entry_goes layout left right row lower
    ∙ ap (λ r. without_entry (map (entry_of layout) r) (key_of layout row)) (sym old_rows) in
    ⊎_elim
    (λ well.
    let some = well.settled in
    record {
      became = record {
        levels = some.levels;
        holds = tree_holds layout after new some.levels (tree_after layout before after new levels some.levels
            tree.numbers some.became some.top (subst (λ r. Up layout r) (sym some.rows) up));
        listed = ap (map (entry_of layout)) some.rows ∙ entries;
        moves = some.became.moves;
      };
      fill = well.fill;
    })
    (λ none. record {
      became = record {
        levels = [];
        holds = inl (none.none, refl);
        listed = ap (map (entry_of layout)) (sym none.rows) ∙ entries;
        moves = none.moves;
      };
      fill = λ many. absurd (omega (arith, many));
    })
    settled

-- All together: the leaf lost a row, the levels fell, and the root is settled.
tree_lessened : (layout : RowLayout) (before one two after : List (Option Sector)) (root new : ℕ)
    (levels : List (List TreeNode)) (steps : List PathStep) (top : LevelZipper) (below : List LevelZipper) (place : ℕ)
    (key : List ℕ) (out outcome : RemovalOutcome)
    → IsTree layout before root levels → IsPathOf layout key levels steps top below
    → Loses layout key before one (lowest top below).node place out
    → ShrinksBy layout steps one two out outcome → IsShrunkRoot layout root outcome two after new
    → Lessens layout before levels after new (without_entry (entries_of layout levels) key)
tree_lessened layout before one two after root new levels steps top below place key out outcome tree leads loses shrinks
    settles =
    let leaf = lowest top below in
    let rows = leaf.node.rows in
    let standing = tree_stands layout before root levels tree in
    let end = standing_leaves layout key before levels steps top below leads standing in
    let stands = node_stands layout before leaf [] end.0.joined in
    let left = rows_of leaf.before ++ take place rows in
    let right = drop (place + 1) rows ++ rows_of leaf.after in
    let ordered = rows_of leaf.before ++ ((take place rows ++ drop (place + 1) rows) ++ rows_of leaf.after) in
    let first = first_of_way layout key levels steps top below leads in
    let settled = settles before levels top first.more ordered first.is tree.top standing (shrinks key before levels top
    below ordered standing leads (lost layout key before one root levels steps top below place out tree leads loses)) in
    let whole = ap rows_of end.1 ∙ rows_append leaf.before (leaf.node ∷ leaf.after) in
    let first_row = some_first rows (some_row layout before stands.kind leaf.node stands.stands) in
    let lower : AllBelow layout key left =
    All-append (λ (r : List ℕ). Precedes (key_of layout r) key) (rows_of leaf.before) (take place rows)
    (left_below layout key leaf first_row.0 first_row.1 end.2 first_row.2 (subst (λ r. Up layout r) whole tree.ascend))
    loses.below in
    subst (λ (k : List ℕ). Lessens layout before levels after new (without_entry (entries_of layout levels) k))
    loses.here
    (left_of layout before after root new levels left right ordered (slice_index_or rows place []) tree
    (whole ∙ rows_around_row (rows_of leaf.before) (rows_of leaf.after) rows place loses.low)
    (rows_around_gap (rows_of leaf.before) (rows_of leaf.after) rows place)
    (subst (λ (k : List ℕ). AllBelow layout k left) (sym loses.here) lower) settled)

-- What `take_out` makes of the leaf that was read.
pub record TakenOut (layout : RowLayout) (key : List ℕ) (before one : List (Option Sector)) (page : ℕ) (node : Node)
    (place : ℕ) (out : RemovalOutcome) : Type 0 where
  pub layout_is : node.layout ≡ layout
  pub kind_is : node.kind ≡ Leaf
  pub low : place < length node.rows
  pub here : key_of node.layout (slice_index_or node.rows place []) ≡ key
  pub finds : FindsAt node.layout key node.rows place
  pub fares : CanStand before page node → IsRemovalResult node.layout Leaf before one page node.rows
      (take place node.rows ++ drop (place + 1) node.rows) out

-- the leaf that was read stands at the end of the way
loses_at :
    (layout : RowLayout) (key : List ℕ) (before one : List (Option Sector)) (root : ℕ) (levels : List (List TreeNode))
    (steps : List PathStep) (page : ℕ) (node : Node) (right : Option (List ℕ)) (place : ℕ) (out : RemovalOutcome)
    → IsTree layout before root levels → (ends : EndsAt layout key levels steps page node.rows right)
    → TakenOut layout key before one page node place out
    → Loses layout key before one (lowest ends.reaches.top ends.reaches.below).node place out
loses_at layout key before one root levels steps page node right place out tree ends t =
    let leaf = leaf_among layout before root key levels steps page node.rows right tree ends in
    let end = end_stands layout key before root levels steps page node.rows right tree ends in
    let stands : IsOnPage node.layout before node.kind (node_with page node.rows) =
    subst (λ (f : RowLayout). IsOnPage f before node.kind (node_with page node.rows)) (sym t.layout_is)
    (subst (λ (k : Kind). IsOnPage layout before k (node_with page node.rows)) (sym t.kind_is) end.stands) in
    let raw = t.fares
    (record { is_in = end_in layout before page node.rows end; lengths = stands.lengths; enough = stands.enough }) in
    subst (λ (tree_node : TreeNode). Loses layout key before one tree_node place out)
    (sym (tree_node_is layout key levels steps page node.rows right ends)) (record {
      low = t.low;
      here = subst (λ (f : RowLayout). key_of f (slice_index_or node.rows place []) ≡ key) t.layout_is t.here;
      below = (subst (λ (f : RowLayout). FindsAt f key node.rows place) t.layout_is t.finds leaf.up).0;
      fares = subst (λ (f : RowLayout). IsRemovalResult f Leaf before one page node.rows
          (take place node.rows ++ drop (place + 1) node.rows) out) t.layout_is raw;
    })

-- a tree whose leaf at the end of a way had the key
pub went : (layout : RowLayout) (before one two after : List (Option Sector)) (root new : ℕ)
    (levels : List (List TreeNode)) (steps : List PathStep) (page : ℕ) (node : Node) (right : Option (List ℕ))
    (place : ℕ) (key : List ℕ) (out outcome : RemovalOutcome)
    → IsTree layout before root levels → EndsAt layout key levels steps page node.rows right
    → TakenOut layout key before one page node place out
    → ShrinksBy layout steps one two out outcome → IsShrunkRoot layout root outcome two after new
    → Removes layout before levels after key (Some new)
went layout before one two after root new levels steps page node right place key out outcome tree ends t shrinks
    settles =
    let leaf = leaf_among layout before root key levels steps page node.rows right tree ends in
    let here = subst (λ (f : RowLayout). key_of f (slice_index_or node.rows place []) ≡ key) t.layout_is t.here in
    let finds = subst (λ (f : RowLayout). FindsAt f key node.rows place) t.layout_is t.finds in (
      subst (λ (o : Option Entry). IsSome o) (got layout key levels node.rows right place leaf t.low here finds) refl,
      tree_lessened layout before one two after root new levels steps ends.reaches.top ends.reaches.below place key out
          outcome tree ends.reaches.leads
          (loses_at layout key before one root levels steps page node right place out tree ends t) shrinks settles,
    )

-- Where there is a tree, its levels shrink, and its root is settled.
pub never_went : (layout : RowLayout) (before one : List (Option Sector)) (root : ℕ) (levels : List (List TreeNode))
    (steps : List PathStep) (page : ℕ) (node : Node) (right : Option (List ℕ)) (place : ℕ) (key : List ℕ)
    (out : RemovalOutcome)
    → IsTree layout before root levels → EndsAt layout key levels steps page node.rows right
    → TakenOut layout key before one page node place out → NeverShrinks layout steps one out → ⊥
never_went layout before one root levels steps page node right place key out tree ends t never =
    let leaf = lowest ends.reaches.top ends.reaches.below in
    let rows = leaf.node.rows in
    never key before levels ends.reaches.top
    ends.reaches.below (rows_of leaf.before ++ ((take place rows ++ drop (place + 1) rows) ++ rows_of leaf.after))
    (tree_stands layout before root levels tree) ends.reaches.leads
    (lost layout key before one root levels steps ends.reaches.top ends.reaches.below place out tree ends.reaches.leads
    (loses_at layout key before one root levels steps page node right place out tree ends t))

pub never_left : (layout : RowLayout) (before one two : List (Option Sector)) (root : ℕ) (levels : List (List TreeNode))
    (steps : List PathStep) (page : ℕ) (node : Node) (right : Option (List ℕ)) (place : ℕ) (key : List ℕ)
    (out outcome : RemovalOutcome)
    → IsTree layout before root levels → EndsAt layout key levels steps page node.rows right
    → TakenOut layout key before one page node place out → ShrinksBy layout steps one two out outcome
    → NeverIsShrunkRoot layout root outcome two → ⊥
never_left layout before one two root levels steps page node right place key out outcome tree ends t shrinks never =
    let top = ends.reaches.top in
    let leaf = lowest top ends.reaches.below in
    let rows = leaf.node.rows in
    let ordered = rows_of leaf.before ++ ((take place rows ++ drop (place + 1) rows) ++ rows_of leaf.after) in
    let standing = tree_stands layout before root levels tree in
    let first = first_of_way layout key levels steps top ends.reaches.below ends.reaches.leads in
    never before levels top first.more ordered first.is tree.top standing
    (shrinks key before levels top ends.reaches.below ordered standing ends.reaches.leads
    (lost layout key before one root levels steps top ends.reaches.below place out tree ends.reaches.leads
    (loses_at layout key before one root levels steps page node right place out tree ends t)))

-- where the key isn't there
pub not_there : (layout : RowLayout) (before after : List (Option Sector)) (root : ℕ) (levels : List (List TreeNode))
    (steps : List PathStep) (page : ℕ) (rows : List (List ℕ)) (right : Option (List ℕ)) (place : ℕ) (key : List ℕ)
    → IsTree layout before root levels → EndsAt layout key levels steps page rows right → place ≤ length rows
    → FindsGap layout key rows place → Removes layout before levels after key None
not_there layout before after root levels steps page rows right place key tree ends low finds =
    sym (got_none layout key levels rows right place
    (leaf_among layout before root key levels steps page rows right tree ends) low finds)
