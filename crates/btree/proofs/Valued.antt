-- A tree in which an entry got another value.
use Rattle.std.proofs.Common.{◌≡◌, ◌<◌, ◌+◌, ℕ, zero, suc, List, [], ◌∷◌, ◌++◌, length, map, take, drop, set, refl, sym}
use Rattle.std.proofs.Common.{◌∙◌, ap, subst, arith, append_assoc}
use Rattle.std.specs.Prelude.{Option, None, IsSome, slice_index_or}
use Rattle.std.proofs.lemmas.List.{append-nil, set_split, take_at, drop_more, take-append-drop, get_or-set_same}
use Rattle.std.proofs.lemmas.List.{get_or-set_other, length-take-le}
use Rattle.std.proofs.lemmas.List.Elements.{All-append}
use Rattle.station.specs.Disk.{Sector}
use Rattle.btree_pages.specs.declared.row_layout.RowLayout.{RowLayout}
use Rattle.btree_pages.specs.declared.row_layout.Kind.{Kind}
use Rattle.btree_pages.specs.declared.row_layout.Kind.TheVariants.{Leaf}
use Rattle.btree_pages.specs.Node.{Node}
use Rattle.btree_pages.specs.Keys.{key_of, Precedes, AllBelow}
use Rattle.btree.specs.Tree.{TreeNode, rows_of, IsOnPage, rows_in_order, IsTree}
use Rattle.btree.specs.Path.{LevelZipper, PathStep, IsPathOf, lowest, EndsAt}
use Rattle.btree.specs.Entries.{Entry, entry_of, entries_of, entry_with, with_value}
use Rattle.btree.specs.Moves.{ReplacesNodes}
use Rattle.btree.specs.Propagates.{node_with, IsSame}
use Rattle.btree.specs.Changes.{CanStand, Becomes}
use Rattle.btree.proofs.Order.{Up}
use Rattle.btree.proofs.Frames.{tree_holds}
use Rattle.btree.proofs.Searches.{FindsAt, leaf_among, got}
use Rattle.btree.proofs.Entering.{end_stands, end_in, tree_node_is}
use Rattle.btree.proofs.Splices.{rows_append}
use Rattle.btree.proofs.Propagating.{propagates_leaf, node_stands, some_row}
use Rattle.btree.proofs.Upward.{standing_leaves, propagates_still}
use Rattle.btree.proofs.Entered.{entry_changes, up_changes, left_below}
use Rattle.btree.proofs.NewRoots.{tree_after}
use Rattle.btree.proofs.Settling.{tree_stands, first_of_way, settle_same, some_first, entry_is}

-- the row of an entry with another value
abbrev pub valued_row : RowLayout → List (List ℕ) → ℕ → List ℕ → List ℕ
valued_row layout rows place value = key_of layout (slice_index_or rows place []) ++ value

-- the first row keeps its key
least_valued : (layout : RowLayout) (rows : List (List ℕ)) (place : ℕ) (value : List ℕ) → place < length rows
    → length (key_of layout (slice_index_or rows place [])) ≡ layout.key_length
    → key_of layout (slice_index_or (set rows place (valued_row layout rows place value)) 0 [])
    ≡ key_of layout (slice_index_or rows 0 [])
least_valued layout rows zero value low is =
    ap (key_of layout) (get_or-set_same rows 0 (valued_row layout rows 0 value) [] low)
    ∙ take_at (key_of layout (slice_index_or rows 0 [])) value layout.key_length is
least_valued layout rows (suc place) value low is =
    let other : 0 ≡ suc place → ⊥ = λ same. omega (arith, same) in
    ap (key_of layout) (get_or-set_other rows (suc place) 0 (valued_row layout rows (suc place) value) [] other)

rows_around_place : (before after : List (List ℕ)) (rows : List (List ℕ)) (place : ℕ) (row : List ℕ)
    → before ++ ((take place rows ++ (row ∷ drop (place + 1) rows)) ++ after)
    ≡ (before ++ take place rows) ++ (row ∷ (drop (place + 1) rows ++ after))
rows_around_place before after rows place row =
    ap (λ x. before ++ x) (append_assoc (take place rows) (row ∷ drop (place + 1) rows) after)
    ∙ sym (append_assoc before (take place rows) (row ∷ (drop (place + 1) rows ++ after)))

pub tree_valued : (layout : RowLayout) (before after : List (Option Sector)) (root : ℕ) (levels : List (List TreeNode))
    (steps : List PathStep) (top : LevelZipper) (below : List LevelZipper) (place : ℕ) (key value : List ℕ)
    → IsTree layout before root levels → IsPathOf layout key levels steps top below → place < length
    (lowest top below).node.rows → key_of layout (slice_index_or (lowest top below).node.rows place []) ≡ key
    → AllBelow layout key (take place (lowest top below).node.rows)
    → ReplacesNodes layout Leaf before ((lowest top below).node ∷ []) after (node_with (lowest top below).node.page
    (set (lowest top below).node.rows place (valued_row layout (lowest top below).node.rows place value)) ∷ [])
    → Becomes layout before levels after root
    (with_value (entries_of layout levels) (record { key = key; value = value }))
tree_valued layout before after root levels steps top below place key value tree leads low here under own =
    let leaf = lowest top below in
    let rows = leaf.node.rows in
    let row = slice_index_or rows place [] in
    let new = valued_row layout rows place value in
    let end =
    standing_leaves layout key before levels steps top below leads (tree_stands layout before root levels tree) in
    let stands = node_stands layout before leaf [] end.0.joined in
    let row_length : length (key_of layout row) ≡ layout.key_length =
    length-take-le layout.key_length row (omega (arith, stands.stands.lengths place [] low)) in
    let same_key : key_of layout new ≡ key_of layout row =
    take_at (key_of layout row) value layout.key_length row_length in
    let run = node_with leaf.node.page (set rows place new) ∷ [] in
    let tells : IsSame layout leaf.node run = record {
      node = node_with leaf.node.page (set rows place new);
      alone = refl;
      page = refl;
      least = least_valued layout rows place value low row_length;
    } in
    let bottom = propagates_leaf layout before after leaf run None end.0.joined end.0.once own tells in
    let ordered = rows_of leaf.before ++ (rows_of run ++ rows_of leaf.after) in
    let propagated = propagates_still layout after steps key before levels top below ordered
    (tree_stands layout before root levels tree) leads bottom in
    let first = first_of_way layout key levels steps top below leads in
    let settled = settle_same layout root after before levels top first.more ordered first.is tree.top
    (tree_stands layout before root levels tree).once propagated in
    let left = rows_of leaf.before ++ take place rows in
    let right = drop (place + 1) rows ++ rows_of leaf.after in
    let next : suc place ≡ place + 1 = omega arith in
    let set_rows : set rows place new ≡ take place rows ++ (new ∷ drop (place + 1) rows) =
    set_split rows place new low ∙ ap (λ (n : ℕ). take place rows ++ (new ∷ drop n rows)) next in
    let old_cut : rows ≡ take place rows ++ (row ∷ drop (place + 1) rows) =
    sym (take-append-drop place rows) ∙ ap (λ ys. take place rows ++ ys) (drop_more rows place [] low) in
    let old_rows : rows_in_order levels ≡ left ++ (row ∷ right) =
    ap rows_of end.1 ∙ rows_append leaf.before (leaf.node ∷ leaf.after)
    ∙ ap (λ r. rows_of leaf.before ++ (r ++ rows_of leaf.after)) old_cut
    ∙ rows_around_place (rows_of leaf.before) (rows_of leaf.after) rows place row in
    let new_rows : rows_in_order settled.levels ≡ left ++ (new ∷ right) =
    settled.rows
    ∙ ap (λ r. rows_of leaf.before ++ (r ++ rows_of leaf.after)) (append-nil (set rows place new) ∙ set_rows)
    ∙ rows_around_place (rows_of leaf.before) (rows_of leaf.after) rows place new in
    let first_row = some_first rows (some_row layout before stands.kind leaf.node stands.stands) in
    let up_old =
    subst (λ r. Up layout r) (ap rows_of end.1 ∙ rows_append leaf.before (leaf.node ∷ leaf.after)) tree.ascend in
    let lower : AllBelow layout key left =
    All-append (λ (r : List ℕ). Precedes (key_of layout r) key) (rows_of leaf.before) (take place rows)
    (left_below layout key leaf first_row.0 first_row.1 end.2 first_row.2 up_old) under in
    let new_key : key_of layout new ≡ key = same_key ∙ here in
    let up = up_changes layout left right row new (sym same_key) (subst (λ r. Up layout r) old_rows tree.ascend) in
    let made : entry_of layout new ≡ record { key = key; value = value } =
    entry_is layout (key_of layout row) value row_length
    ∙ ap (λ (k : List ℕ). record { key = k; value = value }) here in
    record {
      levels = settled.levels;
      holds = tree_holds layout after root settled.levels (tree_after layout before after root levels settled.levels
          tree.numbers settled.became settled.top (subst (λ r. Up layout r) (sym new_rows) up));
      listed = ap (map (entry_of layout)) new_rows ∙ entry_changes layout left right row new (sym same_key)
          (subst (λ k. AllBelow layout k left) (sym new_key) lower)
          ∙ ap (λ r. with_value (map (entry_of layout) r) (entry_of layout new)) (sym old_rows)
          ∙ ap (with_value (entries_of layout levels)) made;
      moves = settled.became.moves;
    }

-- the leaf at the end of a way got another value at a place
pub end_valued : (layout : RowLayout) (before after : List (Option Sector)) (root : ℕ) (levels : List (List TreeNode))
    (steps : List PathStep) (page : ℕ) (node : Node) (right : Option (List ℕ)) (place : ℕ) (key value : List ℕ)
    → IsTree layout before root levels → EndsAt layout key levels steps page node.rows right → node.layout ≡ layout
    → node.kind ≡ Leaf
    → place < length node.rows → key_of node.layout (slice_index_or node.rows place []) ≡ key
    → FindsAt node.layout key node.rows place
    → (CanStand before page node → ReplacesNodes node.layout node.kind before (node_with page node.rows ∷ []) after
    (node_with page (set node.rows place (key_of node.layout (slice_index_or node.rows place []) ++ value)) ∷ []))
    → IsSome (entry_with (entries_of layout levels) key) × Becomes layout before levels after root
    (with_value (entries_of layout levels) (record { key = key; value = value }))
end_valued layout before after root levels steps page node right place key value tree ends layout_is kind_is low here
    finds put =
    let leaf = leaf_among layout before root key levels steps page node.rows right tree ends in
    let end = end_stands layout key before root levels steps page node.rows right tree ends in
    let same = tree_node_is layout key levels steps page node.rows right ends in
    let here_in : key_of layout (slice_index_or node.rows place []) ≡ key =
    subst (λ (f : RowLayout). key_of f (slice_index_or node.rows place []) ≡ key) layout_is here in
    let finds_in = subst (λ (f : RowLayout). FindsAt f key node.rows place) layout_is finds in
    let stands : IsOnPage node.layout before node.kind (node_with page node.rows) =
    subst (λ (f : RowLayout). IsOnPage f before node.kind (node_with page node.rows)) (sym layout_is)
    (subst (λ (k : Kind). IsOnPage layout before k (node_with page node.rows)) (sym kind_is) end.stands) in
    let raw = put
    (record { is_in = end_in layout before page node.rows end; lengths = stands.lengths; enough = stands.enough }) in
    let kinded =
    subst (λ (k : Kind). ReplacesNodes node.layout k before (node_with page node.rows ∷ []) after (node_with page
    (set node.rows place (key_of node.layout (slice_index_or node.rows place []) ++ value)) ∷ [])) kind_is raw in
    let formed = subst (λ (f : RowLayout). ReplacesNodes f Leaf before (node_with page node.rows ∷ []) after (node_with
    page (set node.rows place (key_of f (slice_index_or node.rows place []) ++ value)) ∷ [])) layout_is kinded in
    let own = subst (λ (tree_node : TreeNode). ReplacesNodes layout Leaf before (tree_node ∷ []) after (node_with
    tree_node.page (set tree_node.rows place (valued_row layout tree_node.rows place value)) ∷ [])) (sym same) formed in
    let same_rows = ap (λ (tree_node : TreeNode). tree_node.rows) same in (
      subst (λ (o : Option Entry). IsSome o) (got layout key levels node.rows right place leaf low here_in finds_in)
          refl,
      tree_valued layout before after root levels steps ends.reaches.top ends.reaches.below place key value tree
          ends.reaches.leads
          (subst (λ r. place < length r) (sym same_rows) low)
          (subst (λ r. key_of layout (slice_index_or r place []) ≡ key) (sym same_rows) here_in)
          (subst (λ r. AllBelow layout key (take place r)) (sym same_rows) (finds_in leaf.up).0) own,
    )
