-- A change goes up from the leaf, level by level.
use Rattle.std.proofs.Common.{◌≡◌, inl, ◌<◌, ◌+◌, ℕ, List, [], ◌∷◌, ◌++◌, length, map, take, drop, get_or, refl, sym}
use Rattle.std.proofs.Common.{◌∙◌, ap, arith, length-append}
use Rattle.std.specs.Prelude.{Option, None, slice_index_or}
use Rattle.std.specs.List.{All}
use Rattle.std.proofs.lemmas.List.{append-nil, length-map, length-take-le, take-append-drop, drop_more, drop_at}
use Rattle.std.proofs.lemmas.List.Elements.{All-head}
use Rattle.byteorder.specs.Endian.{big_bytes}
use Rattle.station.specs.Disk.{Sector}
use Rattle.btree_pages.specs.declared.row_layout.RowLayout.{RowLayout}
use Rattle.btree_pages.specs.declared.row_layout.Kind.{Kind}
use Rattle.btree_pages.specs.declared.row_layout.Kind.TheVariants.{Leaf, Inner}
use Rattle.btree_pages.specs.Keys.{rest_of}
use Rattle.btree.specs.declared.split_result.SplitResult.{SplitResult}
use Rattle.btree.specs.Tree.{TreeNode, least_key, row_of, rows_of, IsOnPage, AreJoinedLevels, pages_of}
use Rattle.btree.specs.Path.{LevelZipper, level_of, PathStep, StepsTo}
use Rattle.btree.specs.Moves.{Moves, Once, ReplacesNodes}
use Rattle.btree.specs.Propagates.{SplitUpdate, Propagates}
use Rattle.btree.specs.Changes.{UpdatesParent}
use Rattle.btree.proofs.Runs.{same_cut, in_none}
use Rattle.btree.proofs.Splices.{rows_append, rows_around, names_around, all_left, all_right}
use Rattle.btree.proofs.Steps.{step, step_leaves, own_kept}

-- a node that stands has a row, and so a key
pub some_row : (layout : RowLayout) (pages : List (Option Sector)) (kind : Kind) (node : TreeNode)
    → IsOnPage layout pages kind node → 0 < length node.rows
some_row layout pages Leaf node stands = omega (arith, stands.enough)
some_row layout pages Inner node stands = omega (arith, stands.enough)

pub key_length : (layout : RowLayout) (pages : List (Option Sector)) (kind : Kind) (node : TreeNode)
    → IsOnPage layout pages kind node → length (least_key layout node) ≡ layout.key_length
key_length layout pages kind node stands =
    length-take-le layout.key_length (get_or node.rows 0 [])
    (omega (arith, stands.lengths 0 [] (some_row layout pages kind node stands)))

-- what a row of an inner page has after its key: the page of the node
pub row_names : (layout : RowLayout) (pages : List (Option Sector)) (kind : Kind) (node : TreeNode)
    → IsOnPage layout pages kind node → rest_of layout (row_of layout node) ≡ big_bytes 4 node.page
row_names layout pages kind node stands =
    drop_at (least_key layout node) (big_bytes 4 node.page) layout.key_length (key_length layout pages kind node stands)

-- each node of the first level stands
pub record StandsSo (layout : RowLayout) (pages : List (Option Sector)) (node : TreeNode) : Type 0 where
  pub kind : Kind
  pub stands : IsOnPage layout pages kind node

pub node_stands : (layout : RowLayout) (pages : List (Option Sector)) (spot : LevelZipper) (more : List (List TreeNode))
    → AreJoinedLevels layout pages (level_of spot ∷ more) → StandsSo layout pages spot.node
node_stands layout pages spot [] joined = record {
  kind = Leaf;
  stands = All-head (IsOnPage layout pages Leaf) spot.node spot.after
      (all_right (IsOnPage layout pages Leaf) spot.before (spot.node ∷ spot.after) joined);
}
node_stands layout pages spot (lower ∷ more) joined = record {
  kind = Inner;
  stands = All-head (IsOnPage layout pages Inner) spot.node spot.after
      (all_right (IsOnPage layout pages Inner) spot.before (spot.node ∷ spot.after) joined.0);
}

cut_at : {X : Type 0} (xs : List X) (place : ℕ) (d : X) → place < length xs
    → xs ≡ take place xs ++ (get_or xs place d ∷ drop (place + 1) xs)
cut_at xs place d low = sym (take-append-drop place xs) ∙ ap (λ ys. take place xs ++ ys) (drop_more xs place d low)

-- the row at a step is that of the node below
pub record StepsHere (layout : RowLayout) (spot : LevelZipper) (step : PathStep) (next : LevelZipper) : Type 0 where
  pub row : slice_index_or spot.node.rows step.place [] ≡ row_of layout next.node
  pub rows : spot.node.rows
      ≡ take step.place spot.node.rows ++ (row_of layout next.node ∷ drop (step.place + 1) spot.node.rows)
  pub count : length (rows_of spot.before) + length (take step.place spot.node.rows) ≡ length next.before

pub steps_here : (layout : RowLayout) (spot next : LevelZipper) (step : PathStep) → StepsTo spot step next
    → rows_of (level_of spot) ≡ map (row_of layout) (level_of next) → StepsHere layout spot step next
steps_here layout spot next step steps names =
    let here = cut_at spot.node.rows step.place [] steps.place in
    let front = length-take-le step.place spot.node.rows (omega (arith, steps.place)) in
    let count : length (rows_of spot.before) + length (take step.place spot.node.rows) ≡ length next.before =
    omega (arith, front, steps.leads) in
    let both = same_cut
    (rows_of spot.before ++ take step.place spot.node.rows)
    (get_or spot.node.rows step.place [] ∷ (drop (step.place + 1) spot.node.rows ++ rows_of spot.after))
    (map (row_of layout) next.before)
    (row_of layout next.node ∷ map (row_of layout) next.after)
    (length-append (rows_of spot.before) (take step.place spot.node.rows) ∙ count
    ∙ sym (length-map next.before (row_of layout)))
    (sym (rows_around layout spot.before (spot.node ∷ []) spot.after (take step.place spot.node.rows) (get_or
    spot.node.rows step.place [] ∷ []) (drop (step.place + 1) spot.node.rows) (append-nil spot.node.rows ∙ here))
    ∙ names ∙ names_around layout next.before (next.node ∷ []) next.after) in
    let same : get_or spot.node.rows step.place [] ≡ row_of layout next.node = let tail = both.1 in cc in
    record {
      row = same;
      rows = here ∙ ap (λ r. take step.place spot.node.rows ++ (r ∷ drop (step.place + 1) spot.node.rows)) same;
      count = count;
    }

pub propagates_to : (layout : RowLayout) (one two three : List (Option Sector)) (spot next : LevelZipper)
    (path_step : PathStep) (more : List (List TreeNode)) (rows : List (List ℕ)) (told up : Option SplitResult)
    → AreJoinedLevels layout one (level_of spot ∷ level_of next ∷ more)
    → Once (pages_of (level_of spot ∷ level_of next ∷ more)) → StepsTo spot path_step next
    → (below : Propagates layout one (level_of next ∷ more) next two rows told)
    → UpdatesParent layout two three spot.node.page spot.node.rows path_step.place below.run up
    → Propagates layout one (level_of spot ∷ level_of next ∷ more) spot three rows up
propagates_to layout one two three spot next path_step more rows told up joined once steps below updates =
    let here = steps_here layout spot next path_step steps joined.1 in
    record {
      run = updates.run;
      more = (next.before ++ (below.run ++ next.after)) ∷ below.more;
      became = step layout one two three spot.before (spot.node ∷ []) updates.run spot.after next.before
          (next.node ∷ []) below.run next.after more below.more
          (take path_step.place spot.node.rows) (drop (path_step.place + 1) spot.node.rows) joined once below.became
          updates.own
          (record { place = here.count; was = append-nil spot.node.rows ∙ here.rows; is = updates.rows });
      rows = below.rows;
      tells = updates.tells;
    }

-- nothing to be told: the spot's node stays as it is
stays_moves : (pages : List (Option Sector)) (list : List ℕ) → Moves pages list pages list
stays_moves pages list =
    record { count = refl; others = λ page was is. refl; joins = λ page has. inl has; leaves = λ page has. inl has }

pub propagates_same : (layout : RowLayout) (one two : List (Option Sector)) (spot next : LevelZipper) (step : PathStep)
    (more : List (List TreeNode)) (rows : List (List ℕ))
    → AreJoinedLevels layout one (level_of spot ∷ level_of next ∷ more)
    → Once (pages_of (level_of spot ∷ level_of next ∷ more)) → StepsTo spot step next
    → Propagates layout one (level_of next ∷ more) next two rows None
    → Propagates layout one (level_of spot ∷ level_of next ∷ more) spot two rows None
propagates_same layout one two spot next step more rows joined once steps below =
    let here = steps_here layout spot next step steps joined.1 in
    let stand = own_kept layout one two spot.before (spot.node ∷ []) spot.after (level_of next ∷ more)
    ((next.before ++ (below.run ++ next.after)) ∷ below.more) joined.0 once below.became in
    let names : map (row_of layout) below.run ≡ row_of layout next.node ∷ [] =
    ap (map (row_of layout)) below.tells.alone
    ∙ ap (λ (page : ℕ). (least_key layout below.tells.node ++ big_bytes 4 page) ∷ []) below.tells.page
    ∙ ap (λ (key : List ℕ). (key ++ big_bytes 4 next.node.page) ∷ []) below.tells.least in
    propagates_to layout one two two spot next step more rows None None joined once steps below (record {
      run = spot.node ∷ [];
      own = record {
        stand = all_left (IsOnPage layout two Inner) (spot.node ∷ []) spot.after
            (all_right (IsOnPage layout two Inner) spot.before ((spot.node ∷ []) ++ spot.after) stand);
        once = (in_none spot.node.page, tt);
        moves = stays_moves two (spot.node.page ∷ []);
      };
      rows = append-nil spot.node.rows ∙ here.rows
          ∙ ap (λ x. take step.place spot.node.rows ++ (x ++ drop (step.place + 1) spot.node.rows)) (sym names);
      tells = record { node = spot.node; alone = refl; page = refl; least = refl };
    })

-- the change of the leaf itself
pub propagates_leaf : (layout : RowLayout) (one three : List (Option Sector)) (spot : LevelZipper) (run : List TreeNode)
    (told : Option SplitResult)
    → All (IsOnPage layout one Leaf) (level_of spot) → Once (pages_of (level_of spot ∷ []))
    → ReplacesNodes layout Leaf one (spot.node ∷ []) three run → SplitUpdate layout spot.node run told
    → Propagates layout one (level_of spot ∷ []) spot three (rows_of spot.before ++ (rows_of run ++ rows_of spot.after))
    told
propagates_leaf layout one three spot run told stand once own tells = record {
  run = run;
  more = [];
  became = step_leaves layout one three spot.before (spot.node ∷ []) run spot.after stand once own;
  rows = rows_append spot.before (run ++ spot.after) ∙ ap (λ x. rows_of spot.before ++ x) (rows_append run spot.after);
  tells = tells;
}
