-- The root after a removal.
use Rattle.std.proofs.Common.{◌≡◌, inl, inr, ◌<◌, ◌≤◌, ◌^◌, ℕ, List, [], ◌∷◌, ◌++◌, length, map, refl, sym, ◌∙◌, ap}
use Rattle.std.proofs.Common.{subst, arith}
use Rattle.std.specs.Prelude.{Option, slice_index_or}
use Rattle.std.specs.List.{All}
use Rattle.std.proofs.lemmas.List.{append-nil, length-map, nil_from_length}
use Rattle.std.proofs.lemmas.List.Elements.{All-head}
use Rattle.byteorder.specs.Endian.{big_bytes, big_number}
use Rattle.byteorder.specs.Numbers.{big_number-reads_back}
use Rattle.station.specs.Disk.{Sector}
use Rattle.btree_pages.specs.declared.row_layout.RowLayout.{RowLayout}
use Rattle.btree_pages.specs.declared.row_layout.Kind.{Kind}
use Rattle.btree_pages.specs.declared.row_layout.Kind.TheVariants.{Leaf, Inner}
use Rattle.btree_pages.specs.Keys.{rest_of}
use Rattle.btree.specs.declared.removal_outcome.RemovalOutcome.TheVariants.{Kept, Renamed, Gone, Underfull}
use Rattle.btree.specs.declared.removal_outcome.Child.{Child}
use Rattle.btree.specs.Tree.{TreeNode, row_of, rows_of, IsOnPage, AreJoinedLevels, pages_of, leaves_of, rows_in_order}
use Rattle.btree.specs.Tree.{HasTop}
use Rattle.btree.specs.Fills.{HasTooFewRows, thin_leaves}
use Rattle.btree.specs.Path.{LevelZipper, level_of}
use Rattle.btree.specs.Moves.{Moves, Once, Became, ReplacesNodes}
use Rattle.btree.specs.Propagates.{node_with}
use Rattle.btree.specs.Changes.{IsIn, AreDisjointLevels}
use Rattle.btree.specs.Shrinks.{ShrinksTo, ShrinksYet, ShrinksUnder, Waits, HasCollapsed, HasStayed, IsFilledTree}
use Rattle.btree.specs.Shrinks.{IsShrunkRoot, NeverIsShrunkRoot}
use Rattle.btree.proofs.Shifts.{low_stays}
use Rattle.btree.proofs.Splices.{all_right, no_node, joined_still, joined_there}
use Rattle.btree.proofs.Steps.{Step, turned, step_moves, step_leaves}
use Rattle.btree.proofs.Propagating.{node_stands, row_names}
use Rattle.btree.proofs.Writes.{is_low}
use Rattle.btree.proofs.NewRoots.{IsAlone, is_alone, TopPropagates}
use Rattle.btree.proofs.Rebalanced.{still_level}
use Rattle.btree.proofs.Downward.{spot_some}

-- the levels from the root's down, after it became a run of nodes
top_falls : (layout : RowLayout) (one two : List (Option Sector)) (root : ℕ) (levels : List (List TreeNode))
    (spot : LevelZipper) (ordered : List (List ℕ)) (run : List TreeNode)
    → IsAlone root spot → (shrinks : ShrinksTo layout one levels spot two ordered run)
    → TopPropagates layout one levels two ordered run shrinks.more
top_falls layout one two root levels spot ordered run is shrinks =
    let same : spot.before ++ (run ++ spot.after) ≡ run =
    ap (λ x. x ++ (run ++ spot.after)) is.before ∙ ap (λ x. run ++ x) is.after ∙ append-nil run in
    record {
      became =
          subst (λ (level : List TreeNode). Became layout one levels two (level ∷ shrinks.more)) same shrinks.became;
      rows = sym (ap (λ (level : List TreeNode). rows_in_order (level ∷ shrinks.more)) same) ∙ shrinks.rows;
    }

top_fills : (layout : RowLayout) (one two : List (Option Sector)) (root : ℕ) (levels : List (List TreeNode))
    (spot : LevelZipper) (ordered : List (List ℕ)) (run : List TreeNode)
    → IsAlone root spot → (shrinks : ShrinksTo layout one levels spot two ordered run)
    → thin_leaves layout (leaves_of (run ∷ shrinks.more)) ≤ thin_leaves layout (leaves_of levels)
top_fills layout one two root levels spot ordered run is shrinks =
    let same : spot.before ++ (run ++ spot.after) ≡ run =
    ap (λ x. x ++ (run ++ spot.after)) is.before ∙ ap (λ x. run ++ x) is.after ∙ append-nil run in
    subst (λ (level : List TreeNode). thin_leaves layout (leaves_of (level ∷ shrinks.more))
    ≤ thin_leaves layout (leaves_of levels)) same shrinks.fill

-- it is the same
pub settle_kept : (layout : RowLayout) (root : ℕ) (before : List (Option Sector))
    → IsShrunkRoot layout root Kept before before root
settle_kept layout root before = λ one levels spot more ordered is top standing shrinks.
    let alone = is_alone root spot more (subst (λ (l : List (List TreeNode)). HasTop root l) is top) in
    let shrunk = top_falls layout one before root levels spot ordered shrinks.0 alone shrinks.2 in
    inl (record {
      settled = record {
        levels = shrinks.0 ∷ shrinks.2.more;
        became = shrunk.became;
        top = (shrinks.1.node, shrinks.1.alone, shrinks.1.page ∙ alone.page);
        rows = shrunk.rows;
      };
      fill = λ many. top_fills layout one before root levels spot ordered shrinks.0 alone shrinks.2;
    })

-- it has another least key
pub settle_renamed : (layout : RowLayout) (root : ℕ) (before : List (Option Sector)) (child : Child)
    → IsShrunkRoot layout root (Renamed child) before before root
settle_renamed layout root before child = λ one levels spot more ordered is top standing shrinks.
    let alone = is_alone root spot more (subst (λ (l : List (List TreeNode)). HasTop root l) is top) in
    let node = node_with child.page child.node.rows in
    let shrunk = top_falls layout one before root levels spot ordered (node ∷ []) alone shrinks.1 in
    inl (record {
      settled = record {
        levels = (node ∷ []) ∷ shrinks.1.more;
        became = shrunk.became;
        top = (node, refl, shrinks.0 ∙ alone.page);
        rows = shrunk.rows;
      };
      fill = λ many. top_fills layout one before root levels spot ordered (node ∷ []) alone shrinks.1;
    })

-- Levels whose first one has no node have none at all.
record NoNodes (levels : List (List TreeNode)) : Type 0 where
  pub pages : pages_of levels ≡ []
  pub rows : rows_in_order levels ≡ []

no_nodes : (layout : RowLayout) (pages : List (Option Sector)) (more : List (List TreeNode))
    → AreJoinedLevels layout pages ([] ∷ more) → NoNodes ([] ∷ more)
no_nodes layout pages [] joined = record { pages = refl; rows = refl }
no_nodes layout pages (lower ∷ more) joined =
    let none : lower ≡ [] =
    nil_from_length lower (let named = ap length joined.1 in omega (arith, named, length-map lower (row_of layout))) in
    let rest = no_nodes layout pages more
    (subst (λ (level : List TreeNode). AreJoinedLevels layout pages (level ∷ more)) none joined.2) in
    record {
      pages = ap (λ (level : List TreeNode). pages_of (level ∷ more)) none ∙ rest.pages;
      rows = ap (λ (level : List TreeNode). rows_in_order (level ∷ more)) none ∙ rest.rows;
    }

-- it is gone
pub settle_gone : (layout : RowLayout) (root : ℕ) (before : List (Option Sector))
    → IsShrunkRoot layout root Gone before before 0
settle_gone layout root before = λ one levels spot more ordered is top standing shrinks.
    let alone = is_alone root spot more (subst (λ (l : List (List TreeNode)). HasTop root l) is top) in
    let shrunk = top_falls layout one before root levels spot ordered [] alone shrinks in
    let none = no_nodes layout before shrinks.more shrunk.became.joined in
    inr (record {
      none = refl;
      moves = subst (λ list. Moves one (pages_of levels) before list) none.pages shrunk.became.moves;
      rows = sym shrunk.rows ∙ none.rows;
    })

-- The page above a level gives way to it.
bared : (layout : RowLayout) (one two three : List (Option Sector)) (top : TreeNode) (lower lower' : List TreeNode)
    (more more' : List (List TreeNode)) → AreJoinedLevels layout one ((top ∷ []) ∷ lower ∷ more)
    → Once (pages_of ((top ∷ []) ∷ lower ∷ more))
    → Became layout one (lower ∷ more) two (lower' ∷ more') → ReplacesNodes layout Inner two (top ∷ []) three []
    → Became layout one ((top ∷ []) ∷ lower ∷ more) three (lower' ∷ more')
bared layout one two three top lower lower' more more' joined once low own =
    let under = pages_of (lower ∷ more) in
    let under' = pages_of (lower' ∷ more') in
    let s : Step layout Inner one two three [] (top ∷ []) [] [] under under' =
    record {
      stand = joined.0;
      once = once;
      lower = low.moves;
      low_there = joined_there layout two (lower' ∷ more') low.joined;
      low_once = low.once;
      own = own;
    } in
    record {
      joined = joined_still layout two three (lower' ∷ more') (low_stays one two three [] (top.page ∷ []) under []
          under' (turned layout Inner one two three [] (top ∷ []) [] [] under under' s)) low.joined;
      once = low.once;
      moves = step_moves layout Inner one two three [] (top ∷ []) [] [] under under' s;
    }

-- one row names one node
record OneNode (layout : RowLayout) (rows : List (List ℕ)) (level : List TreeNode) : Type 0 where
  pub node : TreeNode
  pub is : level ≡ node ∷ []
  pub row : slice_index_or rows 0 [] ≡ row_of layout node

one_node : (layout : RowLayout) (rows : List (List ℕ)) (level : List TreeNode) → rows ≡ map (row_of layout) level
    → length rows ≡ 1 → OneNode layout rows level
one_node layout rows [] is one = absurd (omega (arith, ap length is, one))
one_node layout rows (tree_node ∷ []) is one =
    record { node = tree_node; is = refl; row = ap (λ r. slice_index_or r 0 []) is }
one_node layout rows (tree_node ∷ other ∷ level) is one = absurd (let many = ap length is in omega arith)

alone_level : (root : ℕ) (spot : LevelZipper) → IsAlone root spot → level_of spot ≡ spot.node ∷ []
alone_level root spot is = ap (λ (before : List TreeNode). before ++ spot.node ∷ spot.after) is.before
    ∙ ap (λ (after : List TreeNode). spot.node ∷ after) is.after

alone_names : (layout : RowLayout) (root : ℕ) (spot : LevelZipper) (rows : List (List ℕ)) (level : List TreeNode)
    → IsAlone root spot → rows_of spot.before ++ (rows ++ rows_of spot.after) ≡ map (row_of layout) level
    → rows ≡ map (row_of layout) level
alone_names layout root spot rows level is names =
    sym (ap (λ (before : List TreeNode). rows_of before ++ (rows ++ rows_of spot.after)) is.before
    ∙ ap (λ (after : List TreeNode). rows ++ rows_of after) is.after ∙ append-nil rows) ∙ names

-- The child of a root with one row is the root.
lone_settles : (layout : RowLayout) (root : ℕ) (one before after : List (Option Sector)) (levels : List (List TreeNode))
    (spot : LevelZipper) (more : List (List TreeNode)) (ordered : List (List ℕ)) (child : Child) (new : ℕ)
    → HasCollapsed before after child new → levels ≡ level_of spot ∷ more → HasTop root levels
    → AreDisjointLevels layout one levels
    → child.page ≡ spot.node.page → child.node.layout ≡ layout
    → length child.node.rows ≡ 1 → ShrinksUnder layout one levels spot before ordered child.node.rows
    → IsFilledTree layout one levels after new ordered
lone_settles layout root one before after levels spot more ordered child new gave is top standing page_is layout_is
    single under =
    let alone = is_alone root spot more (subst (λ (l : List (List TreeNode)). HasTop root l) is top) in
    let level = alone_level root spot alone in
    let rows : child.node.rows ≡ map (row_of layout) under.new =
    alone_names layout root spot child.node.rows under.new alone under.names in
    let c = one_node layout child.node.rows under.new rows single in
    let low : AreJoinedLevels layout before ((c.node ∷ []) ∷ under.new_more) =
    subst (λ (l : List TreeNode). AreJoinedLevels layout before (l ∷ under.new_more)) c.is under.became.joined in
    let here : LevelZipper = record { before = []; node = c.node; after = [] } in
    let stands = node_stands layout before here under.new_more low in
    let rest : rest_of child.node.layout (slice_index_or child.node.rows 0 []) ≡ big_bytes 4 c.node.page =
    ap (λ (f : RowLayout). rest_of f (slice_index_or child.node.rows 0 [])) layout_is ∙ ap (rest_of layout) c.row
    ∙ row_names layout before stands.kind c.node stands.stands in
    let new_is : new ≡ c.node.page =
    gave.names c.node.page (λ none. no_node layout before stands.kind c.node stands.stands none) rest in
    let old : levels ≡ (spot.node ∷ []) ∷ under.old ∷ under.old_more =
    under.is ∙ ap (λ (l : List TreeNode). l ∷ under.old ∷ under.old_more) level in
    let replaced : ReplacesNodes layout Inner before (spot.node ∷ []) after [] =
    subst (λ (page : ℕ). ReplacesNodes layout Inner before (node_with page spot.node.rows ∷ []) after []) page_is
    (gave.leaves layout spot.node.rows) in
    record {
      settled = record {
        levels = under.new ∷ under.new_more;
        became = subst (λ (l : List (List TreeNode)). Became layout one l after (under.new ∷ under.new_more)) (sym old)
            (bared layout one before after spot.node under.old under.new under.old_more
            under.new_more (subst (λ (l : List (List TreeNode)). AreJoinedLevels layout one l) old standing.joined)
            (subst (λ (l : List (List TreeNode)). Once (pages_of l)) old standing.once) under.became replaced);
        top = (c.node, c.is, sym new_is);
        rows = under.leaves;
      };
      fill = λ many. subst (λ (l : List (List TreeNode)). thin_leaves layout (leaves_of (under.new ∷ under.new_more))
          ≤ thin_leaves layout (leaves_of l)) (sym under.is) under.fill;
    }

lone_row : (layout : RowLayout) (kind : Kind) (count : ℕ) → kind ≡ Inner → 0 < count → HasTooFewRows layout kind count
    → count ≡ 1
lone_row layout Leaf count inner some short = absurd (let clash : Leaf ≡ Inner = inner in cc)
lone_row layout Inner count inner some short = omega (arith, some, short)

pub settle_lone : (layout : RowLayout) (root : ℕ) (before after : List (Option Sector)) (child : Child) (new : ℕ)
    → child.node.kind ≡ Inner → HasCollapsed before after child new
    → IsShrunkRoot layout root (Underfull child) before after new
settle_lone layout root before after child new inner gave = λ one levels spot more ordered is top standing shrinks.
    inl (lone_settles layout root one before after levels spot more ordered child new gave is top standing shrinks.0
    shrinks.1 (lone_row layout child.node.kind (length child.node.rows) inner shrinks.2 shrinks.3)
    (subst (λ (kind : Kind). Waits kind layout one levels spot before ordered child.node.rows) inner shrinks.4))

-- A leaf that is the root stays.
leaf_settles : (layout : RowLayout) (root : ℕ) (one before after : List (Option Sector)) (levels : List (List TreeNode))
    (spot : LevelZipper) (more : List (List TreeNode)) (ordered : List (List ℕ)) (child : Child) (new : ℕ)
    → HasStayed before after child new → levels ≡ level_of spot ∷ more → HasTop root levels
    → AreDisjointLevels layout one levels
    → child.page ≡ spot.node.page → child.node.layout ≡ layout
    → ShrinksYet one levels spot before ordered child.node.rows → IsFilledTree layout one levels after new ordered
leaf_settles layout root one before after levels spot more ordered child new stayed is top standing page_is layout_is
    yet =
    let alone = is_alone root spot more (subst (λ (l : List (List TreeNode)). HasTop root l) is top) in
    let node = node_with child.page child.node.rows in
    let old : levels ≡ (spot.node ∷ []) ∷ [] =
    yet.is ∙ ap (λ (l : List TreeNode). l ∷ []) (alone_level root spot alone) in
    let own : ReplacesNodes layout Leaf one (spot.node ∷ []) after (node ∷ []) =
    subst (λ (pages : List (Option Sector)). ReplacesNodes layout Leaf pages (spot.node ∷ []) after (node ∷ []))
    yet.same
    (subst (λ (page : ℕ). ReplacesNodes layout Leaf before (node_with page spot.node.rows ∷ []) after (node ∷ []))
    page_is
    (subst (λ (f : RowLayout). ReplacesNodes f Leaf before (node_with child.page spot.node.rows ∷ []) after (node ∷ []))
    layout_is (stayed.own spot.node.rows))) in
    record {
      settled = record {
        levels = (node ∷ []) ∷ [];
        became = subst (λ (l : List (List TreeNode)). Became layout one l after ((node ∷ []) ∷ [])) (sym old)
            (step_leaves layout one after [] (spot.node ∷ [])
            (node ∷ []) [] (subst (λ (l : List (List TreeNode)). AreJoinedLevels layout one l) old standing.joined)
            (subst (λ (l : List (List TreeNode)). Once (pages_of l)) old standing.once) own);
        top = (node, refl, sym stayed.page_is);
        rows =
            sym (ap (λ (before : List TreeNode). rows_of before ++ (child.node.rows ++ rows_of spot.after)) alone.before
            ∙ ap (λ (after : List TreeNode). child.node.rows ++ rows_of after) alone.after) ∙ yet.leaves;
      };
      fill = λ many. absurd (omega (arith, many));
    }

pub settle_leaf : (layout : RowLayout) (root : ℕ) (before after : List (Option Sector)) (child : Child) (new : ℕ)
    → child.node.kind ≡ Leaf → HasStayed before after child new
    → IsShrunkRoot layout root (Underfull child) before after new
settle_leaf layout root before after child new leaf stayed = λ one levels spot more ordered is top standing shrinks.
    inl (leaf_settles layout root one before after levels spot more ordered child new stayed is top standing shrinks.0
    shrinks.1
    (subst (λ (kind : Kind). Waits kind layout one levels spot before ordered child.node.rows) leaf shrinks.4))

-- the page that a row names, where there are few page numbers
pub page_named : (pages : List (Option Sector)) (page : ℕ) (rest : List ℕ) → length pages ≤ 2 ^ 20 → IsIn pages page
    → rest ≡ big_bytes 4 page → big_number 4 rest ≡ page
page_named pages page rest few is_in is =
    let low = is_low pages page is_in in
    ap (big_number 4) (is ∙ sym (append-nil (big_bytes 4 page)))
    ∙ big_number-reads_back 4 page [] (omega (arith, low, few))

-- it was a page of the tree
pub never_settles : (layout : RowLayout) (root : ℕ) (before : List (Option Sector)) (child : Child)
    → (0 < child.page → IsIn before child.page → ⊥) → NeverIsShrunkRoot layout root (Underfull child) before
never_settles layout root before child none = λ one levels spot more ordered is top standing shrinks.
    let kind = child.node.kind in
    let level =
    still_level kind layout one before levels spot child.node.rows ordered standing.joined standing.once shrinks.4 in
    let stands = All-head (IsOnPage layout before kind) spot.node spot.after
    (all_right (IsOnPage layout before kind) spot.before (spot.node ∷ spot.after) level) in
    let some = spot_some spot (pages_of more)
    (subst (λ (l : List (List TreeNode)). All (λ (page : ℕ). 0 < page) (pages_of l)) is standing.some) in
    none (subst (λ (page : ℕ). 0 < page) (sym shrinks.0) some)
    (subst (λ (page : ℕ). IsIn before page) (sym shrinks.0) (λ gone. no_node layout before kind spot.node stands gone))
