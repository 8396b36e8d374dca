-- The root after a change.
use Rattle.std.proofs.Common.{◌≡◌, ⊎_elim, ◌<◌, ℕ, List, [], ◌∷◌, ◌++◌, length, map, get_or, refl, sym, ◌∙◌, ap, subst}
use Rattle.std.proofs.Common.{arith, length-append}
use Rattle.std.specs.Prelude.{Contains, Option, None}
use Rattle.std.specs.List.{All}
use Rattle.std.proofs.lemmas.Bool.{cases_lt}
use Rattle.std.proofs.lemmas.List.{append-nil, get_or_past}
use Rattle.std.proofs.lemmas.List.Elements.{All-nil, Contains-get_or, All-contains}
use Rattle.station.specs.Disk.{Sector}
use Rattle.btree_pages.specs.declared.row_layout.RowLayout.{RowLayout}
use Rattle.btree_pages.specs.declared.row_layout.Kind.TheVariants.{Leaf, Inner}
use Rattle.btree.specs.Tree.{TreeNode, row_of, rows_of, IsOnPage, pages_of, rows_in_order, HasTop, IsTree}
use Rattle.btree.specs.Path.{LevelZipper, level_of}
use Rattle.btree.specs.Moves.{Once, Became, ReplacesNodes}
use Rattle.btree.specs.declared.split_result.SplitResult.{SplitResult}
use Rattle.btree.specs.Propagates.{Propagates}
use Rattle.btree.proofs.Order.{Up}
use Rattle.btree.proofs.Runs.{pairs_from_once}
use Rattle.btree.proofs.Shifts.{sector_of, low_stays}
use Rattle.btree.proofs.Splices.{joined_still, joined_there}
use Rattle.btree.proofs.Steps.{Step, turned, step_moves, step_once, step_stand, step_leaves}

-- A new page above the first level, with the rows that name its nodes.
pub new_root : (layout : RowLayout) (one two three : List (Option Sector)) (levels : List (List TreeNode))
    (run : List TreeNode) (more : List (List TreeNode)) (top : TreeNode)
    → Once (pages_of levels) → Became layout one levels two (run ∷ more)
    → ReplacesNodes layout Inner two [] three (top ∷ []) → rows_of (top ∷ []) ≡ map (row_of layout) run
    → Became layout one levels three ((top ∷ []) ∷ run ∷ more)
new_root layout one two three levels run more top once low own names =
    let s : Step layout Inner one two three [] [] (top ∷ []) [] (pages_of levels) (pages_of (run ∷ more)) =
    record {
      stand = All-nil (IsOnPage layout one Inner);
      once = once;
      lower = low.moves;
      low_there = joined_there layout two (run ∷ more) low.joined;
      low_once = low.once;
      own = own;
    } in
    record {
      joined = (
        step_stand layout Inner one two three [] [] (top ∷ []) [] (pages_of levels) (pages_of (run ∷ more)) s,
        names,
        joined_still layout two three (run ∷ more)
            (low_stays one two three [] [] (pages_of levels) (top.page ∷ []) (pages_of (run ∷ more)) (turned layout
            Inner one two three [] [] (top ∷ []) [] (pages_of levels) (pages_of (run ∷ more)) s)) low.joined,
      );
      once = step_once layout Inner one two three [] [] (top ∷ []) [] (pages_of levels) (pages_of (run ∷ more)) s;
      moves = step_moves layout Inner one two three [] [] (top ∷ []) [] (pages_of levels) (pages_of (run ∷ more)) s;
    }

-- The first page of a tree, over none.
pub first_leaf : (layout : RowLayout) (one three : List (Option Sector)) (leaf : TreeNode)
    → ReplacesNodes layout Leaf one [] three (leaf ∷ []) → Became layout one [] three ((leaf ∷ []) ∷ [])
first_leaf layout one three leaf own =
    let became = step_leaves layout one three [] [] (leaf ∷ []) [] (All-nil (IsOnPage layout one Leaf)) tt own in
    record { joined = became.joined; once = became.once; moves = became.moves }

-- The root alone stands in the first level.
pub record IsAlone (root : ℕ) (spot : LevelZipper) : Type 0 where
  pub before : spot.before ≡ []
  pub after : spot.after ≡ []
  pub page : spot.node.page ≡ root

alone : (node top : TreeNode) (before after : List TreeNode) → before ++ node ∷ after ≡ top ∷ []
    → (before ≡ []) × (after ≡ []) × (node ≡ top)
alone node top [] after same = (refl, cc, cc)
alone node top (b ∷ before) after same = absurd (omega (arith, ap length same, length-append before (node ∷ after)))

pub is_alone : (root : ℕ) (spot : LevelZipper) (more : List (List TreeNode)) → HasTop root (level_of spot ∷ more)
    → IsAlone root spot
is_alone root spot more top =
    let is = alone spot.node top.0 spot.before spot.after top.1 in
    record { before = is.0; after = is.1; page = ap (λ (node : TreeNode). node.page) is.2 ∙ top.2 }

-- the levels from the root's down, after it became some nodes
pub record TopPropagates (layout : RowLayout) (pages : List (Option Sector)) (levels : List (List TreeNode)) (after :
    List (Option Sector)) (ordered : List (List ℕ)) (run : List TreeNode) (more : List (List TreeNode)) : Type 0 where
  pub became : Became layout pages levels after (run ∷ more)
  pub rows : rows_in_order (run ∷ more) ≡ ordered

pub top_propagates : (layout : RowLayout) (one two : List (Option Sector)) (root : ℕ) (levels : List (List TreeNode))
    (spot : LevelZipper) (rows : List (List ℕ)) (told : Option SplitResult)
    → IsAlone root spot → (propagates : Propagates layout one levels spot two rows told)
    → TopPropagates layout one levels two rows propagates.run propagates.more
top_propagates layout one two root levels spot rows told is propagates =
    let same : spot.before ++ (propagates.run ++ spot.after) ≡ propagates.run =
    ap (λ x. x ++ (propagates.run ++ spot.after)) is.before ∙ ap (λ x. propagates.run ++ x) is.after
    ∙ append-nil propagates.run in
    record {
      became = subst (λ (level : List TreeNode). Became layout one levels two (level ∷ propagates.more)) same
          propagates.became;
      rows = sym (ap (λ (level : List TreeNode). rows_in_order (level ∷ propagates.more)) same) ∙ propagates.rows;
    }

-- a page that is in the map has a number below its count
there_low : (pages : List (Option Sector)) (page : ℕ) → (sector_of pages page ≡ None → ⊥) → page < length pages
there_low pages page there =
    ⊎_elim (λ low. low) (λ past. absurd (there (get_or_past pages page None past))) (cases_lt page (length pages))

all_from_contains : (P : ℕ → Type 0) (list : List ℕ) → ((x : ℕ) → Contains list x → P x) → All P list
all_from_contains P list each k d low = each (get_or list k d) (Contains-get_or list k d low)

-- What a tree became is a tree, where its rows ascend.
pub tree_after : (layout : RowLayout) (one two : List (Option Sector)) (root : ℕ) (old new : List (List TreeNode))
    → All (λ page. (0 < page) × (page < length one)) (pages_of old)
    → Became layout one old two new → HasTop root new → Up layout (rows_in_order new) → IsTree layout two root new
tree_after layout one two root old new numbers became top up = record {
  top = top;
  joined = became.joined;
  ascend = up;
  once = pairs_from_once (pages_of new) became.once;
  numbers = all_from_contains (λ page. (0 < page) × (page < length two)) (pages_of new) (λ page has. (
    ⊎_elim (λ was. (All-contains (λ page. (0 < page) × (page < length one)) (pages_of old) page numbers was).0)
        (λ fresh. fresh.0) (became.moves.joins page has),
    there_low two page (joined_there layout two new became.joined page has),
  ));
}
