-- The rows of a tree are counted level by level.
use Rattle.std.proofs.Common.{◌≡◌, ◌≤◌, ◌<◌, ◌+◌, ℕ, zero, suc, Bool, true, false, List, [], ◌∷◌, ◌++◌, length}
use Rattle.std.proofs.Common.{take, refl, sym, ◌∙◌, ap, subst, arith, length-append}
use Rattle.std.specs.Prelude.{◌==◌, slice_index_or, Option, Result, Err, IfOk}
use Rattle.std.specs.List.{All}
use Rattle.std.proofs.lemmas.List.{append-nil, length-map, take_more}
use Rattle.std.proofs.lemmas.Result.{IfOk-weaker}
use Rattle.station.specs.Disk.{Sector}
use Rattle.pages.specs.declared.error.PagesError.{PagesError}
use Rattle.pages.specs.declared.error.PagesError.TheVariants.{Damaged, Spent}
use Rattle.btree_pages.specs.declared.row_layout.RowLayout.{RowLayout}
use Rattle.btree_pages.specs.declared.row_layout.Kind.TheVariants.{Leaf}
use Rattle.btree.specs.Tree.{TreeNode, IsOnPage, IsTree, pages_of, rows_of, rows_in_order}
use Rattle.btree.specs.Entries.{entry_of, entries_of}
use Rattle.btree.specs.Laws.{IsSmall}
use Rattle.btree.specs.Moves.{numbers_of}
use Rattle.btree.specs.Clears.{HasPages, IsDown, levels_below}
use Rattle.btree.proofs.Clearing.{as_many, tree_down}
use Rattle.btree.proofs.Depth.{few_levels}
use Rattle.btree.proofs.Order.{all_right}
use Rattle.btree.proofs.Passing.{same_error}
use Rattle.btree.proofs.Runs.{once_right}
use Rattle.btree.proofs.Splices.{rows_append}

-- the levels are one of leaves
pub record AreLeaves (layout : RowLayout) (pages : List (Option Sector)) (numbers : List ℕ)
    (levels : List (List TreeNode)) : Type 0 where
  pub level : List TreeNode
  pub alone : levels ≡ level ∷ []
  pub stand : All (IsOnPage layout pages Leaf) level
  pub are : numbers_of level ≡ numbers

pub alone_rows : (layout : RowLayout) (pages : List (Option Sector)) (numbers : List ℕ)
    (levels : List (List TreeNode)) (are : AreLeaves layout pages numbers levels)
    → length (rows_of are.level) ≡ length (rows_in_order levels)
alone_rows layout pages numbers levels are =
    sym (ap (λ (l : List (List TreeNode)). length (rows_in_order l)) are.alone)

-- where no pages are below the first level, it is one of leaves
pub no_more_levels : (layout : RowLayout) (pages : List (Option Sector)) (numbers lower : List ℕ)
    (levels : List (List TreeNode)) → 0 < length numbers → IsDown layout pages numbers levels
    → HasPages lower (levels_below levels) → lower ≡ [] → AreLeaves layout pages numbers levels
no_more_levels layout pages numbers lower [] some down has none =
    let count = ap length down.top in absurd (omega (arith, count, some))
no_more_levels layout pages numbers lower (leaves ∷ []) some down has none =
    record { level = leaves; alone = refl; stand = down.joined; are = down.top.0 }
no_more_levels layout pages numbers lower (upper ∷ next ∷ more) some down has none =
    let count = as_many next lower has.0 in
    let zero = ap length none in
    absurd (omega (arith, count, zero, has.1))

-- else the levels below it stand under these pages, and their leaves are the same
pub levels_down : (layout : RowLayout) (pages : List (Option Sector)) (numbers lower : List ℕ)
    (levels : List (List TreeNode)) → IsDown layout pages numbers levels → HasPages lower (levels_below levels)
    → IsDown layout pages lower (levels_below levels)
levels_down layout pages numbers lower [] down has = record {
  top = has;
  joined = tt;
  once = tt;
  between = all_right (λ (page : ℕ). (0 < page) × (page < length pages)) (pages_of []) [] down.between;
}
levels_down layout pages numbers lower (leaves ∷ []) down has = record {
  top = has;
  joined = tt;
  once = tt;
  between = all_right (λ (page : ℕ). (0 < page) × (page < length pages)) (numbers_of leaves) [] down.between;
}
levels_down layout pages numbers lower (upper ∷ next ∷ more) down has = record {
  top = has;
  joined = down.joined.2;
  once = once_right (numbers_of upper) (pages_of (next ∷ more)) down.once;
  between = all_right (λ (page : ℕ). (0 < page) × (page < length pages)) (numbers_of upper)
      (pages_of (next ∷ more)) down.between;
}

pub same_leaves : (levels : List (List TreeNode)) (lower : List ℕ) → HasPages lower (levels_below levels)
    → 0 < length lower → rows_in_order (levels_below levels) ≡ rows_in_order levels
same_leaves [] lower has some = refl
same_leaves (leaves ∷ []) lower has some = let count = ap length has in absurd (omega (arith, count, some))
same_leaves (upper ∷ next ∷ more) lower has some = refl

-- one more leaf
pub rows_more : (level : List TreeNode) (place : ℕ) (none : TreeNode) (rows : List (List ℕ)) (count : ℕ)
    → place < length level → (slice_index_or level place none).rows ≡ rows
    → count ≡ length (rows_of (take place level)) → count + length rows ≡ length (rows_of (take (place + 1) level))
rows_more level place none rows count low same is =
    let here : TreeNode = slice_index_or level place none in
    let more : rows_of (take (place + 1) level) ≡ rows_of (take place level) ++ rows =
    ap rows_of (take_more level place none low) ∙ rows_append (take place level) (here ∷ [])
    ∙ ap (λ (xs : List (List ℕ)). rows_of (take place level) ++ xs) (append-nil here.rows ∙ same) in
    let both = length-append (rows_of (take place level)) rows in
    omega (arith, ap length more, both, is)

-- a spent map is refused
pub unless_spent : {T : Type 0} (r : Result T PagesError) (spent : Bool) (P : T → Type 0)
    → (spent ≡ true → r ≡ Err Spent) → (spent ≡ false → IfOk r P) → IfOk r P
unless_spent r true P told holds = subst (λ r. IfOk r P) (sym (told refl)) tt
unless_spent r false P told holds = holds refl

damaged_or_spent : Damaged ≡ Spent → ⊥
damaged_or_spent is = cc

pub damaged_unspent : {T : Type 0} (r : Result T PagesError) (spent : Bool) → (spent ≡ true → r ≡ Err Spent)
    → r ≡ Err Damaged → spent ≡ false
damaged_unspent r true told is = absurd (damaged_or_spent (same_error (sym is ∙ told refl)))
damaged_unspent r false told is = refl

-- the entries of a tree are the rows below its root
pub counted_tree : (layout : RowLayout) (pages : List (Option Sector)) (root : ℕ) (levels : List (List TreeNode))
    (numbers : List ℕ) (result : Result ℕ PagesError) → IsTree layout pages root levels → numbers ≡ root ∷ []
    → IsSmall pages
    → ((down : List (List TreeNode)) → IsSmall pages → IsDown layout pages numbers down
    → IfOk result (λ count. count ≡ length (rows_in_order down)))
    → IfOk result (λ count. count ≡ length (entries_of layout levels))
counted_tree layout pages root levels numbers result tree is few counts =
    IfOk-weaker result _ (λ count. count ≡ length (entries_of layout levels))
    (λ count rows. rows ∙ sym (length-map (rows_in_order levels) (entry_of layout)))
    (counts levels few (subst (λ (n : List ℕ). IsDown layout pages n levels) (sym is)
    (tree_down layout pages root levels tree)))

-- a tree has no more levels than are read
pub never_damaged : (layout : RowLayout) (pages : List (Option Sector)) (root : ℕ) (levels : List (List TreeNode))
    (numbers : List ℕ) → IsTree layout pages root levels → numbers ≡ root ∷ [] → IsSmall pages
    → ((down : List (List TreeNode)) → IsSmall pages → IsDown layout pages numbers down → length down ≤ 21 → ⊥) → ⊥
never_damaged layout pages root levels numbers tree is few never =
    let depth = few_levels layout pages root levels few tree in
    never levels few
    (subst (λ (n : List ℕ). IsDown layout pages n levels) (sym is) (tree_down layout pages root levels tree))
    (omega (arith, depth))

-- a vector that is not empty
pub some_in : (count : ℕ) (xs : List ℕ) → count ≡ length xs → (count == 0) ≡ false → 0 < length xs
some_in zero xs same some = cc
some_in (suc n) xs same some = omega (arith, same)
