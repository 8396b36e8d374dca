-- A search by halving: the rows before `low` have lesser keys, those from `high` on greater ones.
use Rattle.std.proofs.Common.{◌≡◌, ℕ, ◌+◌, ◌<◌, ◌≤◌, List, [], length, take, drop, get_or, sym, subst, arith}
use Rattle.std.specs.declared.cmp.Ordering.TheVariants.{Less, Greater}
use Rattle.std.proofs.lemmas.List.{drop_all}
use Rattle.std.proofs.lemmas.List.Elements.{All-nil}
use Rattle.btree_pages.specs.declared.row_layout.RowLayout.{RowLayout}
use Rattle.btree_pages.specs.Keys.{key_cmp, Precedes, Ascend, AllAbove, AllBelow, key_of, keys_of}
use Rattle.btree_pages.proofs.Order.{above_after, below_before, greater_precedes}

pub record IsLeft (layout : RowLayout) (rows : List (List ℕ)) (key : List ℕ) (low high : ℕ) : Type 0 where
  pub order : low ≤ high
  pub within : high ≤ length rows
  pub below : Ascend (keys_of layout rows) → AllBelow layout key (take low rows)
  pub above : Ascend (keys_of layout rows) → AllAbove layout key (drop high rows)

module _ (layout : RowLayout) (rows : List (List ℕ)) (key : List ℕ) where
  pub left_all : (n : ℕ) → n ≡ length rows → IsLeft layout rows key 0 n
  left_all n e = record {
    order = omega arith;
    within = omega arith;
    below = λ up. All-nil (λ row. Precedes (key_of layout row) key);
    above = λ up.
        let none : drop n rows ≡ [] = drop_all n rows (omega arith) in
        let P : List (List ℕ) → Type 0 = λ some. AllAbove layout key some in
        subst P (sym none) (All-nil (λ row. Precedes key (key_of layout row)));
  }

  module _ (low high middle : ℕ) (left : IsLeft layout rows key low high) (from : low ≤ middle)
      (to : middle < high) where
    pub left_right : key_cmp (key_of layout (get_or rows middle [])) key ≡ Less
        → IsLeft layout rows key (middle + 1) high
    left_right e = record {
      order = omega arith;
      within = left.within;
      below = λ up. below_before layout rows up key middle (omega (arith, left.within)) middle (omega arith) e;
      above = left.above;
    }

    pub left_left : key_cmp (key_of layout (get_or rows middle [])) key ≡ Greater → IsLeft layout rows key low middle
    left_left e = record {
      order = from;
      within = omega (arith, left.within);
      below = left.below;
      above = λ up. above_after layout rows up key middle (omega (arith, left.within))
          (greater_precedes (key_of layout (get_or rows middle [])) key e);
    }
