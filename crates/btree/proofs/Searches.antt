-- What a search in the leaf of a way tells of all entries.
use Rattle.std.proofs.Common.{◌≡◌, ◌≤◌, ◌<◌, ◌+◌, ℕ, List, [], length, take, drop, sym, subst}
use Rattle.std.specs.Prelude.{slice_index_or, Option, Some, None}
use Rattle.station.specs.Disk.{Sector}
use Rattle.btree_pages.specs.declared.row_layout.RowLayout.{RowLayout}
use Rattle.btree_pages.specs.Keys.{key_of, keys_of, Ascend, AllBelow, AllAbove}
use Rattle.btree.specs.Tree.{TreeNode, rows_of, rows_in_order, IsTree}
use Rattle.btree.specs.Path.{LevelZipper, PathStep, first_key, EndsAt}
use Rattle.btree.specs.Entries.{entry_of, entries_of, entry_with}
use Rattle.btree.proofs.Order.{Up}
use Rattle.btree.proofs.Descents.{IsLeafOf, leaf_of, around_leaf, leaf_up}
use Rattle.btree.proofs.Found.{IsAround, IsAt, IsGap, with_at, with_gap}

-- the leaf of a way, among all rows
pub record IsLeafAmong (layout : RowLayout) (key : List ℕ) (levels : List (List TreeNode)) (rows : List (List ℕ))
    (right : Option (List ℕ)) : Type 0 where
  pub before : List (List ℕ)
  pub after : List (List ℕ)
  pub around : IsAround layout key (rows_in_order levels) before rows after
  pub up : Up layout rows
  pub beside : right ≡ first_key layout after

leaf_at_spot : (layout : RowLayout) (pages : List (Option Sector)) (root : ℕ)
    (key : List ℕ) (levels : List (List TreeNode)) (leaf : LevelZipper) (rows : List (List ℕ)) (right : Option (List ℕ))
    → IsTree layout pages root levels → IsLeafOf layout pages key levels leaf
    → leaf.node.rows ≡ rows → right ≡ first_key layout (rows_of leaf.after) → IsLeafAmong layout key levels rows right
leaf_at_spot layout pages root key levels leaf rows right tree is same beside =
    subst (λ (r : List (List ℕ)). IsLeafAmong layout key levels r right) same (record {
      before = rows_of leaf.before;
      after = rows_of leaf.after;
      around = around_leaf layout pages key root levels leaf tree is;
      up = leaf_up layout pages key root levels leaf tree is;
      beside = beside;
    })

pub leaf_among : (layout : RowLayout) (pages : List (Option Sector)) (root : ℕ) (key : List ℕ)
    (levels : List (List TreeNode)) (steps : List PathStep) (page : ℕ) (rows : List (List ℕ)) (right : Option (List ℕ))
    → IsTree layout pages root levels → EndsAt layout key levels steps page rows right
    → IsLeafAmong layout key levels rows right
leaf_among layout pages root key levels steps page rows right tree ends =
    leaf_at_spot layout pages root key levels ends.leaf rows right tree
    (leaf_of layout pages key levels steps ends.leaf tree.joined ends.reaches) ends.has_rows ends.beside

-- what `find` answers
abbrev pub FindsAt : RowLayout → List ℕ → List (List ℕ) → ℕ → Type 0
FindsAt layout key rows place =
    Ascend (keys_of layout rows) → AllBelow layout key (take place rows) × AllAbove layout key (drop (place + 1) rows)

abbrev pub FindsGap : RowLayout → List ℕ → List (List ℕ) → ℕ → Type 0
FindsGap layout key rows place =
    Ascend (keys_of layout rows) → AllBelow layout key (take place rows) × AllAbove layout key (drop place rows)

at_place : (layout : RowLayout) (key : List ℕ) (rows : List (List ℕ)) (place : ℕ) → Up layout rows → place < length rows
    → key_of layout (slice_index_or rows place []) ≡ key → FindsAt layout key rows place → IsAt layout key rows place
at_place layout key rows place up low here finds =
    record { low = low; here = here; before = (finds up).0; after = (finds up).1 }

at_gap : (layout : RowLayout) (key : List ℕ) (rows : List (List ℕ)) (place : ℕ) → Up layout rows → place ≤ length rows
    → FindsGap layout key rows place → IsGap layout key rows place
at_gap layout key rows place up low finds = record { low = low; before = (finds up).0; after = (finds up).1 }

pub got : (layout : RowLayout) (key : List ℕ) (levels : List (List TreeNode)) (rows : List (List ℕ))
    (right : Option (List ℕ)) (place : ℕ) → IsLeafAmong layout key levels rows right
    → place < length rows → key_of layout (slice_index_or rows place []) ≡ key → FindsAt layout key rows place
    → Some (entry_of layout (slice_index_or rows place [])) ≡ entry_with (entries_of layout levels) key
got layout key levels rows right place leaf low here finds =
    sym (with_at layout key (rows_in_order levels) leaf.before rows leaf.after place leaf.around
    (at_place layout key rows place leaf.up low here finds))

pub got_none : (layout : RowLayout) (key : List ℕ) (levels : List (List TreeNode)) (rows : List (List ℕ))
    (right : Option (List ℕ)) (place : ℕ) → IsLeafAmong layout key levels rows right
    → place ≤ length rows → FindsGap layout key rows place → None ≡ entry_with (entries_of layout levels) key
got_none layout key levels rows right place leaf low finds =
    sym (with_gap layout key (rows_in_order levels) leaf.before rows leaf.after place leaf.around
    (at_gap layout key rows place leaf.up low finds))
