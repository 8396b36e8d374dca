-- The leaves that a build has placed, and the page above them.
use Rattle.std.proofs.Common.{◌≡◌, ◌≤◌, ◌<◌, ◌+◌, ◌-◌, ◌++◌, ◌∷◌, [], ℕ, List, length, drop, refl, sym, ◌∙◌}
use Rattle.std.proofs.Common.{subst, ap, arith}
use Rattle.std.specs.Prelude.{Option, slice_index_or}
use Rattle.std.specs.List.{All}
use Rattle.std.proofs.lemmas.List.Elements.{All-nil}
use Rattle.byteorder.specs.Endian.{big_bytes}
use Rattle.station.specs.Disk.{Sector}
use Rattle.btree_pages.specs.Edits.{node_with_row}
use Rattle.btree_pages.specs.Keys.{key_of}
use Rattle.btree_pages.specs.Node.{Node, IsNode}
use Rattle.btree_pages.specs.RowLayouts.{row_length}
use Rattle.btree_pages.specs.declared.row_layout.Kind.TheVariants.{Inner}
use Rattle.btree_pages.specs.declared.row_layout.RowLayout.{RowLayout}
use Rattle.btree.specs.Builds.{IsLeafOf}
use Rattle.btree.specs.Moves.{ReplacesNodes}
use Rattle.btree.specs.Propagates.{node_with}
use Rattle.btree.specs.Tree.{fewest, node_of}
use Rattle.btree.proofs.Building.{PutsLeaves, all_put, leaf_put, none_put, one_length}
use Rattle.btree.proofs.Ways.{drop_all}

-- So many leaves are placed, from the last one on, and a page is above them. The pages are those over an image.
pub record PlacedTop (layout : RowLayout) (before after : List Sector → List (Option Sector)) (leaves : List Node)
    (turn root : ℕ) (top : Node) : Type 0 where
  pub placed : (image : List Sector)
      → PutsLeaves layout (before image) (drop (length leaves - turn) leaves) (after image) root top.rows
  pub like : top.layout ≡ layout
  pub kind : top.kind ≡ Inner
  pub count : length top.rows ≡ turn
  pub lengths : All (λ row. length row ≡ row_length layout Inner) top.rows

-- none are placed under a blank page
pub none_placed : (layout : RowLayout) (before : List Sector → List (Option Sector)) (leaves : List Node) (top : Node)
    → top ≡ node_of layout Inner [] → PlacedTop layout before before leaves 0 0 top
none_placed layout before leaves top is = subst (PlacedTop layout before before leaves 0 0) (sym is) (record {
  placed = λ image. subst (λ (l : List Node). PutsLeaves layout (before image) l (before image) 0 [])
      (sym (drop_all (length leaves - 0) leaves (omega arith))) (none_put layout (before image));
  like = refl;
  kind = refl;
  count = refl;
  lengths = All-nil (λ (row : List ℕ). length row ≡ row_length layout Inner);
})

-- one more is placed
pub more_placed : (layout : RowLayout) (before mid after : List Sector → List (Option Sector)) (leaves : List Node)
    (leaf : Node) (turn root page : ℕ) (top new : Node) (key : List ℕ)
    → turn < length leaves → slice_index_or leaves (length leaves - 1 - turn) leaf ≡ leaf
    → All (IsLeafOf layout) leaves → IsNode leaf
    → ((image : List Sector) → All (λ row. length row ≡ row_length leaf.layout leaf.kind) leaf.rows
    → fewest leaf.kind ≤ length leaf.rows
    → ReplacesNodes leaf.layout leaf.kind (mid image) [] (after image) (node_with page leaf.rows ∷ []))
    → key ≡ key_of leaf.layout (slice_index_or leaf.rows 0 []) → length key ≡ leaf.layout.key_length
    → new ≡ node_with_row top 0 (key ++ big_bytes 4 page) → PlacedTop layout before mid leaves turn root top
    → PlacedTop layout before after leaves (turn + 1) page new
more_placed layout before mid after leaves leaf turn root page top new key low here all node put key_is long is old =
    let place : ℕ = length leaves - 1 - turn in
    let leaf_is : IsLeafOf layout leaf = subst (IsLeafOf layout) here (all place leaf (omega (arith, low))) in
    let rows : new.rows ≡ (key ++ big_bytes 4 page) ∷ top.rows = ap (λ (n : Node). n.rows) is in
    record {
      placed = λ image. leaf_put layout (before image) (mid image) (after image) leaves leaf turn leaf root page
          top.rows new.rows key low here leaf_is node (put image) key_is rows (old.placed image);
      like = ap (λ (n : Node). n.layout) is ∙ old.like;
      kind = ap (λ (n : Node). n.kind) is ∙ old.kind;
      count = omega (arith, ap length rows, old.count);
      lengths = subst (All (λ row. length row ≡ row_length layout Inner)) (sym rows)
          (one_length layout key page top.rows (long ∙ ap (λ (f : RowLayout). f.key_length) leaf_is.like) old.lengths);
    }

-- all are placed
pub all_placed : (layout : RowLayout) (before after : List (Option Sector)) (leaves : List Node) (turn root : ℕ)
    (rows : List (List ℕ)) → length leaves ≤ turn
    → PutsLeaves layout before (drop (length leaves - turn) leaves) after root rows
    → PutsLeaves layout before leaves after root rows
all_placed layout before after leaves turn root rows past placed =
    subst (λ (l : List Node). PutsLeaves layout before l after root rows) (all_put leaves turn past) placed
