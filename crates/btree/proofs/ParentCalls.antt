-- The page above a page that was split, by the calls that put it back.
use Rattle.std.proofs.Common.{◌≡◌, ◌<◌, ◌+◌, ℕ, List, [], length}
use Rattle.std.specs.Prelude.{slice_index_or, Option, Some, None, MatchOption}
use Rattle.pages.specs.declared.page_map.PageMap.{PageMap}
use Rattle.btree_pages.specs.declared.row_layout.Kind.TheVariants.{Inner}
use Rattle.btree_pages.specs.Edits.{with_key}
use Rattle.btree_pages.specs.Keys.{key_of}
use Rattle.btree_pages.specs.Node.{Node}
use Rattle.btree.specs.declared.split_result.SplitResult.{SplitResult}
use Rattle.btree.specs.declared.split_result.Right.{Right}
use Rattle.btree.specs.Changes.{pages_of_map, CanStand, HasKeys}
use Rattle.btree.specs.Propagates.{node_with}
use Rattle.btree.specs.Puts.{HasInserted, PutsParent, PutsWhere}
use Rattle.btree.specs.Tree.{row_of}
use Rattle.btree.proofs.ParentUpdates.{updated_one, updated_two}

-- What is ensured of the page above, whose row at a place got the key of the page that it names.
pub record HasRenamedRow (node named : Node) (place : ℕ) (key : List ℕ) (split : SplitResult) : Type 0 where
  pub inner : node.kind ≡ Inner
  pub low : place < length node.rows
  pub keys : HasKeys node.layout split
  pub key_is : key ≡ key_of split.left.layout (slice_index_or split.left.rows 0 [])
  pub key_length : length key ≡ split.left.layout.key_length
  pub named_is : named ≡ with_key node place key

-- The page that was split has no new neighbour.
pub puts_one : (old new : PageMap) (page : ℕ) (node named : Node) (place : ℕ) (key : List ℕ)
    (split updated : SplitResult) (up : Option SplitResult) → HasRenamedRow node named place key split
    → split.right ≡ None → PutsWhere CanStand old new page named updated
    → (updated.page ≡ page) × (updated.left ≡ named) × (updated.right ≡ None)
    → MatchOption up ((0 < place) × (updated.right ≡ None)) (λ told. told ≡ updated)
    → PutsParent old new page node place split up
puts_one old new page node named place key split updated up has none puts back told = λ image can names.
    updated_one (pages_of_map old image) (pages_of_map new image) page node named place key split updated up
    (record {
      inner = has.inner;
      place_low = has.low;
      layout_is = let keys = has.keys in keys.left.0;
      key_is = has.key_is;
      key_length = has.key_length;
      can = can;
      names = names;
    })
    has.named_is (puts image) none back told

-- It has one, for which a row was put into the page.
pub puts_two : (old new : PageMap) (page : ℕ) (node named : Node) (place : ℕ) (key : List ℕ)
    (split updated : SplitResult) (right : Right) (up : Option SplitResult) → HasRenamedRow node named place key split
    → split.right ≡ Some right → PutsWhere CanStand old new page named updated
    → HasInserted named.rows (place + 1) (row_of named.layout (node_with right.page right.node.rows)) updated
    → updated.page ≡ page → MatchOption up ((0 < place) × (updated.right ≡ None)) (λ told. told ≡ updated)
    → PutsParent old new page node place split up
puts_two old new page node named place key split updated right up has some puts rows page_is told = λ image can names.
    updated_two (pages_of_map old image) (pages_of_map new image) page node named place key split updated right up
    (record {
      inner = has.inner;
      place_low = has.low;
      layout_is = let keys = has.keys in keys.left.0;
      key_is = has.key_is;
      key_length = has.key_length;
      can = can;
      names = names;
    })
    has.named_is (puts image) some rows page_is told
