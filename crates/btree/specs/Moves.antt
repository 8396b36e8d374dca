-- What a change of a tree does to its pages, and to those around it.
use Rattle.std.specs.Prelude.{◌≡◌, ◌<◌, ◌⊎◌, ℕ, List, [], ◌∷◌, map, length, slice_index_or, Option, None, Contains}
use Rattle.station.specs.Disk.{Sector}
use Rattle.btree_pages.specs.declared.row_layout.RowLayout.{RowLayout}
use Rattle.btree_pages.specs.declared.row_layout.Kind.{Kind}
use Rattle.std.specs.List.{All}
use Rattle.btree.specs.Tree.{TreeNode, AreJoinedLevels, IsOnPage, pages_of}

-- Of these page numbers the page may be another, and of no other. A page that joins was none before, and one that leaves is none after.
pub record Moves (pages : List (Option Sector)) (old : List ℕ) (after : List (Option Sector)) (new : List ℕ) : Type 0 where
  pub count : length after ≡ length pages
  pub others : (page : ℕ) → (Contains old page → ⊥) → (Contains new page → ⊥) → slice_index_or after page None ≡ slice_index_or pages page None
  pub joins : (page : ℕ) → Contains new page → Contains old page ⊎ ((0 < page) × (slice_index_or pages page None ≡ None))
  pub leaves : (page : ℕ) → Contains old page → Contains new page ⊎ (slice_index_or after page None ≡ None)

-- no number stands twice
abbrev pub Once : List ℕ → Type 0
Once [] = Unit {0}
Once (x ∷ xs) = (Contains xs x → ⊥) × Once xs

-- the pages of some nodes
abbrev pub numbers_of : List TreeNode → List ℕ
numbers_of nodes = map (λ (node : TreeNode). node.page) nodes

-- What the levels from one of them down became: they are joined, no page stands in them twice, and the other pages are as they were.
pub record Became (layout : RowLayout) (pages : List (Option Sector)) (old : List (List TreeNode)) (after : List (Option Sector)) (new : List (List TreeNode)) : Type 0 where
  pub joined : AreJoinedLevels layout after new
  pub once : Once (pages_of new)
  pub moves : Moves pages (pages_of old) after (pages_of new)

-- a run of nodes of one kind was replaced by another
pub record ReplacesNodes (layout : RowLayout) (kind : Kind) (pages : List (Option Sector)) (old : List TreeNode) (after : List (Option Sector)) (new : List TreeNode) : Type 0 where
  pub stand : All (IsOnPage layout after kind) new
  pub once : Once (numbers_of new)
  pub moves : Moves pages (numbers_of old) after (numbers_of new)
