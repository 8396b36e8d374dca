-- What a walk over the pages under a root finds.
use Rattle.std.specs.Prelude.{◌≡◌, ◌≤◌, ◌<◌, ◌+◌, ◌^◌, ◌++◌, ℕ, Bool, true, false, List, [], ◌∷◌, map, length, slice_index_or, Option, Contains}
use Rattle.std.specs.List.{All}
use Rattle.byteorder.specs.Endian.{big_bytes}
use Rattle.station.specs.Disk.{Sector}
use Rattle.btree_pages.specs.declared.row_layout.RowLayout.{RowLayout}
use Rattle.btree_pages.specs.declared.row_layout.Kind.{Kind}
use Rattle.btree_pages.specs.declared.row_layout.Kind.TheVariants.{Leaf, Inner}
use Rattle.btree_pages.specs.Keys.{key_of, keys_of, child_of, Ascend, AllBelow}
use Rattle.btree_check.specs.declared.separator.Separator.{Separator}
use Rattle.btree.specs.Tree.{TreeNode, least_key, rows_of, rows_in_order, pages_of, IsOnPage, AreJoinedLevels, IsTreeOrEmpty}
use Rattle.btree.specs.Moves.{Once}

-- how the level above names a node: its least key and its page
abbrev pub separator_of : RowLayout → TreeNode → Separator
separator_of layout node = record { key = least_key layout node; page = node.page }

-- what a row of an inner page names, and the row of a separator
abbrev pub separator_in : RowLayout → List ℕ → Separator
separator_in layout row = record { key = key_of layout row; page = child_of layout row }

abbrev pub separator_row : Separator → List ℕ
separator_row separator = separator.key ++ big_bytes 4 separator.page

abbrev pub separator_pages : List Separator → List ℕ
separator_pages separators = map (λ (separator : Separator). separator.page) separators

-- there is a mark for the page, and it isn't set
abbrev pub IsUnmarked : List Bool → ℕ → Type 0
IsUnmarked seen page = (page < length seen) × (slice_index_or seen page false ≡ false)

-- these pages aren't marked, none is page 0, and none stands twice
pub record CanMark (seen : List Bool) (pages : List ℕ) : Type 0 where
  pub some : All (λ page. 0 < page) pages
  pub unmarked : All (IsUnmarked seen) pages
  pub once : Once pages

-- these pages weren't marked, and are now; the other marks are as they were
pub record Marks (old : List Bool) (pages : List ℕ) (new : List Bool) : Type 0 where
  pub can : CanMark old pages
  pub count : length new ≡ length old
  pub marked : All (λ page. slice_index_or new page false ≡ true) pages
  pub others : (page : ℕ) → (Contains pages page → ⊥) → slice_index_or new page false ≡ slice_index_or old page false

-- the rows stand on the page of that separator, and it is the separator of them
pub record HasSeparator (layout : RowLayout) (pages : List (Option Sector)) (kind : Kind) (separator : Separator) (rows : List (List ℕ)) : Type 0 where
  pub stands : IsOnPage layout pages kind (record { page = separator.page; rows = rows })
  pub least : key_of layout (slice_index_or rows 0 []) ≡ separator.key

-- the nodes of these separators, from left to right
pub record IsLevel (layout : RowLayout) (pages : List (Option Sector)) (kind : Kind) (separators : List Separator) (level : List TreeNode) : Type 0 where
  pub stand : All (IsOnPage layout pages kind) level
  pub named : map (separator_of layout) level ≡ separators

-- what the rows of a level of inner pages name
pub record Lists (layout : RowLayout) (rows : List (List ℕ)) (separators : List Separator) : Type 0 where
  pub read : separators ≡ map (separator_in layout) rows
  pub back : map separator_row separators ≡ rows

-- the nodes of the first level have these separators
abbrev pub HaveSeparators : RowLayout → List Separator → List (List TreeNode) → Type 0
HaveSeparators layout separators [] = ⊥
HaveSeparators layout separators (top ∷ more) = map (separator_of layout) top ≡ separators

-- the levels from the one of these separators down to the leaves, whose keys ascend
pub record IsUnder (layout : RowLayout) (pages : List (Option Sector)) (separators : List Separator) (levels : List (List TreeNode)) : Type 0 where
  pub joined : AreJoinedLevels layout pages levels
  pub top : HaveSeparators layout separators levels
  pub ascend : Ascend (keys_of layout (rows_in_order levels))

-- there are such levels, and their pages were marked
pub record FindsLevels (layout : RowLayout) (pages : List (Option Sector)) (separators : List Separator) (old new : List Bool) : Type 0 where
  pub levels : List (List TreeNode)
  pub under : IsUnder layout pages separators levels
  pub marks : Marks old (pages_of levels) new

-- the pages under the root are a tree, and were marked
pub record FindsTree (layout : RowLayout) (pages : List (Option Sector)) (root : ℕ) (old new : List Bool) : Type 0 where
  pub levels : List (List TreeNode)
  pub holds : IsTreeOrEmpty layout pages root levels
  pub marks : Marks old (pages_of levels) new

-- there is a level of inner pages with these separators, whose rows are those, and one of leaves, whose keys ascend
abbrev pub FindsInner : RowLayout → List (Option Sector) → List Separator → List Separator → Type 0
FindsInner layout pages separators lower = (level : List TreeNode) × IsLevel layout pages Inner separators level × Lists layout (rows_of level) lower

abbrev pub FindsLeaves : RowLayout → List (Option Sector) → List Separator → Type 0
FindsLeaves layout pages separators = (level : List TreeNode) × IsLevel layout pages Leaf separators level × Ascend (keys_of layout (rows_of level))

-- where this is told, no node that can be marked has this separator
abbrev pub NoNode : RowLayout → Kind → Separator → List Bool → Type 0 → List (Option Sector) → Type 0
NoNode layout kind separator seen told pages =
    told → CanMark seen (separator.page ∷ []) → (node : TreeNode) → separator_of layout node ≡ separator → IsOnPage layout pages kind node → ⊥

-- no level that can be marked has these: none of inner pages with rows few enough, none of leaves, and neither
abbrev pub NoInner : RowLayout → List Separator → List Bool → Type 0 → List (Option Sector) → Type 0
NoInner layout separators seen told pages =
    told → CanMark seen (separator_pages separators) → (level : List TreeNode) → IsLevel layout pages Inner separators level → length (rows_of level) ≤ length seen → ⊥

abbrev pub NoLeaves : RowLayout → List Separator → List Bool → Type 0 → List (Option Sector) → Type 0
NoLeaves layout separators seen told pages =
    told → CanMark seen (separator_pages separators) → (level : List TreeNode) → IsLevel layout pages Leaf separators level → Ascend (keys_of layout (rows_of level)) → ⊥

abbrev pub NoLevel : RowLayout → List Separator → List Bool → Type 0 → List (Option Sector) → Type 0
NoLevel layout separators seen told pages =
    told → CanMark seen (separator_pages separators) → (kind : Kind) (level : List TreeNode) → IsLevel layout pages kind separators level →
    (kind ≡ Leaf → Ascend (keys_of layout (rows_of level))) → (kind ≡ Inner → length (rows_of level) ≤ length seen) → ⊥

-- no so many levels that can be marked are under these
abbrev pub NoLevels : RowLayout → List Separator → List Bool → ℕ → Type 0 → List (Option Sector) → Type 0
NoLevels layout separators seen depth told pages =
    told → (levels : List (List TreeNode)) → IsUnder layout pages separators levels → CanMark seen (pages_of levels) → All (λ page. page < 2 ^ 32) (pages_of levels) →
    length levels ≤ depth → ⊥

-- no tree without a mark is below the root
abbrev pub NoUnmarkedTree : RowLayout → ℕ → List Bool → Type 0 → List (Option Sector) → Type 0
NoUnmarkedTree layout root seen told pages = told → (levels : List (List TreeNode)) → IsTreeOrEmpty layout pages root levels → All (IsUnmarked seen) (pages_of levels) → ⊥

-- these rows are below the separator after a place, if there is one
abbrev pub BelowNext : RowLayout → List Separator → ℕ → List (List ℕ) → Type 0
BelowNext layout separators place rows = (none : Separator) → place + 1 < length separators → AllBelow layout (slice_index_or separators (place + 1) none).key rows
