-- What holds of every tree.
use Rattle.std.specs.Prelude.{◌≡◌, ◌≤◌, ◌+◌, ◌*◌, ◌↔◌, ◌^◌, ◌++◌, ℕ, List, [], ◌∷◌, map, length, Option, Some, IfSome, option_map, Contains, ⊤}
use Rattle.station.specs.Disk.{Sector}
use Rattle.btree_pages.specs.declared.row_layout.RowLayout.{RowLayout}
use Rattle.btree_pages.specs.declared.row_layout.Kind.TheVariants.{Leaf}
use Rattle.btree_pages.specs.RowLayouts.{capacity}
use Rattle.btree_pages.specs.Keys.{keys_of, Ascend}
use Rattle.btree.specs.Entries.{Entry, entries_of, entry_with, value_of}
use Rattle.btree.specs.Fills.{thin_leaves}
use Rattle.btree.specs.Tree.{TreeNode, IsTree, IsTreeOrEmpty, rows_of, leaves_of, pages_of}
use Rattle.btree.specs.Moves.{Moves, Once}

-- the keys of each level ascend
abbrev pub AllAscend : RowLayout → List (List TreeNode) → Type 0
AllAscend layout [] = ⊤
AllAscend layout (level ∷ more) = Ascend (keys_of layout (rows_of level)) × AllAscend layout more

-- a volume has fewer page numbers
abbrev pub IsSmall : List (Option Sector) → Type 0
IsSmall pages = length pages ≤ 2 ^ 20

-- the entry of a key has that key, and its value
abbrev pub EntryOfKey : Type 0
EntryOfKey = (entries : List Entry) (key : List ℕ) → (option_map (λ e. e.value) (entry_with entries key) ≡ value_of entries key) × IfSome (entry_with entries key) (λ e. e.key ≡ key)

abbrev pub LevelsAscend : Type 0
LevelsAscend = (layout : RowLayout) (pages : List (Option Sector)) (root : ℕ) (levels : List (List TreeNode)) → IsTree layout pages root levels → AllAscend layout levels

-- the pages under a root are one tree at most
abbrev pub OneTree : Type 0
OneTree = (layout : RowLayout) (pages : List (Option Sector)) (root : ℕ) (one two : List (List TreeNode)) → IsSmall pages → IsTreeOrEmpty layout pages root one → IsTreeOrEmpty layout pages root two → one ≡ two

abbrev pub FewLevels : Type 0
FewLevels = (layout : RowLayout) (pages : List (Option Sector)) (root : ℕ) (levels : List (List TreeNode)) → IsSmall pages → IsTreeOrEmpty layout pages root levels → length levels ≤ 20

-- no number stands in both
abbrev pub Apart : List ℕ → List ℕ → Type 0
Apart one two = (page : ℕ) → Contains one page → Contains two page → ⊥

-- A change of pages that a tree hasn't leaves it as it is, and it has none of the new ones.
abbrev pub TreeStays : Type 0
TreeStays = (layout : RowLayout) (before after : List (Option Sector)) (old new : List ℕ) (root : ℕ) (levels : List (List TreeNode)) →
    Moves before old after new → IsTreeOrEmpty layout before root levels → Apart (pages_of levels) old → IsTreeOrEmpty layout after root levels × Apart (pages_of levels) new

-- no page stands in a tree twice, or in two lists of pages of which none stands twice in both together
abbrev pub PagesOnce : Type 0
PagesOnce = (layout : RowLayout) (pages : List (Option Sector)) (root : ℕ) (levels : List (List TreeNode)) → IsTreeOrEmpty layout pages root levels → Once (pages_of levels)

abbrev pub OnceInParts : Type 0
OnceInParts = (one two : List ℕ) → Once (one ++ two) ↔ (Once one × Once two × Apart one two)

abbrev pub keys_listed : List Entry → List (List ℕ)
keys_listed entries = map (λ (entry : Entry). entry.key) entries

-- the keys of a tree's entries ascend, and each entry of such a list is the one of its key
abbrev pub EntriesAscend : Type 0
EntriesAscend = (layout : RowLayout) (pages : List (Option Sector)) (root : ℕ) (levels : List (List TreeNode)) → IsTreeOrEmpty layout pages root levels → Ascend (keys_listed (entries_of layout levels))

abbrev pub EntryThere : Type 0
EntryThere = (entries : List Entry) (entry : Entry) → Ascend (keys_listed entries) → Contains entries entry → entry_with entries entry.key ≡ Some entry

-- a tree has few leaves for its entries: each has a quarter of those that it has room for, except for those that have less
abbrev pub FewLeaves : Type 0
FewLeaves = (layout : RowLayout) (levels : List (List TreeNode)) → length (leaves_of levels) * capacity layout Leaf ≤ 4 * length (entries_of layout levels) + thin_leaves layout (leaves_of levels) * capacity layout Leaf
