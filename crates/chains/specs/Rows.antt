-- The entries of a tree whose records are in chains.
use Rattle.std.specs.Prelude.{◌≡◌, ◌≢◌, ◌++◌, ℕ, List, [], ◌∷◌, map, Option, Some, None, option_map, Contains}
use Rattle.std.specs.List.{All, flat_map}
use Rattle.station.specs.Disk.{Sector}
use Rattle.btree.specs.Entries.{Entry, entry_with, first_from, first_entry_after, with_new_entry, with_value}
use Rattle.btree.specs.Entries.{without_entry}
use Rattle.btree.specs.Laws.{Apart}
use Rattle.btree.specs.Moves.{Moves, Once}
use Rattle.btree.specs.Tree.{TreeNode, IsTreeOrEmpty, pages_of}
use Rattle.btree_pages.specs.declared.row_layout.RowLayout.{RowLayout}
use Rattle.chains.specs.Chain.{Stands, chain_pages, chain_bytes, page_at}

-- Where the record of an entry is: how many pages its chain has, its first page, and the entry with the bytes of its
-- chain.
pub record RowForm : Type 0 where
  pub count : ℕ
  pub first : Entry → ℕ
  pub with_bytes : List ℕ → Entry → Entry
  pub keeps_key : (bytes : List ℕ) (entry : Entry) → (with_bytes bytes entry).key ≡ entry.key

-- an entry with the bytes of its chain
abbrev pub unrolled_entry : RowForm → List (Option Sector) → Entry → Entry
unrolled_entry form pages entry = form.with_bytes (chain_bytes pages form.count (form.first entry)) entry

-- the pages of its chain, and those of the chains of some entries
abbrev pub chain_of : RowForm → List (Option Sector) → Entry → List ℕ
chain_of form pages entry = chain_pages pages form.count (form.first entry)

abbrev pub chains_of : RowForm → List (Option Sector) → List Entry → List ℕ
chains_of form pages entries = flat_map (chain_of form pages) entries

-- the chain of an entry stands
abbrev pub HasChain : RowForm → List (Option Sector) → Entry → Type 0
HasChain form pages entry = Stands pages form.count (form.first entry)

-- each of these pages is in the map
abbrev pub AreThere : List (Option Sector) → List ℕ → Type 0
AreThere pages numbers = (page : ℕ) → Contains numbers page → page_at pages page ≢ None

-- The entries of a tree on these pages have their chains, and no page stands twice in the tree and the chains.
pub record HasRows (form : RowForm) (pages : List (Option Sector)) (tree : List ℕ) (entries : List Entry) : Type 0 where
  pub stand : All (HasChain form pages) entries
  pub once : Once (tree ++ chains_of form pages entries)
  pub there : AreThere pages tree

-- What a tree with its chains became: its entries with their chains, seen as these.
pub record RowsMove (form : RowForm) (before : List (Option Sector)) (tree : List ℕ) (old : List Entry)
    (after : List (Option Sector)) (new_tree : List ℕ) (new seen : List Entry) : Type 0 where
  pub rows : HasRows form after new_tree new
  pub moves : Moves before (tree ++ chains_of form before old) after (new_tree ++ chains_of form after new)
  pub seen_as : map (unrolled_entry form after) new ≡ seen

-- the tree's pages after its change: none stands twice, and each is in the map
pub record IsTreeMove (before : List (Option Sector)) (tree : List ℕ) (after : List (Option Sector)) (new_tree : List ℕ)
    : Type 0 where
  pub moves : Moves before tree after new_tree
  pub once : Once new_tree
  pub there : AreThere after new_tree

-- the chain of a new entry is laid, and then the entry comes into the tree
abbrev pub RowsInsert : Type 0
RowsInsert =
    (form : RowForm) (before mid after : List (Option Sector)) (tree new_tree : List ℕ) (entries : List Entry)
    (entry : Entry) →
    HasRows form before tree entries → HasChain form mid entry → Moves before [] mid (chain_of form mid entry)
    → IsTreeMove mid tree after new_tree →
    RowsMove form before tree entries after new_tree (with_new_entry entries entry)
    (with_new_entry (map (unrolled_entry form before) entries) (unrolled_entry form mid entry))

-- an entry leaves the tree, and then its chain is released
abbrev pub RowsRemove : Type 0
RowsRemove =
    (form : RowForm) (before mid after : List (Option Sector)) (tree new_tree : List ℕ) (entries : List Entry)
    (entry : Entry) →
    HasRows form before tree entries → entry_with entries entry.key ≡ Some entry → IsTreeMove before tree mid new_tree
    → Moves mid (chain_of form mid entry) after [] →
    RowsMove form before tree entries after new_tree (without_entry entries entry.key)
    (without_entry (map (unrolled_entry form before) entries) entry.key)

-- the chain of an entry gets other bytes, and then the entry another value with the same chain
abbrev pub RowsRewrite : Type 0
RowsRewrite =
    (form : RowForm) (before mid after : List (Option Sector)) (tree new_tree : List ℕ) (entries : List Entry)
    (old entry : Entry) →
    HasRows form before tree entries → entry_with entries entry.key ≡ Some old → HasChain form mid entry
    → chain_of form mid entry ≡ chain_of form before old →
    Moves before (chain_of form before old) mid (chain_of form before old) → IsTreeMove mid tree after new_tree →
    RowsMove form before tree entries after new_tree (with_value entries entry)
    (with_value (map (unrolled_entry form before) entries) (unrolled_entry form mid entry))

-- what is known of a tree with its chains after a change of other pages
pub record KeepsRows (form : RowForm) (before : List (Option Sector)) (tree : List ℕ) (entries : List Entry)
    (after : List (Option Sector)) (new : List ℕ) : Type 0 where
  pub rows : HasRows form after tree entries
  pub same_pages : chains_of form after entries ≡ chains_of form before entries
  pub seen_as : map (unrolled_entry form after) entries ≡ map (unrolled_entry form before) entries
  pub apart : Apart (tree ++ chains_of form before entries) new

-- a change of pages that neither the tree nor its chains have leaves them as they are, and they have none of the new
-- ones
abbrev pub RowsStay : Type 0
RowsStay =
    (form : RowForm) (before after : List (Option Sector)) (old new tree : List ℕ) (entries : List Entry) →
    HasRows form before tree entries → Moves before old after new → Apart (tree ++ chains_of form before entries) old →
    KeepsRows form before tree entries after new

-- the chain of the first entry is released: the others stay, as if that entry weren't there
abbrev pub RowsRelease : Type 0
RowsRelease =
    (form : RowForm) (before after : List (Option Sector)) (tree : List ℕ) (entry : Entry) (more : List Entry) →
    HasRows form before tree (entry ∷ more) → Moves before (chain_of form before entry) after [] → KeepsRows form before tree more after []

-- what a tree became is such a change of its pages
abbrev pub TreeMoves : Type 0
TreeMoves =
    (layout : RowLayout) (before after : List (Option Sector)) (root : ℕ) (old levels : List (List TreeNode)) →
    IsTreeOrEmpty layout after root levels → Moves before (pages_of old) after (pages_of levels)
    → IsTreeMove before (pages_of old) after (pages_of levels)

-- Values don't steer: a change of entries that keeps their keys commutes with the operations on lists of entries.
pub record MapsEntries (f : Entry → Entry) : Type 0 where
  pub found : (entries : List Entry) (key : List ℕ)
      → entry_with (map f entries) key ≡ option_map f (entry_with entries key)
  pub from : (entries : List Entry) (key : List ℕ)
      → first_from (map f entries) key ≡ option_map f (first_from entries key)
  pub later : (entries : List Entry) (key : List ℕ)
      → first_entry_after (map f entries) key ≡ option_map f (first_entry_after entries key)
  pub inserted : (entries : List Entry) (new : Entry)
      → with_new_entry (map f entries) (f new) ≡ map f (with_new_entry entries new)
  pub replaced : (entries : List Entry) (new : Entry)
      → with_value (map f entries) (f new) ≡ map f (with_value entries new)
  pub removed : (entries : List Entry) (key : List ℕ)
      → without_entry (map f entries) key ≡ map f (without_entry entries key)

abbrev pub ValuesDontSteer : Type 0
ValuesDontSteer = (f : Entry → Entry) → ((entry : Entry) → (f entry).key ≡ entry.key) → MapsEntries f
