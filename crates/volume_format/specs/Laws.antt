-- What holds of trees in one map, and of what a map holds.
use Rattle.std.specs.Prelude.{◌≡◌, ◌<◌, ◌^◌, ◌++◌, ℕ, true, List, [], ◌∷◌, length, map, Option}
use Rattle.station.specs.Disk.{Sector}
use Rattle.btree.specs.Moves.{Moves}
use Rattle.pages.specs.Image.{Map}
use Rattle.pages.specs.Pages.{next_generation}
use Rattle.pages.specs.Empty.{empty_map}
use Rattle.records.specs.declared.key.KeyOfReference.TheVariants.{Prime, Alternate}
use Rattle.std.specs.List.{All}
use Rattle.records.specs.Files.{File, Files, IsFile}
use Rattle.btree_pages.specs.RowLayouts.{IsRowLayout}
use Rattle.records.specs.declared.key.KeyOfReference.{KeyOfReference}
use Rattle.records.specs.Spec.{Spec, is_spec}
use Rattle.records.specs.Stores.{IsKey}
use Rattle.volume_format.specs.Trees.{entry_under, layout_under}
use Rattle.volume_format.specs.Pairs.{IsUnder}
use Rattle.volume_format.specs.Forest.{TreeLevels, IsForest, IsTreeIn, pages_under}
use Rattle.volume_format.specs.Volume.{MapHolds, Holds}

-- One tree of a forest became another, and the others stay.
abbrev pub ForestMoves : Type 0
ForestMoves = (before after : List (Option Sector)) (left right : List TreeLevels) (old new : TreeLevels) →
    IsForest before (left ++ old ∷ right) → Moves before (pages_under old) after (pages_under new) → IsTreeIn after new →
    IsForest after (left ++ new ∷ right)

-- the next generation holds the same files
abbrev pub NextHolds : Type 0
NextHolds = (m : Map) (files : Files) → MapHolds m files → MapHolds (next_generation m) files

-- a volume without pages holds no files
abbrev pub EmptyHolds : Type 0
EmptyHolds = (sectors : ℕ) → MapHolds (empty_map sectors) []

-- the rows of a file can be keys of its trees
abbrev pub RowsFit : Type 0
RowsFit = (file : File) → IsFile file → file.next_arrival < 2 ^ 63 →
    All (IsUnder file.spec Prime) file.rows × ((i : ℕ) → i < length file.spec.alternates → All (IsUnder file.spec (Alternate i)) file.rows)

-- each key of a file has a layout that trees can have
abbrev pub LayoutsFit : Type 0
LayoutsFit = (spec : Spec) (key : KeyOfReference) → is_spec spec ≡ true → IsKey spec key → IsRowLayout (layout_under spec key)

-- the tree of rows tells the rows
abbrev pub OneRows : Type 0
OneRows = (file other : File) → IsFile file → IsFile other → other.spec ≡ file.spec → file.next_arrival < 2 ^ 63 → other.next_arrival < 2 ^ 63 →
    map (entry_under file.spec Prime) file.rows ≡ map (entry_under file.spec Prime) other.rows → file.rows ≡ other.rows

-- an image holds at most one list of files
abbrev pub OneFiles : Type 0
OneFiles = (image : List Sector) (one two : Files) → Holds image one → Holds image two → one ≡ two
