-- The trees of a file in the pages over an honest device, while calls only read.
use Rattle.std.proofs.Common.{◌≡◌, ℕ, List, sym, subst}
use Rattle.std.specs.Prelude.{Option, Some}
use Rattle.std.specs.Option.{option_map}
use Rattle.station.specs.Disk.{Sector}
use Rattle.station.specs.declared.device.Device.{Ghosts as Devices}
use Rattle.pages.specs.Pages.{Agrees, IsUnchanged}
use Rattle.pages.specs.declared.page_map.PageMap.{PageMap}
use Rattle.btree.specs.Calls.{pages_on}
use Rattle.btree.specs.Entries.{Entry}
use Rattle.btree.proofs.Frames.{same_pages}
use Rattle.records.specs.declared.key.KeyOfReference.TheVariants.{Prime}
use Rattle.records.specs.Spec.{Spec}
use Rattle.records.specs.Rows.{Pair, Row}
use Rattle.records.specs.Changes.{row_at}
use Rattle.records.specs.Files.{NamedFile}
use Rattle.volume_format.specs.Calls.{LooksAt}
use Rattle.volume_format.specs.Forest.{TreeLevels}
use Rattle.volume_format.specs.Trees.{entry_under}
use Rattle.row_trees.specs.RowTree.{ChainedTree, IsRowTree}
use Rattle.alternate_keys.specs.Placed.{HasTrees}
use Rattle.alternate_keys.specs.Seen.{HasRows}
use Rattle.alternate_keys.proofs.FoundRow.{FoundRow, found_at}

module _ {D : Type 0} (d : Devices D) where
  -- the device is honest, agrees with the map of pages, and the file has its trees there
  pub record HoldsTrees (spec : Spec) (named : NamedFile) (generation : ℕ) (left right : List TreeLevels)
      (listing : List ℕ) (pages : PageMap) (now : D) : Type 0 where
    pub honest : d.is_honest now
    pub agrees : Agrees pages (d.state now).disk
    pub has : HasTrees spec named generation (pages_on d pages now) left right listing

  pub still_holds : {A : Type 0} {spec : Spec} {named : NamedFile} {generation : ℕ} {left right : List TreeLevels}
      {listing : List ℕ} {p q : PageMap} {a b : D} → HoldsTrees spec named generation left right listing p a
      → LooksAt d A p a q b → HoldsTrees spec named generation left right listing q b
  still_holds {spec} {named} {generation} {left} {right} {listing} {p} {q} {a} {b} held looks =
      let still = looks.only.state held.honest in
      record {
        honest = looks.only.honest.0 held.honest;
        agrees = looks.agrees held.honest held.agrees;
        has = subst (λ (l : List (Option Sector)). HasTrees spec named generation l left right listing)
            (sym (same_pages p q (d.state a) (d.state b) looks.unchanged still)) held.has;
      }

  -- the rows are there still, after calls that only read
  pub rows_still : {spec : Spec} {rows : List Row} {prime : ChainedTree} (p q : PageMap) (a b : D) → IsUnchanged p q
      → d.state b ≡ d.state a → (there : HasRows spec (pages_on d p a) rows prime)
      → IsRowTree (pages_on d q b) prime there.planted
  rows_still {spec} {rows} {prime} p q a b unchanged still there =
      subst (λ (l : List (Option Sector)). IsRowTree l prime there.planted)
      (sym (same_pages p q (d.state a) (d.state b) unchanged still)) there.stands

  -- and the row of a pair was found in them
  pub record HoldsRow (spec : Spec) (named : NamedFile) (generation : ℕ) (left right : List TreeLevels)
      (listing : List ℕ) (pair : Pair) (entry : Entry) (pages : PageMap) (now : D) : Type 0 where
    pub trees : HoldsTrees spec named generation left right listing pages now
    pub row : FoundRow spec named pair entry

  pub holds_row : {A : Type 0} {spec : Spec} {named : NamedFile} {generation : ℕ} {left right : List TreeLevels}
      {listing : List ℕ} {p q : PageMap} {a b : D} → HoldsTrees spec named generation left right listing p a
      → LooksAt d A p a q b → (pair asked : Pair) → asked ≡ pair → (answer : Option Entry) (entry : Entry)
      → answer ≡ option_map (entry_under spec Prime) (row_at spec.organization asked named.file.rows)
      → answer ≡ Some entry → HoldsRow spec named generation left right listing pair entry q b
  holds_row {spec} {named} held looks pair asked same answer entry told some = record {
    trees = still_holds held looks;
    row = subst (λ (p : Pair). FoundRow spec named p entry) same
        (found_at _ _ _ _ _ _ _ held.has asked answer told entry some);
  }
