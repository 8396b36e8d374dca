-- What a change of a row does to the trees of its file, and how many pages it takes there.
use Rattle.std.specs.Prelude.{◌≡◌, ◌<◌, ◌+◌, ◌*◌, true, false, ℕ, List, length, Result, Err, OnOk, IfOk, IfErr}
use Rattle.station.specs.declared.device.Device.{Ghosts as Devices}
use Rattle.pages.specs.Pages.{committed_of, changed_pages_of, is_spent, IsUnchanged}
use Rattle.pages.specs.Use.{free_count}
use Rattle.pages.specs.declared.page_map.PageMap.{PageMap}
use Rattle.btree.specs.Calls.{pages_on}
use Rattle.btree.specs.Results.{FewChanged}
use Rattle.chains.specs.Chain.{pages_for}
use Rattle.records.specs.declared.fault.StoreFault.{StoreFault}
use Rattle.records.specs.declared.fault.StoreFault.TheVariants.{Device, Full, Damaged, Spent}
use Rattle.records.specs.declared.file_spec.FileSpec.{FileSpec}
use Rattle.records.specs.Changes.{FileChange}
use Rattle.records.specs.Files.{File}
use Rattle.records.specs.Stores.{spec_of, is_change}
use Rattle.volume_format.specs.Chained.{chained_bytes}
use Rattle.row_trees.specs.Calls.{EditsPages}
use Rattle.alternate_keys.specs.declared.row_turn.RowTurn.{RowTurn}
use Rattle.alternate_keys.specs.Faults.{IsWriteFault}
use Rattle.alternate_keys.specs.Moved.{named_after}
use Rattle.alternate_keys.specs.Placed.{OnTrees, HasFileTrees}

-- at most 84 pages of the tree of each alternate key, 42 of the tree of rows, and those of the chain of a record
abbrev pub row_change_pages : FileSpec → ℕ
row_change_pages file = 84 * length file.alternates.items + (42 + pages_for (chained_bytes (spec_of file)))

module _ {D : Type 0} (d : Devices D) where
  -- where the file has its trees: after `Ok`, at most so many pages more are changed
  abbrev pub ChangesFewTreePages : {T : Type 0} → FileSpec → PageMap → D → List ℕ → PageMap → Result T StoreFault
      → Type 0
  ChangesFewTreePages file pages now listing pages' result = OnTrees d (spec_of file) pages now listing
      (λ named generation left right. OnOk result (FewChanged (row_change_pages file) pages pages'))

  -- and `Full` is returned only if fewer sectors are free than they need
  abbrev pub LacksTreePages : {T : Type 0} → FileSpec → PageMap → D → List ℕ → Result T StoreFault → Type 0
  LacksTreePages file pages now listing result = OnTrees d (spec_of file) pages now listing
      (λ named generation left right. result ≡ Err Full
      → free_count (committed_of pages) < length (changed_pages_of pages) + row_change_pages file)

  -- What a call that changes a row returns, and what it does to the trees of its file: where the file has them, the
  -- outcome is that of the change, and after a change the trees are those of the changed file.
  pub record ChangesTrees (change : File → FileChange) (file : FileSpec) (old : PageMap) (now : D) (listing : List ℕ)
      (new : PageMap) (now' : D) (result : Result RowTurn StoreFault) : Type 0 where
    pub edits : EditsPages d (result ≡ Err Device) old now new now'
    pub outcome : OnTrees d (spec_of file) old now listing
        (λ named generation left right. IfOk result (λ turn. turn.outcome ≡ (change named.file).outcome))
    pub placed : OnTrees d (spec_of file) old now listing (λ named generation left right. IfOk result (λ turn.
        is_change turn.outcome ≡ true → HasFileTrees (named_after named (change named.file)) (generation + 1)
        (pages_on d new now) left right turn.listing.items))
    pub few : ChangesFewTreePages file old now listing new result
    pub room : LacksTreePages file old now listing result
    pub full : is_spent old ≡ false → OnTrees d (spec_of file) old now listing
        (λ named generation left right. result ≡ Err Full → is_change (change named.file).outcome ≡ true)
    pub damaged : OnTrees d (spec_of file) old now listing (λ named generation left right. result ≡ Err Damaged → ⊥)
    pub same : IfOk result (λ turn. is_change turn.outcome ≡ false → IsUnchanged old new)
    pub long : IfOk result (λ turn. is_change turn.outcome ≡ true → length turn.listing.items ≡ 83)
    pub spent : result ≡ Err Spent → is_spent old ≡ true
    pub cause : IfErr result IsWriteFault
