-- What the calls on a tree of rows are asked for, said once.
use Rattle.std.specs.Prelude.{◌≡◌, ◌<◌, ◌+◌, ◌++◌, ℕ, Bool, true, false, List, length, None, IsSome}
use Rattle.std.specs.Prelude.{Result, Ok, Err, OnOk}
use Rattle.station.specs.declared.device.Device.{Ghosts as Devices}
use Rattle.pages.specs.Pages.{committed_of, changed_pages_of, Agrees, IsUnchanged}
use Rattle.pages.specs.Use.{free_count}
use Rattle.pages.specs.declared.error.PagesError.{PagesError}
use Rattle.pages.specs.declared.error.PagesError.TheVariants.{Full, Damaged}
use Rattle.pages.specs.declared.page_map.PageMap.{PageMap}
use Rattle.btree.specs.Calls.{pages_on}
pub use Rattle.btree.specs.Calls.{EditsPages, EditsPagesFor}
use Rattle.btree.specs.Entries.{Entry, entry_with, with_new_entry, with_value, without_entry}
use Rattle.btree.specs.Results.{FewChanged}
use Rattle.chains.specs.Chain.{pages_for}
use Rattle.volume_format.specs.Forest.{TreeLevels, IsForest}
use Rattle.row_trees.specs.RowTree.{ChainedTree, IsRowTree, IsRowTreeAmong}

-- `Full` is returned only if fewer than so many sectors are free besides those of the changed pages
abbrev pub LacksSectors : {T : Type 0} → ℕ → PageMap → Result T PagesError → Type 0
LacksSectors most pages result =
    result ≡ Err Full → free_count (committed_of pages) < length (changed_pages_of pages) + most

-- After `Ok false` the pages and the tree are unchanged.
abbrev pub LeavesTree : {E : Type 0} → ChainedTree → PageMap → ChainedTree → PageMap → Result Bool E → Type 0
LeavesTree rows pages rows' pages' result = result ≡ Ok false → IsUnchanged pages pages' × (rows' ≡ rows)

module _ {D : Type 0} (d : Devices D) where
  -- where the device is honest and agrees with the map of pages, and the tree stands there
  abbrev pub OnRowTree : ChainedTree → PageMap → D → (TreeLevels → Type 0) → Type 0
  OnRowTree rows pages now claim =
      d.is_honest now → Agrees pages (d.state now).disk → (planted : TreeLevels) →
      IsRowTree (pages_on d pages now) rows planted → claim planted

  -- and where it stands with these entries between these others
  abbrev pub OnRowTreeAmong : ChainedTree → PageMap → D → (List TreeLevels → List TreeLevels → List Entry → Type 0)
      → Type 0
  OnRowTreeAmong rows pages now claim =
      d.is_honest now → Agrees pages (d.state now).disk → (left right : List TreeLevels) (entries : List Entry) →
      IsRowTreeAmong (pages_on d pages now) left right rows entries → claim left right entries

  -- What a call does there, and what it returns.

  -- After `Ok true` the key was missing. The tree has the new row at its place, among the same others.
  abbrev pub InsertsRow : {E : Type 0} → ChainedTree → PageMap → D → ChainedTree → PageMap → List ℕ → List ℕ
      → Result Bool E → Type 0
  InsertsRow rows pages now rows' pages' key value result = OnRowTreeAmong rows pages now
      (λ left right entries. result ≡ Ok true → (entry_with entries key ≡ None)
      × IsRowTreeAmong (pages_on d pages' now) left right rows'
      (with_new_entry entries (record { key = key; value = value })))

  -- After `Ok true` the key was there. The row has the other value, and the tree is among the same others.
  abbrev pub ReplacesRow : {E : Type 0} → ChainedTree → PageMap → D → PageMap → List ℕ → List ℕ → Result Bool E
      → Type 0
  ReplacesRow rows pages now pages' key value result = OnRowTreeAmong rows pages now
      (λ left right entries. result ≡ Ok true → IsSome (entry_with entries key)
      × IsRowTreeAmong (pages_on d pages' now) left right rows
      (with_value entries (record { key = key; value = value })))

  -- After `Ok true` the key was there. The tree has the other rows, and is among the same others.
  abbrev pub RemovesRow : {E : Type 0} → ChainedTree → PageMap → D → ChainedTree → PageMap → List ℕ → Result Bool E
      → Type 0
  RemovesRow rows pages now rows' pages' key result = OnRowTreeAmong rows pages now
      (λ left right entries. result ≡ Ok true → IsSome (entry_with entries key)
      × IsRowTreeAmong (pages_on d pages' now) left right rows' (without_entry entries key))

  -- After `Ok` the pages are the other trees.
  abbrev pub ClearsTree : {T E : Type 0} → ChainedTree → PageMap → D → PageMap → Result T E → Type 0
  ClearsTree rows pages now pages' result = OnRowTreeAmong rows pages now
      (λ left right entries. OnOk result (IsForest (pages_on d pages' now) (left ++ right)))

  -- `Ok false` is returned only if the key is there; and only if it is missing.
  abbrev pub FindsKey : {E : Type 0} → ChainedTree → PageMap → D → List ℕ → Result Bool E → Type 0
  FindsKey rows pages now key result =
      OnRowTreeAmong rows pages now (λ left right entries. result ≡ Ok false → IsSome (entry_with entries key))

  abbrev pub MissesKey : {E : Type 0} → ChainedTree → PageMap → D → List ℕ → Result Bool E → Type 0
  MissesKey rows pages now key result =
      OnRowTreeAmong rows pages now (λ left right entries. result ≡ Ok false → entry_with entries key ≡ None)

  -- It doesn't return `Damaged`.
  abbrev pub ReturnsNoDamage : {T : Type 0} → ChainedTree → PageMap → D → Result T PagesError → Type 0
  ReturnsNoDamage rows pages now result =
      OnRowTreeAmong rows pages now (λ left right entries. result ≡ Err Damaged → ⊥)

  -- What an insertion answers: `Ok true` after the row came to its place, `Ok false` only if its key is there, and no
  -- `Damaged`.
  pub record AnswersInsertion (rows : ChainedTree) (pages : PageMap) (now : D) (rows' : ChainedTree) (pages' : PageMap)
      (key value : List ℕ) (result : Result Bool PagesError) : Type 0 where
    pub inserted : InsertsRow rows pages now rows' pages' key value result
    pub there : FindsKey rows pages now key result
    pub damaged : ReturnsNoDamage rows pages now result

  -- At most so many pages more are changed, and those of a chain; of the second, if the call succeeds.
  abbrev pub ChangesFewPages : ℕ → ChainedTree → PageMap → D → PageMap → Type 0
  ChangesFewPages most rows pages now pages' = OnRowTreeAmong rows pages now
      (λ left right entries. FewChanged (most + pages_for rows.record_bytes) pages pages')

  abbrev pub ChangesFewPagesOnOk : {T E : Type 0} → ℕ → ChainedTree → PageMap → D → PageMap → Result T E → Type 0
  ChangesFewPagesOnOk most rows pages now pages' result = OnRowTreeAmong rows pages now
      (λ left right entries. OnOk result (FewChanged (most + pages_for rows.record_bytes) pages pages'))

  -- `Full` is returned only if fewer sectors are free than so many pages and those of a chain need.
  abbrev pub LacksPages : {T : Type 0} → ℕ → ChainedTree → PageMap → D → Result T PagesError → Type 0
  LacksPages most rows pages now result = OnRowTreeAmong rows pages now
      (λ left right entries. LacksSectors (most + pages_for rows.record_bytes) pages result)
