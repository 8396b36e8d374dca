-- What the calls that change a tree return. The device is honest and agrees with the map of pages, and the pages under the root are a tree.
use Rattle.std.specs.Prelude.{◌≡◌, ℕ, Bool, true, false, List, [], Result, Ok, Some, None, IsSome, OnOk}
use Rattle.station.specs.declared.device.Device.{Ghosts as Devices}
use Rattle.pages.specs.declared.page_map.PageMap.{PageMap}
use Rattle.pages.specs.declared.error.PagesError.{PagesError}
use Rattle.btree.specs.Tree.{pages_of}
use Rattle.btree.specs.Entries.{entries_of, entry_with, with_value}
use Rattle.btree.specs.Rooted.{RootedTree}
use Rattle.btree.specs.Moves.{Moves}
use Rattle.btree.specs.Changes.{Becomes, Inserts}
use Rattle.btree.specs.Removals.{Removes}
use Rattle.btree.specs.Results.{FewChanged, FewFilled, FullIfUsed, FullOnlyIfFewFree}
use Rattle.btree.specs.Calls.{OnTree, OnTreeChange, IfTree}

module _ {D : Type 0} (device : Devices D) where
  -- `false` is returned only if the key is in the tree; and only if it isn't
  abbrev pub FalseOnlyIfPresent : RootedTree → PageMap → D → List ℕ → Result Bool PagesError → Type 0
  FalseOnlyIfPresent tree pages now key result = OnTree device tree.layout tree.root pages now
      (λ levels. result ≡ Ok false → IsSome (entry_with (entries_of tree.layout levels) key))

  abbrev pub FalseOnlyIfAbsent : RootedTree → PageMap → D → List ℕ → Result Bool PagesError → Type 0
  FalseOnlyIfAbsent tree pages now key result = OnTree device tree.layout tree.root pages now
      (λ levels. result ≡ Ok false → entry_with (entries_of tree.layout levels) key ≡ None)

  -- `true` is returned only if the tree after the call has the entries from before it and a new one
  abbrev pub TrueOnlyIfInserted : RootedTree → PageMap → D → List ℕ → List ℕ → RootedTree → PageMap → Result Bool PagesError → Type 0
  TrueOnlyIfInserted tree old now key value tree' new result = OnTreeChange device tree.layout tree.root old new now
      (λ before levels after. result ≡ Ok true → Inserts tree.layout before levels after key value (Some tree'.root))

  -- only if the entry of the key has this value then
  abbrev pub TrueOnlyIfReplaced : RootedTree → PageMap → D → List ℕ → List ℕ → PageMap → Result Bool PagesError → Type 0
  TrueOnlyIfReplaced tree old now key value new result = OnTreeChange device tree.layout tree.root old new now
      (λ before levels after. result ≡ Ok true → IsSome (entry_with (entries_of tree.layout levels) key)
      × Becomes tree.layout before levels after tree.root
      (with_value (entries_of tree.layout levels) (record { key = key; value = value })))

  -- and only if it has the entries from before it without that of the key
  abbrev pub TrueOnlyIfRemoved : RootedTree → PageMap → D → List ℕ → RootedTree → PageMap → Result Bool PagesError → Type 0
  TrueOnlyIfRemoved tree old now key tree' new result = OnTreeChange device tree.layout tree.root old new now
      (λ before levels after. result ≡ Ok true → Removes tree.layout before levels after key (Some tree'.root))

  -- `Ok` is returned only if the pages of the tree have left the map of pages
  abbrev pub OkOnlyIfCleared : {T : Type 0} → RootedTree → PageMap → D → PageMap → Result T PagesError → Type 0
  OkOnlyIfCleared tree old now new result = OnTreeChange device tree.layout tree.root old new now
      (λ before levels after. OnOk result (Moves before (pages_of levels) after []))

  -- whatever is returned, at most so many pages more are changed, and at most so many more have bytes
  abbrev pub ChangesFewOnTree : ℕ → RootedTree → PageMap → D → PageMap → Type 0
  ChangesFewOnTree most tree old now new = IfTree device tree old now (FewChanged most old new)

  abbrev pub FillsFewOnTree : ℕ → RootedTree → PageMap → D → PageMap → Type 0
  FillsFewOnTree most tree old now new = IfTree device tree old now (FewFilled most old new)

  -- `Full` is returned only if fewer sectors are free than pages were changed, plus so many
  abbrev pub FullOnlyIfFewFreeOnTree : {T : Type 0} → ℕ → RootedTree → PageMap → D → Result T PagesError → Type 0
  FullOnlyIfFewFreeOnTree most tree old now result = IfTree device tree old now (FullOnlyIfFewFree most old result)

  -- Whatever is returned, at most so many pages are taken. `Full` is returned only if each page number is used, and so
  -- few sectors are free.
  pub record TakesFewPages (most : ℕ) (tree : RootedTree) (old : PageMap) (now : D) (new : PageMap)
      (result : Result Bool PagesError) : Type 0 where
    pub changed_pages : ChangesFewOnTree most tree old now new
    pub filled : FillsFewOnTree most tree old now new
    pub full : FullIfUsed new result
    pub room : FullOnlyIfFewFreeOnTree most tree old now result

  -- `Ok` is returned only if at most so many pages more are changed; and only if at most so many more have bytes
  abbrev pub OkOnlyIfFewChanged : {T : Type 0} → ℕ → RootedTree → PageMap → D → PageMap → Result T PagesError → Type 0
  OkOnlyIfFewChanged most tree old now new result = IfTree device tree old now (OnOk result (FewChanged most old new))

  abbrev pub OkOnlyIfFewFilled : {T : Type 0} → ℕ → RootedTree → PageMap → D → PageMap → Result T PagesError → Type 0
  OkOnlyIfFewFilled most tree old now new result = IfTree device tree old now (OnOk result (FewFilled most old new))

  pub record OkOnlyIfEditsFew (most : ℕ) (tree : RootedTree) (old : PageMap) (now : D) (new : PageMap)
      (result : Result Bool PagesError) : Type 0 where
    pub changed_pages : OkOnlyIfFewChanged most tree old now new result
    pub filled : OkOnlyIfFewFilled most tree old now new result
