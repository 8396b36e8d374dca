-- What a call on pages tells by its answer, and how much it changes.
use Rattle.std.specs.Prelude.{◌≡◌, ◌≢◌, ◌≤◌, ◌<◌, ◌+◌, ◌↔◌, ℕ, Bool, true, false, length, Result, Ok, Err, OnOk, OnErr}
use Rattle.pages.specs.Pages.{is_spent, changed_pages_of, filled_of, committed_of, catalog_of, HasEachPage, IsUnchanged}
use Rattle.pages.specs.Use.{free_count}
use Rattle.pages.specs.declared.page_map.PageMap.{PageMap}
use Rattle.pages.specs.declared.error.PagesError.{PagesError}
use Rattle.pages.specs.declared.error.PagesError.TheVariants.{Full, Damaged, Spent}
use Rattle.btree.specs.declared.removal_outcome.RemovalOutcome.{RemovalOutcome}
use Rattle.btree.specs.Outcomes.{spare}
use Rattle.btree.specs.Rooted.{RootedTree}

abbrev pub ReturnsDamaged : {T : Type 0} → Result T PagesError → Type 0
ReturnsDamaged result = result ≡ Err Damaged

-- `Spent` comes only where the map is spent; exactly there; and exactly where there is a root besides
abbrev pub OnlyIfSpent : {T : Type 0} → PageMap → Result T PagesError → Type 0
OnlyIfSpent pages result = result ≡ Err Spent → is_spent pages ≡ true

abbrev pub ExactlyIfSpent : {T : Type 0} → PageMap → Result T PagesError → Type 0
ExactlyIfSpent pages result = (result ≡ Err Spent) ↔ (is_spent pages ≡ true)

abbrev pub ExactlyIfSpentAt : {T : Type 0} → ℕ → PageMap → Result T PagesError → Type 0
ExactlyIfSpentAt root pages result = (result ≡ Err Spent) ↔ ((is_spent pages ≡ true) × (root ≢ 0))

abbrev pub OnlyIfSpentAt : {T : Type 0} → ℕ → PageMap → Result T PagesError → Type 0
OnlyIfSpentAt root pages result = result ≡ Err Spent → (is_spent pages ≡ true) × (root ≢ 0)

-- `Full` comes only where each page number is used
abbrev pub FullIfUsed : {T : Type 0} → PageMap → Result T PagesError → Type 0
FullIfUsed pages result = result ≡ Err Full → HasEachPage pages

-- and only where fewer sectors are free than pages were changed since the last commit, plus so many
abbrev pub FullOnlyIfFewFree : {T : Type 0} → ℕ → PageMap → Result T PagesError → Type 0
FullOnlyIfFewFree most pages result = result ≡ Err Full → free_count (committed_of pages) < length (changed_pages_of pages) + most

-- `false` is returned only if the map of pages is unchanged; and the tree besides
abbrev pub FalseOnlyIfUnchanged : PageMap → PageMap → Result Bool PagesError → Type 0
FalseOnlyIfUnchanged old new result = result ≡ Ok false → IsUnchanged old new

abbrev pub FalseOnlyIfSame : RootedTree → PageMap → RootedTree → PageMap → Result Bool PagesError → Type 0
FalseOnlyIfSame tree old tree' new result = result ≡ Ok false → IsUnchanged old new × (tree' ≡ tree)

-- An error is returned only if the tree has the root from before the call; and `Ok` only if it has none.
abbrev pub ErrOnlyIfSame : {T : Type 0} → RootedTree → RootedTree → Result T PagesError → Type 0
ErrOnlyIfSame tree tree' result = OnErr result (tree' ≡ tree)

abbrev pub OkOnlyIfEmpty : {T : Type 0} → RootedTree → Result T PagesError → Type 0
OkOnlyIfEmpty tree result = OnOk result (tree.root ≡ 0)

-- the lengths of a tree's keys and values stay, and so does the page of the catalog's root
abbrev pub SameLayout : RootedTree → RootedTree → Type 0
SameLayout tree tree' = tree'.layout ≡ tree.layout

abbrev pub SameCatalog : PageMap → PageMap → Type 0
SameCatalog old new = catalog_of new ≡ catalog_of old

-- at most so many pages more were changed since the last commit, and at most so many more have bytes
abbrev pub FewChanged : ℕ → PageMap → PageMap → Type 0
FewChanged most old new = length (changed_pages_of new) ≤ length (changed_pages_of old) + most

abbrev pub FewFilled : ℕ → PageMap → PageMap → Type 0
FewFilled most old new = filled_of new ≤ filled_of old + most

abbrev pub FillsNoMore : PageMap → PageMap → Type 0
FillsNoMore old new = filled_of new ≤ filled_of old

-- and with the page that wasn't written yet
abbrev pub LeavesFewChanged : ℕ → PageMap → PageMap → RemovalOutcome → Type 0
LeavesFewChanged most old new outcome = length (changed_pages_of new) + spare outcome ≤ length (changed_pages_of old) + most

abbrev pub LeavesFewFilled : ℕ → PageMap → PageMap → RemovalOutcome → Type 0
LeavesFewFilled most old new outcome = filled_of new + spare outcome ≤ filled_of old + most
