-- The entries of items, in order.
use Rattle.std.specs.Prelude.{◌≡◌, ℕ, ◌+◌, List, [], ◌∷◌, ◌++◌, length, slice_get, Some, Result, Ok, Err}
use Rattle.std.specs.Borrow.{Bor}
use Rattle.source_tree.specs.declared.entry.ItemEntry.{ItemEntry}
use Rattle.source_tree.specs.declared.entry.Entry.{Entry}
use Rattle.source_tree.specs.declared.entry.Entry.TheVariants as entry
use Rattle.source_tree.specs.declared.select.FileDescription.{FileDescription}

abbrev pub items_among : List Entry → List ItemEntry
items_among [] = []
items_among (entry.Item one ∷ more) = one ∷ items_among more
items_among (entry.Condition one ∷ more) = items_among more

abbrev pub items_of_files : List FileDescription → List ItemEntry
items_of_files [] = []
items_of_files (one ∷ more) = items_among one.entries ++ items_of_files more

abbrev pub result_now : Result (Bor ItemEntry) ℕ → Result ItemEntry ℕ
result_now (Ok one) = Ok one.now
result_now (Err left) = Err left

-- The one of this number; or there are fewer, and this number is left.
abbrev pub IsAmong : List ItemEntry → ℕ → Result ItemEntry ℕ → Type 0
IsAmong all number (Ok one) = slice_get all number ≡ Some one
IsAmong all number (Err left) = number ≡ length all + left
