-- The entries of a tree: an ascending list.
use Rattle.std.specs.Prelude.{◌≡◌, ℕ, List, [], ◌∷◌, map, length, Option, Some, None, if◌then◌else◌}
use Rattle.std.specs.Ordering.{is_lt, is_gt, is_eq}
use Rattle.btree_pages.specs.declared.row_layout.RowLayout.{RowLayout}
use Rattle.btree_pages.specs.Keys.{key_cmp, key_of, rest_of}
use Rattle.btree.specs.Tree.{TreeNode, rows_in_order}

pub record Entry : Type 0 where
  pub key : List ℕ
  pub value : List ℕ

abbrev pub entry_of : RowLayout → List ℕ → Entry
entry_of layout row = record { key = key_of layout row; value = rest_of layout row }

-- its key and value have the lengths that the layout tells
abbrev pub HasLengths : RowLayout → Entry → Type 0
HasLengths layout entry = (length entry.key ≡ layout.key_length) × (length entry.value ≡ layout.value_length)

abbrev pub entries_of_rows : RowLayout → List (List ℕ) → List Entry
entries_of_rows layout rows = map (entry_of layout) rows

abbrev pub entries_of : RowLayout → List (List TreeNode) → List Entry
entries_of layout levels = entries_of_rows layout (rows_in_order levels)

-- the entry of a key, if it is there, and its value
abbrev pub entry_with : List Entry → List ℕ → Option Entry
entry_with [] key = None
entry_with (entry ∷ more) key = if is_eq (key_cmp entry.key key) then Some entry else entry_with more key

abbrev pub value_of : List Entry → List ℕ → Option (List ℕ)
value_of [] key = None
value_of (entry ∷ more) key = if is_eq (key_cmp entry.key key) then Some entry.value else value_of more key

-- the first entry from a key on, and the first after it
abbrev pub first_from : List Entry → List ℕ → Option Entry
first_from [] key = None
first_from (entry ∷ more) key = if is_lt (key_cmp entry.key key) then first_from more key else Some entry

abbrev pub first_entry_after : List Entry → List ℕ → Option Entry
first_entry_after [] key = None
first_entry_after (entry ∷ more) key = if is_gt (key_cmp entry.key key) then Some entry else first_entry_after more key

abbrev pub first_entry : List Entry → Option Entry
first_entry [] = None
first_entry (entry ∷ more) = Some entry

-- the entries after a new one came to its place, after a value was replaced, and after one was removed
abbrev pub with_new_entry : List Entry → Entry → List Entry
with_new_entry [] new = new ∷ []
with_new_entry (entry ∷ more) new = if is_lt (key_cmp entry.key new.key) then entry ∷ with_new_entry more new else new ∷ entry ∷ more

abbrev pub with_value : List Entry → Entry → List Entry
with_value [] new = []
with_value (entry ∷ more) new = if is_eq (key_cmp entry.key new.key) then new ∷ more else entry ∷ with_value more new

abbrev pub without_entry : List Entry → List ℕ → List Entry
without_entry [] key = []
without_entry (entry ∷ more) key = if is_eq (key_cmp entry.key key) then more else entry ∷ without_entry more key
