-- Tables of names.
use Rattle.std.specs.Prelude.{◌≡◌, ℕ, ◌<◌, List, map, length, Option, Some, None, bytes_eq, get_or, if◌then◌else◌}
use Rattle.std.specs.Option.{option_copied}
use Rattle.std.specs.Borrow.{Bor}
use Rattle.std.specs.declared.hash.FoldHasher.{FoldHasher}
use Rattle.std.specs.declared.hash.BuildHasherDefault.{BuildHasherDefault}
use Rattle.indexmap.specs.IndexMap.{IndexMap, get_by}
use Rattle.source_tree.specs.declared.name.Name.{Name}
use Rattle.name_table.specs.declared.table.Declared.{Declared}
use Rattle.name_table.specs.declared.table.NameTable.{NameTable}
use Rattle.name_table.specs.Positions.{NamePath, empty_path, has_characters, last_called}

abbrev pub names_of : List (Bor Name) → List Name
names_of = map (λ name. name.now)

abbrev pub name_path : Option (Bor Name) → List (Bor Name) → NamePath
name_path name around = record { name = option_copied name; around = names_of around }

abbrev pub called_of : Declared → NamePath
called_of one = name_path one.name one.around.items

abbrev pub calls_of : List Declared → List NamePath
calls_of = map called_of

-- what is declared in a table
abbrev pub calls_in : NameTable → List NamePath
calls_in table = calls_of table.declared.items

-- the one before it of the same name
abbrev pub former : Option Name → List NamePath → ℕ → Option ℕ
former None calls n = None
former (Some name) calls n = last_called name.characters calls n

abbrev pub Last : Type 0
Last = IndexMap (Bor (List ℕ)) ℕ (BuildHasherDefault FoldHasher)

-- the last one of a name
abbrev pub noted_in : Last → Option Name → Option ℕ
noted_in last None = None
noted_in last (Some name) = get_by (λ k. bytes_eq name.characters k.now) last

-- The number is noted for its name alone.
abbrev pub IsNoted : Last → Last → Option Name → ℕ → Type 0
IsNoted old new name number =
    (characters : List ℕ) → get_by (λ k. bytes_eq characters k.now) new ≡ (if has_characters characters name then Some number else get_by (λ k. bytes_eq characters k.now) old)

-- The last of each name is found, and before each one the one before it.
pub record IsTable (table : NameTable) : Type 0 where
  pub count : length table.before.items ≡ length table.declared.items
  pub last : (characters : List ℕ) → get_by (λ k. bytes_eq characters k.now) table.last ≡ last_called characters (calls_in table) (length (calls_in table))
  pub before : (n : ℕ) → n < length (calls_in table) → get_or table.before.items n None ≡ former (get_or (calls_in table) n empty_path).name (calls_in table) n
