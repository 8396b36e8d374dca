-- An entry with its whole record.
use Rattle.std.specs.Prelude.{ℕ, Option, Some, None}
use Rattle.std.specs.declared.vec.Vec.{Vec}
use Rattle.btree.specs.Entries.{Entry}

-- an entry, with another value if there is one
abbrev pub with_long_value : {A : Type 0} → Entry → Option (Vec ℕ A) → Entry
with_long_value entry None = entry
with_long_value entry (Some value) = record { key = entry.key; value = value.items }
