-- Bytes laid over others.
use Rattle.std.specs.Prelude.{ℕ, Option, Some, None}
use Rattle.source_tree.specs.Initializing.{or_old}

-- after the pattern's end a byte stays
abbrev pub byte_over : Option (Option ℕ) → ℕ → ℕ
byte_over None old = old
byte_over (Some new) old = or_old new old
