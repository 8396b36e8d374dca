-- What is so of each text.
use Rattle.std.specs.Prelude.{◌≡◌, ℕ, List}
use Rattle.std.specs.List.{AllByRecursion}
use Rattle.records.specs.Files.{IsByte}
use Rattle.volume_commands.specs.Text.{bytes_text}

-- no two lists of bytes have one text
abbrev pub TextDeterminesBytes : Type 0
TextDeterminesBytes = (bytes others : List ℕ)
    → AllByRecursion IsByte bytes → AllByRecursion IsByte others → bytes_text bytes ≡ bytes_text others → bytes ≡ others
