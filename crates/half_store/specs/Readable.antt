-- Files that can be read again.
use Rattle.std.specs.Prelude.{◌<◌, ◌^◌}
use Rattle.records.specs.Files.{NamedFile, IsNamed}

-- a file whose arrivals have eight bytes
pub record IsReadable (one : NamedFile) : Type 0 where
  pub named : IsNamed one
  pub early : one.file.next_arrival < 2 ^ 64
