-- Storage: the bytes of each area.
use Rattle.std.specs.Prelude.{ℕ, ◌+◌, List, [], ◌++◌, take, drop, slice_range, slice_index_or, slice_set}

abbrev pub Storage : Type 0
Storage = List (List ℕ)

-- so many bytes of an area from an offset on
abbrev pub bytes_at : Storage → ℕ → ℕ → ℕ → List ℕ
bytes_at storage area offset size = slice_range (slice_index_or storage area []) offset (offset + size)

-- the storage with other bytes there
abbrev pub with_bytes : Storage → ℕ → ℕ → ℕ → List ℕ → Storage
with_bytes storage area offset size bytes =
    slice_set storage area (take offset (slice_index_or storage area []) ++ bytes ++ drop (offset + size) (slice_index_or storage area []))
