-- Bytes that were put into a page.
use Rattle.std.specs.Prelude.{◌+◌, ◌++◌, ℕ, List, length, take, drop}

-- a page's bytes after these were put there
abbrev pub put_at : ℕ → List ℕ → List ℕ → List ℕ
put_at at part bytes = take at bytes ++ (part ++ drop (at + length part) bytes)
