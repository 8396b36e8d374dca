-- A volume without pages, with the second mark.
use Rattle.std.specs.Prelude.{ℕ, ◌*◌, replicate, None}
use Rattle.pages.specs.Layout.{map_count}
use Rattle.pages.specs.Image.{Volume, Map}

-- of so many sectors
abbrev pub empty_volume : ℕ → Volume
empty_volume sectors = record {
  root = record { mark = 1; generation = 0; sectors = sectors; catalog = 0; maps = replicate (map_count sectors) 0 };
  table = replicate (1024 * map_count sectors) 0;
}

abbrev pub empty_map : ℕ → Map
empty_map sectors = record { mark = 1; generation = 0; catalog = 0; pages = replicate (1024 * map_count sectors) None }
