-- The bytes of the map sectors that tell the sector of each page.
use Rattle.std.specs.Prelude.{◌≡◌, ◌<◌, ◌*◌, ◌^◌, ℕ, List, [], length, slice_index_or}
use Rattle.std.specs.List.{All}
use Rattle.pages.specs.Layout.{number_bytes}
use Rattle.pages.specs.Image.{map_part}

-- each map sector spells its part of the sectors of the pages
pub record AreSpelled (sectors : List ℕ) (maps : List (List ℕ)) : Type 0 where
  -- there are 1,024 sectors for each map
  pub count : length sectors ≡ 1024 * length maps
  -- each is a number of four bytes
  pub small : All (λ sector. sector < 2 ^ 32) sectors
  -- the bytes of each map are its part of them, spelled
  pub bytes : (i : ℕ) → i < length maps → slice_index_or maps i [] ≡ number_bytes (map_part sectors i)
