-- Sectors that are marked as used.
use Rattle.std.specs.Prelude.{ℕ, Bool, List, length, Contains}
use Rattle.pages.specs.Image.{IsPlace, NamesOnce}
use Rattle.pages.specs.Use.{IsUse}

-- the names are sectors after the roots, each named once
pub record AreNames (sectors : ℕ) (list : List ℕ) : Type 0 where
  pub places : (s : ℕ) → Contains list s → IsPlace sectors s
  pub once : NamesOnce list

-- they are, and they are marked
pub record IsMarked (list : List ℕ) (used : List Bool) : Type 0 where
  pub names : AreNames (length used) list
  pub in_use : IsUse (length used) list used
