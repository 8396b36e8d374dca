-- The two roots of a volume (own choice).
use Rattle.std.specs.Prelude.{Bool, ◌&&◌, ◌+◌, ◌==◌, nat_lt, nat_le, Option, Some, None, IfSome, Result, Ok, Err}
use Rattle.std.specs.Prelude.{if◌then◌else◌}
use Rattle.roots.specs.declared.root.Mark.{Mark}
use Rattle.roots.specs.declared.root.Root.{Root}
use Rattle.roots.specs.declared.root.RootSector.{RootSector}
use Rattle.roots.specs.declared.root.RootSector.TheVariants.{Blank, Broken, Valid}
use Rattle.roots.specs.declared.pair.Roots.{Roots}
use Rattle.roots.specs.declared.pair.RootsFault.{RootsFault}
use Rattle.roots.specs.declared.pair.RootsFault.TheVariants.{Damaged, ForeignMark}

-- a mark of the same family, and no earlier one
abbrev pub may_follow : Mark → Mark → Bool
may_follow older newer = (older.family == newer.family) && nat_le older.version newer.version

-- adjacent generations of one volume
abbrev pub pair_of : Root → Root → Option Roots
pair_of older newer =
    if (older.generation + 1 == newer.generation) && (older.sectors == newer.sectors)
    && may_follow older.mark newer.mark
    then Some (record { newest = newer; older = Some older })
    else None

abbrev pub both_of : Root → Root → Option Roots
both_of first second = if nat_lt first.generation second.generation then pair_of first second else pair_of second first

-- a volume has one root beside a blank sector, or two that belong together
abbrev pub roots_of : RootSector → RootSector → Option Roots
roots_of Blank Blank = None
roots_of Blank Broken = None
roots_of Blank (Valid second) = Some (record { newest = second; older = None })
roots_of Broken second = None
roots_of (Valid first) Blank = Some (record { newest = first; older = None })
roots_of (Valid first) Broken = None
roots_of (Valid first) (Valid second) = both_of first second

-- the reader's own family is the first; another family's root is no damage
abbrev pub of_own : Option Roots → Result Roots RootsFault
of_own None = Err Damaged
of_own (Some roots) = if roots.newest.mark.family == 0 then Ok roots else Err ForeignMark

abbrev pub newest_root : RootSector → RootSector → Result Roots RootsFault
newest_root first second = of_own (roots_of first second)

-- both roots are so
pub record EachRoot (so : Root → Type 0) (roots : Roots) : Type 0 where
  pub newest : so roots.newest
  pub older : IfSome roots.older so
