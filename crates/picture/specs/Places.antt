-- The places of an item, one for each character that is shown, and the region in which leading zeros are suppressed
-- (COBOL-85, Nucleus, the PICTURE clause, editing rules).
use Rattle.std.specs.Prelude.{ℕ, zero, suc, ◌-◌, ◌&&◌, List, [], ◌∷◌, ◌++◌, Option, Some, None, slice_set, if◌then◌else◌}
use Rattle.picture.specs.declared.run.Run.{Run}
use Rattle.picture.specs.declared.place.Place.{Place}
use Rattle.picture.specs.declared.place.Place.TheVariants as p
use Rattle.picture.specs.declared.place.Region.{Region}
use Rattle.picture.specs.declared.class.Class.TheVariants as c
use Rattle.picture.specs.declared.symbol.Symbol.{Symbol}
use Rattle.picture.specs.declared.symbol.Symbol.TheVariants as s
use Rattle.picture.specs.declared.symbol.Suppression.{Suppression}
use Rattle.picture.specs.declared.symbol.Suppression.TheVariants as z
use Rattle.picture.specs.Symbols.{is_by, is_floating}
use Rattle.picture.specs.Runs.{from_first, size_of}

-- Simple, special and fixed insertion, and digits. In a picture of digits stands no A or X.
abbrev pub fixed_place : Symbol → Place
fixed_place s.B = p.Insertion 32
fixed_place s.Zero = p.Insertion 48
fixed_place s.Slash = p.Insertion 47
fixed_place s.Comma = p.Insertion 44
fixed_place s.Point = p.Point
fixed_place s.Z = p.Suppressed
fixed_place s.Star = p.Suppressed
fixed_place s.Plus = p.Plus
fixed_place s.Minus = p.Minus
fixed_place s.Currency = p.Currency
fixed_place _ = p.Digit

abbrev pub place_of : Suppression → Symbol → Place
place_of by symbol = if is_floating by && is_by by symbol then p.Floating else fixed_place symbol

-- the places of a symbol: of CR and DB two, of S and V none
abbrev pub symbol_places : Suppression → Symbol → List Place
symbol_places by s.S = []
symbol_places by s.V = []
symbol_places by s.Cr = p.Negative 67 ∷ p.Negative 82 ∷ []
symbol_places by s.Db = p.Negative 68 ∷ p.Negative 66 ∷ []
symbol_places by symbol = place_of by symbol ∷ []

unfoldable pub repeated_places : ℕ → List Place → List Place
repeated_places zero places = []
repeated_places (suc n) places = places ++ repeated_places n places

unfoldable pub each_place : Suppression → List Run → List Place
each_place by [] = []
each_place by (run ∷ more) = repeated_places run.count (symbol_places by run.symbol) ++ each_place by more

-- From the first suppressed or floating place up to before the first 9 or point; without suppression there is none.
unfoldable pub region_from : Suppression → List Run → Region
region_from by runs = record {
  by = by;
  begin = size_of runs - size_of (from_first (c.Suppressed by) runs);
  end = size_of runs - size_of (from_first c.NinesAndPoints runs);
}

abbrev pub region_of : Suppression → List Run → Option Region
region_of z.Nothing runs = None
region_of by runs = Some (region_from by runs)

-- A floating region begins at the first floating place, which is no digit place.
abbrev pub places_with_floating : Option Region → List Place → List Place
places_with_floating None places = places
places_with_floating (Some region) places = if is_floating region.by then slice_set places region.begin p.FirstFloating else places

abbrev pub places_of : Suppression → List Run → List Place
places_of by runs = places_with_floating (region_of by runs) (each_place by runs)
