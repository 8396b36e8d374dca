-- The places of runs, one turn of the loops that make them at a time.
use Rattle.std.proofs.Common.{◌≡◌, ◌<◌, ◌+◌, ◌*◌, ℕ, zero, suc, Bool, true, false, if◌then◌else◌, List, [], ◌∷◌, ◌++◌}
use Rattle.std.proofs.Common.{drop, length, set, slice_index_or, Option, Some, None, refl, sym, ap, ◌∙◌, append_assoc}
use Rattle.std.proofs.Common.{add-one, arith, drop-cons, length-append}
use Rattle.std.proofs.lemmas.List.{append-nil, length-set}
use Rattle.picture.specs.declared.run.Run.{Run}
use Rattle.picture.specs.declared.place.Place.{Place}
use Rattle.picture.specs.declared.place.Place.TheVariants as p
use Rattle.picture.specs.declared.place.Region.{Region}
use Rattle.picture.specs.declared.symbol.Symbol.{Symbol}
use Rattle.picture.specs.declared.symbol.Symbol.TheVariants as s
use Rattle.picture.specs.declared.symbol.Suppression.{Suppression}
use Rattle.picture.specs.Symbols.{width, is_floating}
use Rattle.picture.specs.Runs.{size_of}
use Rattle.picture.specs.Places.{symbol_places, repeated_places, each_place, region_of, places_with_floating, places_of}

-- ---- as many places as the size tells

length-shown : (by : Suppression) (x : Symbol) → length (symbol_places by x) ≡ width x
length-shown by s.A = refl
length-shown by s.X = refl
length-shown by s.Nine = refl
length-shown by s.S = refl
length-shown by s.V = refl
length-shown by s.B = refl
length-shown by s.Zero = refl
length-shown by s.Slash = refl
length-shown by s.Comma = refl
length-shown by s.Point = refl
length-shown by s.Z = refl
length-shown by s.Star = refl
length-shown by s.Plus = refl
length-shown by s.Minus = refl
length-shown by s.Currency = refl
length-shown by s.Cr = refl
length-shown by s.Db = refl

length-repeated : (n : ℕ) (places : List Place) → length (repeated_places n places) ≡ length places * n
unfolding repeated_places
length-repeated zero places = omega arith
length-repeated (suc n) places =
    let h = length-repeated n places in let l = length-append places (repeated_places n places) in grind (arith)

pub length-each : (by : Suppression) (runs : List Run) → length (each_place by runs) ≡ size_of runs
unfolding each_place size_of
length-each by [] = refl
length-each by (run ∷ more) =
    let l = length-append (repeated_places run.count (symbol_places by run.symbol)) (each_place by more) in
    let r =
    length-repeated run.count (symbol_places by run.symbol) ∙ ap (λ n. n * run.count) (length-shown by run.symbol) in
    let h = length-each by more in omega arith

length-marked : (region : Option Region) (places : List Place)
    → length (places_with_floating region places) ≡ length places
length-marked None places = refl
length-marked (Some region) places = go (is_floating region.by)
  where
    go : (b : Bool) → length (if b then set places region.begin p.FirstFloating else places) ≡ length places
    go true = length-set places region.begin p.FirstFloating
    go false = refl

pub length-places : (by : Suppression) (runs : List Run) → length (places_of by runs) ≡ size_of runs
length-places by runs = length-marked (region_of by runs) (each_place by runs) ∙ length-each by runs

-- ---- loops

pub repeated_next : (n : ℕ) (places : List Place) → repeated_places (n + 1) places ≡ repeated_places n places ++ places
unfolding repeated_places
repeated_next n places = rw add-one (go n)
  where
    go : (n : ℕ) → repeated_places (suc n) places ≡ repeated_places n places ++ places
    go zero = append-nil places
    go (suc n) = ap (λ l. places ++ l) (go n) ∙ sym (append_assoc places (repeated_places n places) places)

pub repeated_none : (places : List Place) → repeated_places 0 places ≡ []
unfolding repeated_places
repeated_none places = refl

pub rest_places : (by : Suppression) (runs : List Run) (i : ℕ) (d : Run) → i < length runs
    → each_place by (drop i runs) ≡ repeated_places (slice_index_or runs i d).count
    (symbol_places by (slice_index_or runs i d).symbol) ++ each_place by (drop (i + 1) runs)
unfolding each_place
rest_places by runs i d h = rw (add-one, drop-cons runs i d) refl

pub no_places : (by : Suppression) → each_place by [] ≡ []
unfolding each_place
no_places by = refl
