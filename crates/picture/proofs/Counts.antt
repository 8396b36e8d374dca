-- Counts of symbols and places are at most those of all symbols.
use Rattle.std.proofs.Common.{◌≡◌, ◌≤◌, ◌<◌, ◌+◌, ◌*◌, ℕ, Bool, true, false, if◌then◌else◌, List, [], ◌∷◌, drop, length}
use Rattle.std.proofs.Common.{slice_index_or, refl, ap, sym, ◌∙◌, add-one, arith, drop-cons}
use Rattle.picture.specs.declared.run.Run.{Run}
use Rattle.picture.specs.declared.class.Class.{Class}
use Rattle.picture.specs.declared.class.Class.TheVariants as c
use Rattle.picture.specs.declared.symbol.Suppression.{Suppression}
use Rattle.picture.specs.declared.symbol.Symbol.{Symbol}
use Rattle.picture.specs.declared.symbol.Symbol.TheVariants as s
use Rattle.picture.specs.Symbols.{class_has, width}
use Rattle.picture.specs.Pictures.{scale_of}
use Rattle.picture.specs.Runs.{from_first, occurrences, size_of, symbol_count}

part : (b : Bool) (n m k : ℕ) → m ≤ k → (if b then n else 0) + m ≤ n + k
part true n m k h = omega arith
part false n m k h = omega arith

pub at_most_all : (class : Class) (runs : List Run) → occurrences class runs ≤ symbol_count runs
unfolding occurrences symbol_count
at_most_all class [] = omega arith
at_most_all class (run ∷ more) = part (class_has class run.symbol) run.count _ _ (at_most_all class more)

pub width_most : (x : Symbol) (n : ℕ) → width x * n ≤ 2 * n
width_most s.S n = omega arith
width_most s.V n = omega arith
width_most s.Cr n = omega arith
width_most s.Db n = omega arith
width_most s.A n = omega arith
width_most s.X n = omega arith
width_most s.Nine n = omega arith
width_most s.B n = omega arith
width_most s.Zero n = omega arith
width_most s.Slash n = omega arith
width_most s.Comma n = omega arith
width_most s.Point n = omega arith
width_most s.Z n = omega arith
width_most s.Star n = omega arith
width_most s.Plus n = omega arith
width_most s.Minus n = omega arith
width_most s.Currency n = omega arith

pub size_at_most : (runs : List Run) → size_of runs ≤ 2 * symbol_count runs
unfolding size_of symbol_count
size_at_most [] = omega arith
size_at_most (run ∷ more) = let w = width_most run.symbol run.count in let m = size_at_most more in omega arith

pub rest_total : (runs : List Run) (i : ℕ) (d : Run) → i < length runs
    → symbol_count (drop i runs) ≡ (slice_index_or runs i d).count + symbol_count (drop (i + 1) runs)
unfolding symbol_count
rest_total runs i d h = rw (add-one, drop-cons runs i d) refl

pub rest_occurrences : (class : Class) (runs : List Run) (i : ℕ) (d : Run) → i < length runs
    → occurrences class (drop i runs) ≡ (if class_has class (slice_index_or runs i d).symbol
    then (slice_index_or runs i d).count else 0) + occurrences class (drop (i + 1) runs)
unfolding occurrences
rest_occurrences class runs i d h = rw (add-one, drop-cons runs i d) refl

pub rest_size : (runs : List Run) (i : ℕ) (d : Run) → i < length runs
    → size_of (drop i runs)
    ≡ width (slice_index_or runs i d).symbol * (slice_index_or runs i d).count + size_of (drop (i + 1) runs)
unfolding size_of
rest_size runs i d h = rw (add-one, drop-cons runs i d) refl

taken : (b : Bool) (n f m all : ℕ) → b ≡ true → f + ((if b then n else 0) + m) ≡ all → f + n ≤ all
taken true n f m all t h = omega arith
taken false n f m all t h = cc

-- one more run of the class is still counted within them all
pub counted_within : (class : Class) (runs : List Run) (i : ℕ) (d : Run) (found : ℕ) → i < length runs
    → found + occurrences class (drop i runs) ≡ occurrences class runs
    → class_has class (slice_index_or runs i d).symbol ≡ true
    → found + (slice_index_or runs i d).count ≤ symbol_count runs
counted_within class runs i d found h e t =
    let most = at_most_all class runs in
    let one = taken (class_has class (slice_index_or runs i d).symbol) (slice_index_or runs i d).count found
    (occurrences class (drop (i + 1) runs)) _ t
    (ap (λ n. found + n) (sym (rest_occurrences class runs i d h)) ∙ e) in
    omega arith

pub sized_within : (runs : List Run) (i : ℕ) (d : Run) (places : ℕ) → i < length runs
    → places + size_of (drop i runs) ≡ size_of runs
    → places + width (slice_index_or runs i d).symbol * (slice_index_or runs i d).count ≤ 2 * symbol_count runs
sized_within runs i d places h e =
    let most = size_at_most runs in let r = rest_size runs i d h in omega arith

pub from_rest : (class other : Class) (runs : List Run)
    → occurrences class (from_first other runs) ≤ occurrences class runs
unfolding from_first occurrences
from_rest class other [] = omega arith
from_rest class other (run ∷ more) = go (class_has other run.symbol) (from_rest class other more)
  where
    go : (b : Bool) → occurrences class (from_first other more) ≤ occurrences class more
        → occurrences class (if b then run ∷ more else from_first other more) ≤ occurrences class (run ∷ more)
    go true h = omega arith
    go false h = omega arith

pub scale_within : (by : Suppression) (runs : List Run) → scale_of by runs ≤ occurrences (c.Digits by) runs
unfolding scale_of
scale_within by runs = from_rest (c.Digits by) c.Points runs
