-- Runs of symbols: which symbols a list begins with, and how many symbols and places there are.
use Rattle.std.specs.Prelude.{ℕ, ◌+◌, ◌*◌, Bool, false, ◌&&◌, ◌==◌, List, [], ◌∷◌, if◌then◌else◌}
use Rattle.picture.specs.declared.run.Run.{Run}
use Rattle.picture.specs.declared.class.Class.{Class}
use Rattle.picture.specs.Symbols.{class_has, width}

-- the runs after the symbols of the class, as far as these go
unfoldable pub runs_past : Class → List Run → List Run
runs_past class [] = []
runs_past class (run ∷ more) = if class_has class run.symbol then runs_past class more else run ∷ more

-- the run is one symbol of the class
abbrev pub is_one : Class → Run → Bool
is_one class run = class_has class run.symbol && (run.count == 1)

-- the runs after one symbol of the class, where one comes next
unfoldable pub past_one : Class → List Run → List Run
past_one class [] = []
past_one class (run ∷ more) = if is_one class run then more else run ∷ more

-- the runs from the first of the class on
unfoldable pub from_first : Class → List Run → List Run
from_first class [] = []
from_first class (run ∷ more) = if class_has class run.symbol then run ∷ more else from_first class more

-- how many symbols of the class there are
unfoldable pub occurrences : Class → List Run → ℕ
occurrences class [] = 0
occurrences class (run ∷ more) = (if class_has class run.symbol then run.count else 0) + occurrences class more

-- the last symbol is of the class
unfoldable pub ends_in : Class → List Run → Bool
ends_in class [] = false
ends_in class (run ∷ []) = class_has class run.symbol
ends_in class (run ∷ next ∷ more) = ends_in class (next ∷ more)

-- how many symbols there are
unfoldable pub symbol_count : List Run → ℕ
symbol_count [] = 0
symbol_count (run ∷ more) = run.count + symbol_count more

-- the character places of an item: CR and DB take two, S and V none
unfoldable pub size_of : List Run → ℕ
size_of [] = 0
size_of (run ∷ more) = width run.symbol * run.count + size_of more
