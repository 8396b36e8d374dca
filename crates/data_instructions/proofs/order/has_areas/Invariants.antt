use Rattle.std.proofs.Common.{◌≡◌, ℕ, ◌<◌, ◌^◌, List, length, Some}
use Rattle.std.specs.Prelude.{slice_get}
use Rattle.data_instructions.proofs.order.has_areas.Given as goal

abbrev pub invariant-loop-area : goal.invariant-loop-area
invariant-loop-area l =
    (k : ℕ) (area : List ℕ) → k < l.area-index → slice_get l.areas k ≡ Some area → length area < 2 ^ 32
