-- Console lines that were taken into room for a beginning of them.
use Rattle.std.proofs.Common.{◌≡◌, ℕ, List, [], ◌∷◌, length, take, drop, min, Option, ◌∙◌, ap, arith, length-take}
use Rattle.std.specs.Prelude.{slice_get, slice_index_or, option_map, unwrap_or}
use Rattle.station.specs.State.{overlaid}
use Rattle.source_tree.specs.Accepting.{next_line}
use Rattle.data_machine.proofs.AreaBytes.{seam}

no_front : (n : ℕ) → take n [] ≡ (let none : List ℕ = [] in none)
no_front n = grind arith

-- what was taken is the front of the next line, as much as there is room for
pub front_taken : (before after : List ℕ) (lines : List (List ℕ)) (taken : Option ℕ) (count : ℕ)
    → taken ≡ option_map (λ line. min (length line) (length before)) (slice_get lines 0)
    → after ≡ overlaid before (slice_index_or lines 0 []) → count ≡ unwrap_or taken 0
    → take count after ≡ take (length before) (next_line lines)
front_taken before after [] taken count many bytes is =
    ap (λ n. take n after) (is ∙ ap (λ o. unwrap_or o 0) many) ∙ nothing (length before)
  where
    nothing : (n : ℕ) → (let none : List ℕ = [] in none) ≡ take n []
    nothing n = grind arith
front_taken before after (line ∷ more) taken count many bytes is =
    let n : count ≡ min (length line) (length before) = is ∙ ap (λ o. unwrap_or o 0) many in
    ap (take count) bytes ∙ seam count (take (length before) line) (drop (length line) before)
    (omega (arith, n, length-take (length before) line))
