use Rattle.std.proofs.Common.{◌≤◌, ℕ, List, length, sym, subst}
use Rattle.std.proofs.lemmas.List.{length-take-le}
use Rattle.volume_format.proofs.catalog.listing_part.Goals as goal

pub slice_bounds-result-end : goal.slice_bounds-result-end
slice_bounds-result-end c = sym (length-take-le 83 c.value.result.now
    (subst (λ (l : List ℕ). 83 ≤ length l) (sym c.value.ensures) c.requires))

pub returns-clause-long : goal.returns-clause-long
returns-clause-long c =
    length-take-le 83 c.value.result.now (subst (λ (l : List ℕ). 83 ≤ length l) (sym c.value.ensures) c.requires)
