use Rattle.std.proofs.Common.{◌≡◌, ℕ, List, length, ap, ◌∙◌}
use Rattle.std.specs.Prelude.{take}
use Rattle.std.specs.Cmp.Lexicographic.{slice_cmp}
use Rattle.std.specs.Ordering.{is_eq, nat_cmp}
use Rattle.std.proofs.lemmas.List.{take_min}
use Rattle.alternate_keys.proofs.found_rows.has_front.Goals as goal

pub returns : goal.returns
returns c =
    let value = c.args.value.now in
    let key : List ℕ = c.args.key.now in
    let cut : take c.min-count.result key ≡ take (length value) key =
    ap (λ n. take n key) c.min-count.ensures ∙ take_min (length value) key in
    c.is_eq.ensures ∙ ap is_eq c.cmp.ensures ∙ ap (λ k. is_eq (slice_cmp nat_cmp k value)) cut
