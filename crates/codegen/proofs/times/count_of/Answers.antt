use Rattle.std.proofs.Common.{◌≡◌, ℕ, ◌+◌, ◌-◌, ◌*◌, ◌≤◌, List, [], ◌∷◌, ◌++◌, length, take, get_or, sym, ap, subst}
use Rattle.std.proofs.Common.{◌∙◌}
use Rattle.std.specs.Prelude.{min}
use Rattle.std.proofs.lemmas.List.{take_all, take_more}
use Rattle.source_tree.specs.Performing.{most_turns, turns_of}
use Rattle.source_tree.proofs.Counts.{of_digits, turns_more}
use Rattle.codegen.proofs.times.count_of.Goals as goal

pub loop-digit-preserved : goal.loop-digit-preserved
loop-digit-preserved c =
    let i = c.loop-digit.digit-index in
    let digits = c.args.integer.now.digits in
    let items = c.as_slice-digit-items.result.now in
    let digit = get_or items i 0 in
    let taken : take (i + 1) digits ≡ take i digits ++ digit ∷ [] =
    ap (take (i + 1)) (sym c.as_slice-digit-items.ensures) ∙ take_more items i 0 c.loop-digit-test.true
    ∙ ap (λ (l : List ℕ). take i l ++ digit ∷ []) c.as_slice-digit-items.ensures in
    let value : c.saturating_add-count.result
    ≡ min (min (c.loop-digit.count * 10) most_turns + (digit - 48)) most_turns = cc in
    value
    ∙ ap (λ n. min (min (n * 10) most_turns + (digit - 48)) most_turns) c.loop-digit.invariant
    ∙ turns_more c.args.integer.now.place (take i digits) digit
    ∙ ap (λ (l : List ℕ). turns_of (of_digits c.args.integer.now.place l)) (sym taken)

pub returns : goal.returns
returns c =
    let i = c.loop-digit.digit-index in
    let place = c.args.integer.now.place in
    let digits = c.args.integer.now.digits in
    let all : length digits ≤ i =
    subst (λ (l : List ℕ). length l ≤ i) c.as_slice-digit-items.ensures c.loop-digit-test.false in
    c.loop-digit.invariant ∙ ap (λ (l : List ℕ). turns_of (of_digits place l)) (take_all i digits all)
