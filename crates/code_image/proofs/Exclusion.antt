-- Ranks that decrease, and paragraphs that perform one another, exclude each other.
use Rattle.std.proofs.Common.{◌≡◌, ◌<◌, ◌+◌, ℕ, zero, suc, Bool, true, All, ◌↔◌, List, length, subst, ap, arith}
use Rattle.std.proofs.lemmas.Option.{slice_get_within, get_or_from_slice_get}
use Rattle.perform_graph.specs.declared.performed.PerformedRange.{PerformedRange}
use Rattle.perform_graph.specs.declared.order.Order.{Order}
use Rattle.perform_graph.specs.declared.order.Order.TheVariants.{Ranks, Recursive}
use Rattle.perform_graph.specs.Order.{IsRange, AllDecrease, Decreases, PerformsOneOf, PerformOneAnother, IsOrder}
use Rattle.perform_graph.specs.Order.{rank_in, marks}
use Rattle.code_image.specs.declared.code.Code.{Code}
use Rattle.code_image.specs.Demands.{performed_by_code, HasOrder}
use Rattle.code_image.specs.Paragraphs.{HasRanks}

-- One of them would be lower than each of them.
descends : (performed : List PerformedRange) (height : ℕ → ℕ) (among : ℕ → Bool) → AllDecrease height performed
    → ((paragraph : ℕ) → among paragraph ≡ true → PerformsOneOf among performed paragraph) → (bound paragraph : ℕ)
    → height paragraph < bound
    → among paragraph ≡ true → ⊥
descends performed height among fall each zero paragraph low marked = absurd (omega (arith, low))
descends performed height among fall each (suc bound) paragraph low marked =
    let some = each paragraph marked in
    let within = slice_get_within performed some.at some.one some.stands in
    let falls = subst (Decreases height) (get_or_from_slice_get performed some.at some.one some.one some.stands)
    (fall some.at some.one within) in
    let lower = falls some.other some.within in
    descends performed height among fall each bound some.other (omega (arith, low, lower, ap height some.performer))
    some.marked

pub excluded : (performed : List PerformedRange) (height : ℕ → ℕ) (among : ℕ → Bool) → AllDecrease height performed
    → PerformOneAnother among performed
    → ⊥
excluded performed height among fall back =
    descends performed height among fall back.each (height back.some + 1) back.some (omega arith) back.marked

-- Ranks were found exactly where code has an order.
pub order_is : (code : Code) (found : Order) → All (IsRange (length code.starts)) (performed_by_code code.instructions)
    → IsOrder (length code.starts) (performed_by_code code.instructions) found
    → HasRanks found ↔ HasOrder code
order_is code (Ranks all) ranges order = (λ has. record { ranges = ranges; heights = all; fall = order }, λ has. tt)
order_is code (Recursive all) ranges order = (
  λ has. absurd has,
  λ has. excluded (performed_by_code code.instructions) (rank_in has.heights) (marks all) has.fall.fall order,
)
