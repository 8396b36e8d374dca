use Rattle.std.proofs.Common.{◌≡◌, All, ap, length, subst, ◌∙◌, arith}
use Rattle.std.proofs.lemmas.Grind.{common_steps}
use Rattle.perform_graph.specs.Order.{IsRange, IsOrder}
use Rattle.code_image.specs.Demands.{performed_by_code}
use Rattle.code_image.proofs.Exclusion.{order_is}
use Rattle.code_image.proofs.paragraph.has_order.Goals as goal

pub returns : goal.returns
returns c =
    let code = c.args.code.now in
    let found = c.in_ok-order.order in
    let n = length c.as_slice-count.result.now in
    let all = performed_by_code code.instructions in
    let count : n ≡ length code.starts = ap length c.as_slice-count.ensures in
    let items = c.in_ok-ranges.ensures ∙ ap performed_by_code c.as_slice.ensures in
    let first : c.deref.result.now ≡ all = c.deref.ensures.value ∙ items in
    let second : c.deref-2.result.now ≡ all = c.deref-2.ensures.value ∙ items in
    let ranges = subst (All (IsRange n)) first (c.are_ranges.ensures.0 c.if-not-are_ranges.false) in
    let order = subst (λ given. IsOrder n given found) second c.in_ok-order.ensures in
    let same = order_is code found (subst (λ m. All (IsRange m) all) count ranges)
    (subst (λ m. IsOrder m all found) count order) in
    (λ e. same.0 (c.has_ranks.ensures.0 e), λ has. c.has_ranks.ensures.1 (same.1 has))

pub returns-then-not-are_ranges : goal.returns-then-not-are_ranges
returns-then-not-are_ranges c = grind (arith, common_steps)
