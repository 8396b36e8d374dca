-- Ranks that decrease rule out paragraphs that perform one another: there would be ever lower ones.
use Rattle.std.proofs.Common.{◌≡◌, ℕ, zero, suc, ◌<◌, Bool, true, List, ap, subst, arith}
use Rattle.std.proofs.lemmas.Option.{slice_get_within, get_or_from_slice_get}
use Rattle.perform_graph.specs.declared.performed.PerformedRange.{PerformedRange}
use Rattle.perform_graph.specs.Order.{AllDecrease, Decreases, PerformOneAnother, PerformsOneOf}

module _ (performed : List PerformedRange) (height : ℕ → ℕ) (among : ℕ → Bool) (falls : AllDecrease height performed)
    (each : (paragraph : ℕ) → among paragraph ≡ true → PerformsOneOf among performed paragraph) where
  none_below : (bound paragraph : ℕ) → among paragraph ≡ true → height paragraph < bound → ⊥
  none_below zero paragraph marked below = omega arith
  none_below (suc bound) paragraph marked below =
      let to = each paragraph marked in
      let at = slice_get_within performed to.at to.one to.stands in
      let fall = subst (Decreases height) (get_or_from_slice_get performed to.at to.one to.one to.stands)
      (falls to.at to.one at) in
      let lower = fall to.other to.within in
      let same = ap height to.performer in
      none_below bound to.other to.marked (omega arith)

pub none_leads_back : (performed : List PerformedRange) (height : ℕ → ℕ) (among : ℕ → Bool)
    → AllDecrease height performed → PerformOneAnother among performed → ⊥
none_leads_back performed height among falls ring =
    none_below performed height among falls ring.each (suc (height ring.some)) ring.some ring.marked (omega arith)
