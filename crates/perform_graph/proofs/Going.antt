-- What the walk does at a visit: it places the paragraph, or goes on to one that it performs.
use Rattle.std.proofs.Common.{◌≡◌, ℕ, ◌<◌, ◌+◌, inl, inr, true, List, [], ◌∷◌, ◌++◌, length, get_or, set, None, Some}
use Rattle.std.proofs.Common.{refl, sym, ap, subst, ◌∙◌, arith}
use Rattle.std.specs.Prelude.{Option, slice_get}
use Rattle.std.proofs.lemmas.List.{length-set, length_push}
use Rattle.std.proofs.lemmas.List.Sums.{count_by-le-length}
use Rattle.std.proofs.lemmas.Option.{slice_get_within}
use Rattle.perform_graph.specs.declared.performed.PerformedRange.{PerformedRange}
use Rattle.perform_graph.specs.declared.progress.Progress.{Progress}
use Rattle.perform_graph.specs.declared.progress.Progress.TheVariants.{Unseen, Open, Placed}
use Rattle.perform_graph.specs.declared.visit.Visit.{Visit}
use Rattle.perform_graph.specs.Grouped.{IsGrouped}
use Rattle.perform_graph.specs.Walk.{AllPlaced, Advances, PerformsVisit, IsWalkState, IsLaterWalkState, is_placed}
use Rattle.perform_graph.specs.Walk.{HasNext, is_seen, state, weight}
use Rattle.perform_graph.proofs.Lists.{pushed_cases}
use Rattle.perform_graph.proofs.States.{count_more, less_ahead, seen_kept, seen_here, is_unseen}
use Rattle.perform_graph.proofs.Steps.{last_open, last_within, placed_stands, entered_stands, moved_stands}
use Rattle.perform_graph.proofs.Groups.{begun}

-- the same walk, by equal parts
same_stands : (performed : List PerformedRange) (old new : List Progress) (path later : List Visit) (placed now : ℕ)
    → new ≡ old → later ≡ path → now ≡ placed
    → IsWalkState performed old path placed → IsWalkState performed new later now
same_stands performed old new path later placed now e f g h =
    subst (λ s. IsWalkState performed s later now) (sym e)
    (subst (λ p. IsWalkState performed old p now) (sym f) (subst (IsWalkState performed old path) (sym g) h))

goes_on : (states new : List Progress) (paragraph : ℕ) (now : Progress) → paragraph < length states → is_seen now ≡ true
    → weight now < weight (state states paragraph)
    → new ≡ set states paragraph now → Advances states new
goes_on states new paragraph now within seen less e =
    subst (Advances states) (sym e) (record {
      same = length-set states paragraph now;
      seen = seen_kept states paragraph now within seen;
      less = less_ahead states paragraph now within less;
    })

pub last_room : (performed : List PerformedRange) (states : List Progress) (path : List Visit) (placed : ℕ)
    (visit : Visit) → IsWalkState performed states (path ++ visit ∷ []) placed
    → placed < length states
last_room performed states path placed visit stands =
    let within = last_within performed states path placed visit stands in
    let opened = last_open performed states path placed visit stands in
    let more = count_more states visit.paragraph (length path) 0 within opened in
    let most = count_by-le-length is_placed (set states visit.paragraph (Placed 0)) in
    let size = length-set states visit.paragraph (Placed 0) in
    let count = stands.count in
    omega arith

pub placed_on : (performed : List PerformedRange) (states new : List Progress) (path later : List Visit)
    (placed now : ℕ) (visit : Visit)
    → IsWalkState performed states (path ++ visit ∷ []) placed → AllPlaced performed states visit.paragraph
    → new ≡ set states visit.paragraph (Placed placed) → later ≡ path → now ≡ placed + 1
    → IsLaterWalkState performed states new later now
placed_on performed states new path later placed now visit stands all e f g =
    let opened = ap weight (last_open performed states path placed visit stands) in
    record {
      stands = same_stands performed (set states visit.paragraph (Placed placed)) new path later (placed + 1) now e f g
          (placed_stands performed states path placed visit stands all);
      on = goes_on states new visit.paragraph (Placed placed) (last_within performed states path placed visit stands)
          refl (omega arith) e;
    }

-- A paragraph that wasn't seen comes to the end of the path.
module _ (performed : List PerformedRange) (states new : List Progress) (path later : List Visit) (placed now : ℕ)
    (visit : Visit) (last before : List (Option ℕ))
    (grouped : IsGrouped (length states) performed last before) (stands : IsWalkState performed states path placed)
    (within : visit.paragraph < length states)
    (unseen : state states visit.paragraph ≡ Unseen) (at : visit.at ≡ get_or last visit.paragraph None)
    (next : visit.next ≡ 0)
    (leads : (depth : ℕ) (one : Visit) → depth + 1 ≡ length path → slice_get path depth ≡ Some one
    → PerformsVisit performed one visit)
    (new_is : new ≡ set states visit.paragraph (Open (length path))) (later_is : later ≡ path ++ visit ∷ [])
    (now_is : now ≡ placed) where
  entered_on : IsLaterWalkState performed states new later now
  entered_on =
      let heavy = ap weight unseen in
      record {
        stands = same_stands performed (set states visit.paragraph (Open (length path))) new (path ++ visit ∷ []) later
            placed now new_is later_is now_is
            (entered_stands performed states path placed visit stands unseen within
            (begun (length states) performed states last before visit grouped within at next) leads);
        on = goes_on states new visit.paragraph (Open (length path)) within refl (omega arith) new_is;
      }

-- only the last visit of a path is at its end
only_last_leads : (performed : List PerformedRange) (path middle : List Visit) (next visit : Visit)
    → middle ≡ path ++ next ∷ [] → PerformsVisit performed next visit
    → (depth : ℕ) (one : Visit) → depth + 1 ≡ length middle → slice_get middle depth ≡ Some one
    → PerformsVisit performed one visit
only_last_leads performed path middle next visit e leads depth one end at =
    let size = ap (λ (l : List Visit). length l) e in
    elim (pushed_cases path next one depth (ap (λ (l : List Visit). slice_get l depth) (sym e) ∙ at)) [
      | inl h ↦
          (let below = slice_get_within path depth one h in let pushed = length_push path next in absurd (omega arith))
      | inr h ↦ subst (λ v. PerformsVisit performed v visit) (sym h.1) leads
    ]

-- A visit begins at a paragraph that wasn't seen.
module _ (performed : List PerformedRange) (states new : List Progress) (path later : List Visit) (placed now : ℕ)
    (visit : Visit) (last before : List (Option ℕ)) (paragraph : ℕ)
    (grouped : IsGrouped (length states) performed last before) (stands : IsWalkState performed states path placed)
    (same : visit.paragraph ≡ paragraph) (within : paragraph < length states)
    (unseen : state states paragraph ≡ Unseen) (at : visit.at ≡ get_or last paragraph None) (next : visit.next ≡ 0)
    (leads : (depth : ℕ) (one : Visit) → depth + 1 ≡ length path → slice_get path depth ≡ Some one
    → PerformsVisit performed one visit)
    (new_is : new ≡ set states visit.paragraph (Open (length path))) (later_is : later ≡ path ++ visit ∷ [])
    (now_is : now ≡ placed) where
  visit_begun : IsLaterWalkState performed states new later now
  visit_begun =
      entered_on performed states new path later placed now visit last before grouped stands
      (subst (λ p. p < length states) (sym same) within) (ap (state states) same ∙ unseen)
      (at ∙ ap (λ p. get_or last p None) (sym same)) next leads new_is later_is now_is

-- a walk begins at its root
pub walk_begun : (performed : List PerformedRange) (states new : List Progress) (path later : List Visit)
    (placed now : ℕ) (visit : Visit) (last before : List (Option ℕ)) (root : ℕ)
    → IsGrouped (length states) performed last before → path ≡ [] → IsWalkState performed states [] placed
    → visit.paragraph ≡ root → root < length states → state states root ≡ Unseen → visit.at ≡ get_or last root None
    → visit.next ≡ 0 → new ≡ set states visit.paragraph (Open (length path)) → later ≡ path ++ visit ∷ []
    → now ≡ placed → IsLaterWalkState performed states new later now × (is_seen (state new root) ≡ true)
walk_begun performed states new path later placed now visit last before root grouped empty stands same within unseen at
    next new_is later_is now_is =
    let none = ap (λ (l : List Visit). length l) empty in
    let stands' = subst (λ p. IsWalkState performed states p placed) (sym empty) stands in
    let here = seen_here states new visit.paragraph (Open (length path))
    (subst (λ p. p < length states) (sym same) within) refl new_is in (
      visit_begun performed states new path later placed now visit last before root grouped stands' same within unseen
          at
          next (λ depth one end e. absurd (omega (arith, end, none))) new_is later_is now_is,
      ap (λ p. is_seen (state new p)) (sym same) ∙ here,
    )

-- a walk goes on from its last visit to a paragraph that this one performs
pub walk_further : (performed : List PerformedRange) (states new : List Progress) (path middle later : List Visit)
    (placed now : ℕ) (visit next begun : Visit) (last before : List (Option ℕ))
    → IsGrouped (length states) performed last before → IsWalkState performed states (path ++ visit ∷ []) placed
    → HasNext performed states visit.paragraph next → ((depth : ℕ) → state states next.next ≡ Open depth → ⊥)
    → begun.paragraph ≡ next.next → begun.at ≡ get_or last next.next None → begun.next ≡ 0
    → middle ≡ path ++ next ∷ [] → new ≡ set states begun.paragraph (Open (length middle))
    → later ≡ middle ++ begun ∷ [] → now ≡ placed → IsLaterWalkState performed states new later now
walk_further performed states new path middle later placed now visit next begun last before grouped stands has closed
    same at first middle_is new_is later_is now_is =
    let moved = moved_stands performed states path placed visit next stands has.same has.over in
    visit_begun performed states new middle later placed now begun last before next.next grouped
    (subst (λ p. IsWalkState performed states p placed) (sym middle_is) moved) same has.within
    (is_unseen (state states next.next) has.unplaced closed) at first
    (only_last_leads performed path middle next begun middle_is (record { leads = has.leads; next = sym same })) new_is
    later_is now_is
