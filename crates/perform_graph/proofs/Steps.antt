-- The steps of the walk keep how it stands.
use Rattle.std.proofs.Common.{◌≡◌, ℕ, ◌<◌, ◌+◌, inl, inr, false, List, [], ◌∷◌, ◌++◌, length, get_or, set, drop, Some}
use Rattle.std.proofs.Common.{refl, sym, ap, subst, ◌∙◌, arith}
use Rattle.std.specs.Prelude.{slice_get}
use Rattle.std.proofs.lemmas.List.{get_or-set_same, get_or-set_other, length-drop, length_push}
use Rattle.std.proofs.lemmas.Option.{slice_get_within, slice_get-get_or}
use Rattle.perform_graph.specs.declared.performed.PerformedRange.{PerformedRange}
use Rattle.perform_graph.specs.declared.progress.Progress.{Progress}
use Rattle.perform_graph.specs.declared.progress.Progress.TheVariants.{Unseen, Open, Placed}
use Rattle.perform_graph.specs.declared.visit.Visit.{Visit}
use Rattle.perform_graph.specs.Order.{IsIn}
use Rattle.perform_graph.specs.Walk.{AllPlaced, HasGoneOver, IsBelow, IsOpen, IsCycle, IsVisited, PerformsNext}
use Rattle.perform_graph.specs.Walk.{LeadsIntoCycle, PerformsVisit, IsWalkState, is_placed, state}
use Rattle.perform_graph.proofs.Lists.{pushed_here, pushed_left, pushed_cases, dropped_at}
use Rattle.perform_graph.proofs.States.{open_within, has_height, placed_is, open_is, changed_cases, keeps_height}
use Rattle.perform_graph.proofs.States.{keeps_placed, below_kept, over_kept, count_more, count_same}

-- the paragraph of the last visit is placed
module _ (performed : List PerformedRange) (states : List Progress) (path : List Visit) (placed : ℕ) (visit : Visit)
    (stands : IsWalkState performed states (path ++ visit ∷ []) placed) where
  pub last_open : state states visit.paragraph ≡ Open (length path)
  last_open = (stands.on_path (length path) visit (pushed_here path visit)).is_open

  pub last_within : visit.paragraph < length states
  last_within = open_within states visit.paragraph (length path) last_open

  pub last_unplaced : is_placed (state states visit.paragraph) ≡ false
  last_unplaced = ap is_placed last_open

  not_last : (depth : ℕ) (one : Visit) → slice_get path depth ≡ Some one → one.paragraph ≡ visit.paragraph → ⊥
  not_last depth one e same =
      let below = slice_get_within path depth one e in
      let at = open_is depth (length path) (sym (stands.on_path depth one (pushed_left path visit one depth e)).is_open
      ∙ ap (state states) same ∙ last_open) in
      omega arith

  module _ (all : AllPlaced performed states visit.paragraph) where
    placed_falls : (paragraph height : ℕ) → state (set states visit.paragraph (Placed placed)) paragraph ≡ Placed height
        → (number : ℕ) (one : PerformedRange) → slice_get performed number ≡ Some one → one.performer ≡ paragraph
        → (other : ℕ) → IsIn one other
        → IsBelow (set states visit.paragraph (Placed placed)) height other
    placed_falls paragraph height e number one at performer other within =
        elim (changed_cases states visit.paragraph (Placed placed) paragraph (Placed height) last_within e) [
          | inl here ↦ (
              let has = has_height (state states other) (all number one at (performer ∙ here.0) other within) in
              let low = stands.low other has.0 has.1 in
              let top = placed_is placed height here.1 in
              record {
                height = has.0;
                placed = keeps_height states visit.paragraph (Placed placed) last_unplaced other has.0 has.1;
                lower = omega arith;
              })
          | inr there ↦ below_kept states visit.paragraph (Placed placed) height other last_unplaced
              (stands.falls paragraph height there.1 number one at performer other within)
        ]

    placed_visited : (paragraph depth : ℕ) → state (set states visit.paragraph (Placed placed)) paragraph ≡ Open depth
        → IsVisited path depth paragraph
    placed_visited paragraph depth e =
        elim (changed_cases states visit.paragraph (Placed placed) paragraph (Open depth) last_within e) [
          | inl here ↦ (let wrong = here.1 in let no : ⊥ = cc in absurd no)
          | inr there ↦ (
              let was = stands.visited paragraph depth there.1 in
              elim (pushed_cases path visit was.visit depth was.stands) [
                | inl h ↦ record { visit = was.visit; stands = h; same = was.same }
                | inr h ↦ absurd (there.0 (sym was.same ∙ ap (λ (v : Visit). v.paragraph) h.1))
              ])
        ]

    placed_on_path : (depth : ℕ) (one : Visit) → slice_get path depth ≡ Some one
        → IsOpen performed (set states visit.paragraph (Placed placed)) depth one
    placed_on_path depth one e =
        let was = stands.on_path depth one (pushed_left path visit one depth e) in
        record {
          is_open = get_or-set_other states visit.paragraph one.paragraph (Placed placed) Unseen (not_last depth one e)
              ∙ was.is_open;
          over = over_kept performed states (set states visit.paragraph (Placed placed)) one
              (keeps_placed states visit.paragraph (Placed placed) last_unplaced) was.over;
        }

    placed_low : (paragraph height : ℕ) → state (set states visit.paragraph (Placed placed)) paragraph ≡ Placed height
        → height < placed + 1
    placed_low paragraph height e =
        elim (changed_cases states visit.paragraph (Placed placed) paragraph (Placed height) last_within e) [
          | inl here ↦ (let same = placed_is placed height here.1 in omega arith)
          | inr there ↦ (let low = stands.low paragraph height there.1 in omega arith)
        ]

    pub placed_stands : IsWalkState performed (set states visit.paragraph (Placed placed)) path (placed + 1)
    placed_stands = record {
      count = ap (λ n. n + 1) stands.count
          ∙ sym (count_more states visit.paragraph (length path) placed last_within last_open);
      low = placed_low;
      falls = placed_falls;
      visited = placed_visited;
      on_path = placed_on_path;
      links = λ depth one later e f. stands.links depth one later (pushed_left path visit one depth e)
          (pushed_left path visit later (depth + 1) f);
    }

-- the last visit moves on
module _ (performed : List PerformedRange) (states : List Progress) (path : List Visit) (placed : ℕ)
    (visit next : Visit)
    (stands : IsWalkState performed states (path ++ visit ∷ []) placed) (same : next.paragraph ≡ visit.paragraph)
    (over : HasGoneOver performed states next) where
  moved_visited : (paragraph depth : ℕ) → state states paragraph ≡ Open depth
      → IsVisited (path ++ next ∷ []) depth paragraph
  moved_visited paragraph depth e =
      let was = stands.visited paragraph depth e in
      elim (pushed_cases path visit was.visit depth was.stands) [
        | inl h ↦ record { visit = was.visit; stands = pushed_left path next was.visit depth h; same = was.same }
        | inr h ↦ record {
          visit = next;
          stands = ap (slice_get (path ++ next ∷ [])) h.0 ∙ pushed_here path next;
          same = same ∙ ap (λ (v : Visit). v.paragraph) (sym h.1) ∙ was.same;
        }
      ]

  moved_on_path : (depth : ℕ) (one : Visit) → slice_get (path ++ next ∷ []) depth ≡ Some one
      → IsOpen performed states depth one
  moved_on_path depth one e =
      elim (pushed_cases path next one depth e) [
        | inl h ↦ stands.on_path depth one (pushed_left path visit one depth h)
        | inr h ↦ record {
          is_open = ap (λ (v : Visit). state states v.paragraph) h.1 ∙ ap (state states) same
              ∙ last_open performed states path placed visit stands ∙ ap Open (sym h.0);
          over = subst (HasGoneOver performed states) (sym h.1) over;
        }
      ]

  moved_links : (depth : ℕ) (one later : Visit) → slice_get (path ++ next ∷ []) depth ≡ Some one
      → slice_get (path ++ next ∷ []) (depth + 1) ≡ Some later → PerformsVisit performed one later
  moved_links depth one later e f =
      let below = slice_get_within (path ++ next ∷ []) (depth + 1) later f in
      let size = length_push path next in
      elim (pushed_cases path next one depth e) [
        | inl h ↦ elim (pushed_cases path next later (depth + 1) f) [
          | inl k ↦ stands.links depth one later (pushed_left path visit one depth h)
              (pushed_left path visit later (depth + 1) k)
          | inr k ↦ (
              let was = stands.links depth one visit (pushed_left path visit one depth h)
              (ap (slice_get (path ++ visit ∷ [])) k.0 ∙ pushed_here path visit) in
              record { leads = was.leads; next = was.next ∙ sym same ∙ ap (λ (v : Visit). v.paragraph) (sym k.1) })
        ]
        | inr h ↦ absurd (omega (arith, h.0))
      ]

  pub moved_stands : IsWalkState performed states (path ++ next ∷ []) placed
  moved_stands = record {
    count = stands.count;
    low = stands.low;
    falls = stands.falls;
    visited = moved_visited;
    on_path = moved_on_path;
    links = moved_links;
  }

-- one more visit, of a paragraph that wasn't seen
module _ (performed : List PerformedRange) (states : List Progress) (path : List Visit) (placed : ℕ) (visit : Visit)
    (stands : IsWalkState performed states path placed) (unseen : state states visit.paragraph ≡ Unseen)
    (within : visit.paragraph < length states)
    (over : HasGoneOver performed states visit)
    (leads : (depth : ℕ) (one : Visit) → depth + 1 ≡ length path → slice_get path depth ≡ Some one
    → PerformsVisit performed one visit) where
  unplaced : is_placed (state states visit.paragraph) ≡ false
  unplaced = ap is_placed unseen

  entered_low : (paragraph height : ℕ)
      → state (set states visit.paragraph (Open (length path))) paragraph ≡ Placed height → height < placed
  entered_low paragraph height e =
      elim (changed_cases states visit.paragraph (Open (length path)) paragraph (Placed height) within e) [
        | inl here ↦ (let wrong = here.1 in let no : ⊥ = cc in absurd no)
        | inr there ↦ stands.low paragraph height there.1
      ]

  entered_falls : (paragraph height : ℕ)
      → state (set states visit.paragraph (Open (length path))) paragraph ≡ Placed height
      → (number : ℕ) (one : PerformedRange) → slice_get performed number ≡ Some one → one.performer ≡ paragraph
      → (other : ℕ) → IsIn one other
      → IsBelow (set states visit.paragraph (Open (length path))) height other
  entered_falls paragraph height e number one at performer other inside =
      elim (changed_cases states visit.paragraph (Open (length path)) paragraph (Placed height) within e) [
        | inl here ↦ (let wrong = here.1 in let no : ⊥ = cc in absurd no)
        | inr there ↦ below_kept states visit.paragraph (Open (length path)) height other unplaced
            (stands.falls paragraph height there.1 number one at performer other inside)
      ]

  entered_visited : (paragraph depth : ℕ) → state (set states visit.paragraph (Open (length path))) paragraph ≡ Open
      depth → IsVisited (path ++ visit ∷ []) depth paragraph
  entered_visited paragraph depth e =
      elim (changed_cases states visit.paragraph (Open (length path)) paragraph (Open depth) within e) [
        | inl here ↦ record {
          visit = visit;
          stands =
              ap (slice_get (path ++ visit ∷ [])) (sym (open_is (length path) depth here.1)) ∙ pushed_here path visit;
          same = sym here.0;
        }
        | inr there ↦ (
            let was = stands.visited paragraph depth there.1 in
            record { visit = was.visit; stands = pushed_left path visit was.visit depth was.stands; same = was.same })
      ]

  still_open : (depth : ℕ) (one : Visit) → slice_get path depth ≡ Some one
      → IsOpen performed (set states visit.paragraph (Open (length path))) depth one
  still_open depth one e =
      let was = stands.on_path depth one e in
      let differs : one.paragraph ≡ visit.paragraph → ⊥ =
      λ same. (let wrong = sym was.is_open ∙ ap (state states) same ∙ unseen in let no : ⊥ = cc in no) in
      record {
        is_open =
            get_or-set_other states visit.paragraph one.paragraph (Open (length path)) Unseen differs ∙ was.is_open;
        over = over_kept performed states (set states visit.paragraph (Open (length path))) one
            (keeps_placed states visit.paragraph (Open (length path)) unplaced) was.over;
      }

  entered_on_path : (depth : ℕ) (one : Visit) → slice_get (path ++ visit ∷ []) depth ≡ Some one
      → IsOpen performed (set states visit.paragraph (Open (length path))) depth one
  entered_on_path depth one e =
      elim (pushed_cases path visit one depth e) [
        | inl h ↦ still_open depth one h
        | inr h ↦ record {
          is_open = ap (λ (v : Visit). state (set states visit.paragraph (Open (length path))) v.paragraph) h.1
              ∙ get_or-set_same states visit.paragraph (Open (length path)) Unseen within ∙ ap Open (sym h.0);
          over = over_kept performed states (set states visit.paragraph (Open (length path))) one
              (keeps_placed states visit.paragraph (Open (length path)) unplaced)
              (subst (HasGoneOver performed states) (sym h.1) over);
        }
      ]

  entered_links : (depth : ℕ) (one later : Visit) → slice_get (path ++ visit ∷ []) depth ≡ Some one
      → slice_get (path ++ visit ∷ []) (depth + 1) ≡ Some later → PerformsVisit performed one later
  entered_links depth one later e f =
      let below = slice_get_within (path ++ visit ∷ []) (depth + 1) later f in
      let size = length_push path visit in
      elim (pushed_cases path visit one depth e) [
        | inl h ↦ elim (pushed_cases path visit later (depth + 1) f) [
          | inl k ↦ stands.links depth one later h k
          | inr k ↦ subst (PerformsVisit performed one) (sym k.1) (leads depth one k.0 h)
        ]
        | inr h ↦ absurd (omega (arith, h.0))
      ]

  pub entered_stands :
      IsWalkState performed (set states visit.paragraph (Open (length path))) (path ++ visit ∷ []) placed
  entered_stands = record {
    count = stands.count ∙ sym (count_same states visit.paragraph (length path) within unseen);
    low = entered_low;
    falls = entered_falls;
    visited = entered_visited;
    on_path = entered_on_path;
    links = entered_links;
  }

-- the last visit leads back to the path
module _ (performed : List PerformedRange) (states : List Progress) (path : List Visit) (placed : ℕ) (visit : Visit)
    (depth : ℕ)
    (stands : IsWalkState performed states (path ++ visit ∷ []) placed) (leads : PerformsNext performed visit)
    (back : state states visit.next ≡ Open depth) where
  came_back : IsVisited (path ++ visit ∷ []) depth visit.next
  came_back = stands.visited visit.next depth back

  ring_each : (number : ℕ) (one : Visit) → slice_get (drop depth (path ++ visit ∷ [])) number ≡ Some one
      → LeadsIntoCycle performed (drop depth (path ++ visit ∷ [])) one
  ring_each number one e =
      let at = sym (dropped_at (path ++ visit ∷ []) depth number (depth + number) refl) ∙ e in
      let within = slice_get_within (path ++ visit ∷ []) (depth + number) one at in
      elim (pushed_cases path visit one (depth + number) at) [
        | inl h ↦ (
            let size = length_push path visit in
            let below = slice_get_within path (depth + number) one h in
            let next : (depth + number) + 1 < length (path ++ visit ∷ []) = omega arith in
            let later = get_or (path ++ visit ∷ []) ((depth + number) + 1) visit in
            let stands_at = slice_get-get_or (path ++ visit ∷ []) ((depth + number) + 1) visit next in
            record {
              depth = number + 1;
              later = later;
              stands =
                  dropped_at (path ++ visit ∷ []) depth (number + 1) ((depth + number) + 1) (omega arith) ∙ stands_at;
              leads = stands.links (depth + number) one later at stands_at;
            })
        | inr h ↦ record {
          depth = 0;
          later = came_back.visit;
          stands = dropped_at (path ++ visit ∷ []) depth 0 depth (omega arith) ∙ came_back.stands;
          leads = subst (λ v. PerformsVisit performed v came_back.visit) (sym h.1)
              (record { leads = leads; next = sym came_back.same });
        }
      ]

  pub is_ring : IsCycle performed (length states) (drop depth (path ++ visit ∷ []))
  is_ring = record {
    some = (let within = slice_get_within (path ++ visit ∷ []) depth came_back.visit came_back.stands in
        omega (arith, length-drop depth (path ++ visit ∷ [])));
    each = ring_each;
    within = λ number one e. open_within states one.paragraph (depth + number) (stands.on_path (depth + number) one
        (sym (dropped_at (path ++ visit ∷ []) depth number (depth + number) refl) ∙ e)).is_open;
  }
