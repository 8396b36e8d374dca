-- What the end of the walk says: ranks that decrease, or marks of paragraphs that perform one another.
use Rattle.std.proofs.Common.{◌≡◌, ℕ, ◌<◌, true, Bool, List, [], ◌∷◌, length, get_or, Some, refl, ap, ◌∙◌, arith}
use Rattle.std.specs.Prelude.{All, map, slice_get}
use Rattle.std.proofs.lemmas.Bool.{false≢true}
use Rattle.std.proofs.lemmas.List.{get_or-map, length-map}
use Rattle.std.proofs.lemmas.List.Sums.{count_by-le-length}
use Rattle.std.proofs.lemmas.Option.{slice_get_within, slice_get-get_or}
use Rattle.perform_graph.specs.declared.performed.PerformedRange.{PerformedRange}
use Rattle.perform_graph.specs.declared.progress.Progress.{Progress}
use Rattle.perform_graph.specs.declared.progress.Progress.TheVariants.{Unseen, Open, Placed}
use Rattle.perform_graph.specs.declared.visit.Visit.{Visit}
use Rattle.perform_graph.specs.Order.{AreRanks, IsIn, IsRange, PerformOneAnother, PerformsOneOf, rank_in, marks}
use Rattle.perform_graph.specs.Walk.{AreMarks, IsCycle, IsWalkState, rank_of, is_placed, is_seen, state}

first_of : (ring : List Visit) → 0 < length ring → (visit : Visit) × (slice_get ring 0 ≡ Some visit)
first_of [] some = absurd (omega arith)
first_of (visit ∷ ring) some = (visit, refl)

module _ (performed : List PerformedRange) (count : ℕ) (ring : List Visit) (all : List Bool)
    (is : IsCycle performed count ring) (are : AreMarks ring all) where
  performs_one : (paragraph : ℕ) → marks all paragraph ≡ true → PerformsOneOf (marks all) performed paragraph
  performs_one paragraph marked =
      let of = are.of paragraph marked in
      let back = is.each of.0 of.1.visit of.1.stands in
      let to = back.leads in
      record {
        at = to.leads.at;
        one = to.leads.one;
        stands = to.leads.stands;
        performer = to.leads.performer ∙ of.1.same;
        other = of.1.visit.next;
        within = to.leads.within;
        marked = ap (marks all) to.next
            ∙ are.marked back.depth back.later (slice_get_within ring back.depth back.later back.stands) back.stands;
      }

  pub perform_one_another : PerformOneAnother (marks all) performed
  perform_one_another =
      let first = first_of ring is.some in
      record { some = first.0.paragraph; marked = are.marked 0 first.0 is.some first.1; each = performs_one }

pub ring_within : (performed : List PerformedRange) (count size : ℕ) (ring : List Visit) → size ≡ count
    → IsCycle performed size ring → All (λ (visit : Visit). visit.paragraph < count) ring
ring_within performed count size ring same is number default lt =
    let within = is.within number (get_or ring number default) (slice_get-get_or ring number default lt) in
    omega arith

seen_height : (one : Progress) → is_seen one ≡ true → ((depth : ℕ) → one ≡ Open depth → ⊥)
    → (height : ℕ) × (one ≡ Placed height)
seen_height Unseen e closed = absurd (false≢true e)
seen_height (Open depth) e closed = absurd (closed depth refl)
seen_height (Placed height) e closed = (height, refl)

module _ (count : ℕ) (performed : List PerformedRange) (states : List Progress) (placed : ℕ)
    (stands : IsWalkState performed states [] placed)
    (size : length states ≡ count) (seen : (paragraph : ℕ) → paragraph < count
    → is_seen (state states paragraph) ≡ true) (ranges : All (IsRange count) performed) where
  closed : (paragraph depth : ℕ) → state states paragraph ≡ Open depth → ⊥
  closed paragraph depth e =
      let at = (stands.visited paragraph depth e).stands in
      cc

  placed_at : (paragraph : ℕ) → paragraph < count → (height : ℕ) × (state states paragraph ≡ Placed height)
  placed_at paragraph within = seen_height (state states paragraph) (seen paragraph within) (closed paragraph)

  read : (paragraph default height : ℕ) → paragraph < count → state states paragraph ≡ Placed height
      → get_or (map rank_of states) paragraph default ≡ height
  read paragraph default height within e =
      get_or-map rank_of states paragraph Unseen default (omega arith) ∙ ap rank_of e

  below : All (λ (height : ℕ). height < count) (map rank_of states)
  below paragraph default lt =
      let within : paragraph < count = omega (arith, length-map states rank_of) in
      let at = placed_at paragraph within in
      let low = stands.low paragraph at.0 at.1 in
      let value = read paragraph default at.0 within at.1 in
      let most = count_by-le-length is_placed states in
      let counted = stands.count in
      omega arith

  fall : (one : PerformedRange) (number : ℕ) → slice_get performed number ≡ Some one → IsRange count one
      → (paragraph : ℕ) → IsIn one paragraph
      → rank_in (map rank_of states) paragraph < rank_in (map rank_of states) one.performer
  fall one number stands_at range paragraph inside =
      let most = range.last in
      let last = inside.last in
      let top = placed_at one.performer range.performer in
      let low = stands.falls one.performer top.0 top.1 number one stands_at refl paragraph inside in
      let above = read one.performer 0 top.0 range.performer top.1 in
      let under = read paragraph 0 low.height (omega arith) low.placed in
      let lower = low.lower in
      omega arith

  pub are_heights : AreRanks count performed (map rank_of states)
  are_heights = record {
    one_each = length-map states rank_of ∙ size;
    below = below;
    fall = λ number default lt. fall (get_or performed number default) number
        (slice_get-get_or performed number default lt) (ranges number default lt);
  }
