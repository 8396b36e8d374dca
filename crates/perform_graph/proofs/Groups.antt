-- Going back over the PERFORMs of a paragraph.
use Rattle.std.proofs.Common.{◌≡◌, ℕ, ◌<◌, ◌≤◌, ◌+◌, max, inl, inr, true, List, [], ◌∷◌, ◌++◌, length, get_or, set}
use Rattle.std.proofs.Common.{None, Some, refl, sym, ap, subst, ◌∙◌, arith}
use Rattle.std.specs.Prelude.{All, Option, slice_get}
use Rattle.std.proofs.lemmas.Bool.{cases_lt, cases_eq, cases_order}
use Rattle.std.proofs.lemmas.List.{get_or-set_same, get_or-set_other, get_or_append_left, get_or_push, get_or_read}
use Rattle.std.proofs.lemmas.List.{length-set, length_push}
use Rattle.std.proofs.lemmas.Option.{slice_get_within, slice_get-get_or}
use Rattle.perform_graph.specs.declared.performed.PerformedRange.{PerformedRange}
use Rattle.perform_graph.specs.declared.progress.Progress.{Progress}
use Rattle.perform_graph.specs.declared.visit.Visit.{Visit}
use Rattle.perform_graph.specs.Order.{IsIn, IsRange}
use Rattle.perform_graph.specs.Grouped.{IsGrouped, IsGroupedTo, IsLastOf, IsPerformOf, up_to}
use Rattle.perform_graph.specs.Walk.{HasGoneOver, HasNext, IsFirstUnplaced, is_placed, state}

some_is : {A : Type 0} (a b : A) → Some a ≡ Some b → a ≡ b
some_is a b e = cc

-- The table grows by the PERFORM at its end.
module _ (count : ℕ) (performed : List PerformedRange) (end : ℕ) (last before : List (Option ℕ)) (one : PerformedRange)
    (found : Option ℕ)
    (grouped : IsGroupedTo count performed end last before) (stands : slice_get performed end ≡ Some one)
    (within : one.performer < count)
    (found_is : found ≡ get_or last one.performer None) where
  same_one : (other : PerformedRange) → slice_get performed end ≡ Some other → other ≡ one
  same_one other e = some_is other one (sym e ∙ stands)

  last_more : (paragraph : ℕ) (at : Option ℕ) → (paragraph ≡ one.performer → ⊥) → IsLastOf performed paragraph end at
      → IsLastOf performed paragraph (end + 1) at
  last_more paragraph at differs was = record {
    of = was.of;
    within = (let h = was.within in omega arith);
    none = λ number other from below e performer.
        elim (cases_lt number end) [
          | inl lt ↦ was.none number other from lt e performer
          | inr ge ↦ (
              let here : number ≡ end = omega arith in
              differs (sym performer
              ∙ ap (λ (o : PerformedRange). o.performer) (same_one other (ap (slice_get performed) (sym here) ∙ e))))
        ];
  }

  last_here : IsLastOf performed one.performer (end + 1) (Some end)
  last_here = record {
    of = λ at e.
        record { one = one; stands = ap (slice_get performed) (sym (some_is end at e)) ∙ stands; performer = refl };
    within = omega arith;
    none = λ number other from below e performer. omega arith;
  }

  each_last : (paragraph : ℕ) → paragraph < count
      → IsLastOf performed paragraph (end + 1) (get_or (set last one.performer (Some end)) paragraph None)
  each_last paragraph lt =
      let fits = grouped.lasts in
      elim (cases_eq paragraph one.performer) [
        | inl same ↦ (
            let here : one.performer < length last = omega arith in
            subst (IsLastOf performed paragraph (end + 1))
            (sym (ap (λ p. get_or (set last one.performer (Some end)) p None) same
            ∙ get_or-set_same last one.performer (Some end) None here))
            (subst (λ p. IsLastOf performed p (end + 1) (Some end)) (sym same) last_here))
        | inr differs ↦
            subst (IsLastOf performed paragraph (end + 1))
            (sym (get_or-set_other last one.performer paragraph (Some end) None differs))
            (last_more paragraph (get_or last paragraph None) differs (grouped.each_last paragraph lt))
      ]

  each_before : (number : ℕ) (other : PerformedRange) → number < end + 1 → slice_get performed number ≡ Some other
      → IsLastOf performed other.performer number (get_or (before ++ found ∷ []) number None)
  each_before number other lt e =
      let fits = grouped.befores in
      elim (cases_lt number end) [
        | inl below ↦ (
            let here : number < length before = omega arith in
            subst (IsLastOf performed other.performer number)
            (sym (get_or_append_left before (found ∷ []) None number here)) (grouped.each_before number other below e))
        | inr ge ↦ (
            let here : number ≡ end = omega arith in
            let same = same_one other (ap (slice_get performed) (sym here) ∙ e) in
            let read =
            ap (λ n. get_or (before ++ found ∷ []) n None) here ∙ get_or_push before found None end fits ∙ found_is in
            subst (IsLastOf performed other.performer number) (sym read)
            (subst (λ n. IsLastOf performed other.performer n (get_or last one.performer None)) (sym here)
            (subst (λ (o : PerformedRange). IsLastOf performed o.performer end (get_or last one.performer None))
            (sym same) (grouped.each_last one.performer within))))
      ]

  grouped_more : IsGroupedTo count performed (end + 1) (set last one.performer (Some end)) (before ++ found ∷ [])
  grouped_more = record {
    lasts = length-set last one.performer (Some end) ∙ grouped.lasts;
    befores = length_push before found ∙ ap (λ n. n + 1) grouped.befores;
    each_last = each_last;
    each_before = each_before;
  }

-- a visit that begins has gone over nothing
pub begun : (count : ℕ) (performed : List PerformedRange) (states : List Progress) (last before : List (Option ℕ))
    (visit : Visit) → IsGrouped count performed last before
    → visit.paragraph < count → visit.at ≡ get_or last visit.paragraph None → visit.next ≡ 0
    → HasGoneOver performed states visit
begun count performed states last before visit grouped within at next =
    let is_last =
    subst (IsLastOf performed visit.paragraph (length performed)) (sym at) (grouped.each_last visit.paragraph within) in
    record {
      of = is_last.of;
      behind = λ number one from stands performer.
          absurd (is_last.none number one from (slice_get_within performed number one stands) stands performer);
      begun = λ number one is stands paragraph inside lt. absurd (omega arith);
    }

-- what is read past the end of the PERFORMs
abbrev pub nothing : PerformedRange
nothing = record { performer = 0; first = 0; last = 0 }

-- one more PERFORM, before which the last one of its paragraph was read
pub grouped_next : (count : ℕ) (performed : List PerformedRange) (number : ℕ) (last before later : List (Option ℕ))
    (found : Option ℕ) → number < length performed → All (IsRange count) performed
    → IsGroupedTo count performed number last before
    → found ≡ get_or last (get_or performed number nothing).performer found → later ≡ before ++ found ∷ []
    → IsGroupedTo count performed (number + 1) (set last (get_or performed number nothing).performer (Some number))
    later
grouped_next count performed number last before later found lt ranges grouped read more =
    let one = get_or performed number nothing in
    let within = (ranges number nothing lt).performer in
    let fits = grouped.lasts in
    let here : one.performer < length last = omega arith in
    subst (IsGroupedTo count performed (number + 1) (set last one.performer (Some number))) (sym more)
    (grouped_more count performed number last before one found grouped (slice_get-get_or performed number nothing lt)
    within (get_or_read last one.performer found here read None))

-- a visit that is at a PERFORM
module _ (performed : List PerformedRange) (states : List Progress) (last before : List (Option ℕ)) (visit : Visit)
    (at : ℕ) (one : PerformedRange)
    (ranges : All (IsRange (length states)) performed) (grouped : IsGrouped (length states) performed last before)
    (over : HasGoneOver performed states visit)
    (is_at : visit.at ≡ Some at) (one_is : one ≡ get_or performed at nothing) where
  is_of : IsPerformOf performed visit.paragraph at
  is_of = over.of at is_at

  pub at_within : at < length performed
  at_within = slice_get_within performed at is_of.one is_of.stands

  pub at_before : at < length before
  at_before = let fits = grouped.befores in let below = at_within in omega arith

  stands : slice_get performed at ≡ Some one
  stands = slice_get-get_or performed at nothing at_within ∙ ap Some (sym one_is)

  performer : one.performer ≡ visit.paragraph
  performer =
      ap (λ (o : PerformedRange). o.performer) (some_is one is_of.one (sym stands ∙ is_of.stands)) ∙ is_of.performer

  pub at_range : IsRange (length states) one
  at_range = subst (IsRange (length states)) (sym one_is) (ranges at nothing at_within)

  pub has_next : (from next : ℕ) → from ≡ max one.first visit.next → IsFirstUnplaced states from one.last next
      → HasNext performed states visit.paragraph (record { paragraph = visit.paragraph; at = visit.at; next = next })
  has_next from next e first =
      let low = first.from in
      let high = first.to in
      let fits = at_range.last in
      record {
        same = refl;
        over = record {
          of = over.of;
          behind = over.behind;
          begun = λ number other is there paragraph inside lt.
              let same_at = some_is at number (sym is_at ∙ is) in
              let same = some_is other one (sym there ∙ ap (slice_get performed) (sym same_at) ∙ stands) in
              let inside_one = subst (λ o. IsIn o paragraph) same inside in
              let above = inside_one.first in
              elim (cases_lt paragraph visit.next) [
                | inl before ↦ over.begun number other is there paragraph inside before
                | inr after ↦ first.before paragraph (omega arith) lt
              ];
        };
        leads = record {
          at = at;
          one = one;
          is_at = is_at;
          stands = stands;
          performer = performer;
          within = record { first = omega arith; last = high };
        };
        within = omega arith;
        unplaced = first.unplaced;
      }

  module _ (from : ℕ) (found : Option ℕ) (from_is : from ≡ max one.first visit.next)
      (found_is : found ≡ get_or before at found)
      (all : (paragraph : ℕ) → from ≤ paragraph → paragraph ≤ one.last
      → is_placed (state states paragraph) ≡ true) where
    is_last : IsLastOf performed visit.paragraph at found
    is_last =
        subst (IsLastOf performed visit.paragraph at) (sym (get_or_read before at found at_before found_is None))
        (subst (λ p. IsLastOf performed p at (get_or before at None)) performer
        (grouped.each_before at one at_within stands))

    here : (paragraph : ℕ) → IsIn one paragraph → is_placed (state states paragraph) ≡ true
    here paragraph inside =
        let above = inside.first in
        elim (cases_lt paragraph visit.next) [
          | inl before ↦ over.begun at one is_at stands paragraph inside before
          | inr after ↦ all paragraph (omega arith) inside.last
        ]

    pub gone_back : HasGoneOver performed states (record { paragraph = visit.paragraph; at = found; next = 0 })
    gone_back = record {
      of = is_last.of;
      behind = λ number other from there same paragraph inside.
          elim (cases_order number at) [
            | inl e ↦ here paragraph (subst (λ o. IsIn o paragraph)
                (some_is other one (sym there ∙ ap (slice_get performed) e ∙ stands)) inside)
            | inr order ↦ elim order [
              | inl below ↦ absurd (is_last.none number other from below there same)
              | inr above ↦ over.behind number other (subst (λ o. up_to o ≤ number) (sym is_at) (omega arith)) there
                  same paragraph inside
            ]
          ];
      begun = λ number other is there paragraph inside lt. absurd (omega arith);
    }

    pub goes_down : up_to found < up_to visit.at
    goes_down = subst (λ o. up_to found < up_to o) (sym is_at) (let within = is_last.within in omega arith)
