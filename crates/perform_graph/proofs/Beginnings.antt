-- What is known before a loop begins, and what one more step adds.
use Rattle.std.proofs.Common.{◌≡◌, ℕ, zero, suc, ◌<◌, ◌≤◌, ◌+◌, inl, inr, Bool, true, false, List, []}
use Rattle.std.proofs.Common.{length, drop, get_or, set, None, Some, refl, sym, ap, subst, ◌∙◌, arith}
use Rattle.std.specs.Prelude.{All, Option, count_by, replicate, slice_get}
use Rattle.std.proofs.lemmas.Bool.{cases_lt, cases_eq, false≢true}
use Rattle.std.proofs.lemmas.List.{get_or-replicate, get_or-set_same, get_or-set_other, get_or_past}
use Rattle.std.proofs.lemmas.List.{length-drop, length-replicate}
use Rattle.perform_graph.specs.declared.performed.PerformedRange.{PerformedRange}
use Rattle.perform_graph.specs.declared.progress.Progress.{Progress}
use Rattle.perform_graph.specs.declared.progress.Progress.TheVariants.{Unseen, Open, Placed}
use Rattle.perform_graph.specs.declared.visit.Visit.{Visit}
use Rattle.perform_graph.specs.Order.{IsRange, marks}
use Rattle.perform_graph.specs.Grouped.{IsGrouped, IsGroupedTo, up_to}
use Rattle.perform_graph.specs.Walk.{AreMarks, AreMarksTo, IsWalkState, is_placed, is_seen, state}

same_at : {X : Type 0} (x : X) (n i : ℕ) → get_or (replicate n x) i x ≡ x
same_at x n i =
    elim (cases_lt i n) [
      | inl lt ↦ get_or-replicate n i x x lt
      | inr ge ↦ get_or_past (replicate n x) i x (subst (λ m. m ≤ i) (sym (length-replicate n x)) ge)
    ]

-- ---- a walk that has seen nothing

count_none : (n : ℕ) → count_by is_placed (replicate n Unseen) ≡ 0
count_none zero = refl
count_none (suc n) = count_none n

never_placed : {A : Type 0} (one : Progress) (height : ℕ) → one ≡ Unseen → one ≡ Placed height → A
never_placed one height unseen placed = cc

never_open : {A : Type 0} (one : Progress) (depth : ℕ) → one ≡ Unseen → one ≡ Open depth → A
never_open one depth unseen is = cc

never_visited : {A : Type 0} (depth : ℕ) (visit : Visit) → slice_get [] depth ≡ Some visit → A
never_visited depth visit e = cc

pub walk_new : (performed : List PerformedRange) (count : ℕ) (states : List Progress) (placed : ℕ)
    → states ≡ replicate count Unseen → placed ≡ 0 → IsWalkState performed states [] placed
walk_new performed count states placed states_are placed_is =
    let unseen = λ (paragraph : ℕ). ap (λ s. state s paragraph) states_are ∙ same_at Unseen count paragraph in
    record {
      count = placed_is ∙ sym (ap (count_by is_placed) states_are ∙ count_none count);
      low = λ paragraph height e. never_placed (state states paragraph) height (unseen paragraph) e;
      falls = λ paragraph height e. never_placed (state states paragraph) height (unseen paragraph) e;
      visited = λ paragraph depth e. never_open (state states paragraph) depth (unseen paragraph) e;
      on_path = λ depth visit e. never_visited depth visit e;
      links = λ depth visit later e. never_visited depth visit e;
    }

pub length_new : (count : ℕ) (states : List Progress) → states ≡ replicate count Unseen → length states ≡ count
length_new count states e = ap length e ∙ length-replicate count Unseen

-- ---- one paragraph more was seen

pub seen_next : (root : ℕ) (old new : List Progress)
    → ((paragraph : ℕ) → paragraph < root → is_seen (state old paragraph) ≡ true)
    → ((paragraph : ℕ) → is_seen (state old paragraph) ≡ true → is_seen (state new paragraph) ≡ true)
    → is_seen (state new root) ≡ true
    → (paragraph : ℕ) → paragraph < root + 1 → is_seen (state new paragraph) ≡ true
seen_next root old new seen kept here paragraph lt =
    elim (cases_lt paragraph root) [
      | inl below ↦ kept paragraph (seen paragraph below)
      | inr above ↦ (
          let same : root ≡ paragraph = omega arith in
          subst (λ p. is_seen (state new p) ≡ true) same here)
    ]

pub not_seen : (one : Progress) → is_seen one ≡ false → one ≡ Unseen
not_seen Unseen e = refl
not_seen (Open depth) e = absurd (false≢true (sym e))
not_seen (Placed height) e = absurd (false≢true (sym e))

-- a part of a list that is not empty begins within it
pub begins_within : (path whole : List Visit) (n : ℕ) → whole ≡ path → 0 < length (drop n path) → n ≤ length whole
begins_within path whole n e some =
    subst (λ (l : List Visit). n ≤ length l) (sym e) (omega (arith, length-drop n path, some))

-- ---- the same PERFORMs, by equal parts

pub ranges_as : (count size : ℕ) (performed given : List PerformedRange) → size ≡ count → performed ≡ given
    → All (IsRange count) given → All (IsRange size) performed
ranges_as count size performed given size_is same ranges =
    subst (λ n. All (IsRange n) performed) (sym size_is) (subst (All (IsRange count)) (sym same) ranges)

pub grouped_as : (count size : ℕ) (performed given : List PerformedRange) (last before : List (Option ℕ))
    → size ≡ count → performed ≡ given → IsGrouped count given last before → IsGrouped size performed last before
grouped_as count size performed given last before size_is same grouped =
    subst (λ n. IsGrouped n performed last before) (sym size_is)
    (subst (λ p. IsGrouped count p last before) (sym same) grouped)

-- ---- no PERFORM is grouped

never_none : {A : Type 0} (found : Option ℕ) (at : ℕ) → found ≡ None → found ≡ Some at → A
never_none found at none some = cc

pub grouped_none : (count : ℕ) (performed : List PerformedRange) (last before : List (Option ℕ))
    → last ≡ replicate count None → before ≡ [] → IsGroupedTo count performed 0 last before
grouped_none count performed last before last_is before_is =
    let none = λ (paragraph : ℕ). ap (λ l. get_or l paragraph None) last_is ∙ same_at None count paragraph in
    record {
      lasts = ap length last_is ∙ length-replicate count None;
      befores = ap length before_is;
      each_last = λ paragraph lt. record {
        of = λ at e. never_none (get_or last paragraph None) at (none paragraph) e;
        within = subst (λ found. up_to found ≤ 0) (sym (none paragraph)) (omega arith);
        none = λ number one from below e performer. absurd (omega arith);
      };
      each_before = λ number one below e. absurd (omega arith);
    }

pub grouped_whole : (count end : ℕ) (performed : List PerformedRange) (last before : List (Option ℕ))
    → length performed ≤ end → end ≤ length performed → IsGroupedTo count performed end last before
    → IsGrouped count performed last before
grouped_whole count end performed last before least most grouped =
    let same : end ≡ length performed = omega arith in
    subst (λ n. IsGroupedTo count performed n last before) same grouped

-- ---- marks

pub unmarked : (ring : List Visit) (count : ℕ) (all : List Bool) → all ≡ replicate count false → AreMarksTo ring 0 all
unmarked ring count all e = record {
  marked = λ depth visit lt stands. absurd (omega arith);
  of = λ paragraph on.
      absurd (false≢true (sym (ap (λ l. marks l paragraph) e ∙ same_at false count paragraph) ∙ on));
}

same_visit : (ring : List Visit) (end depth : ℕ) (visit one : Visit) → end ≡ depth → slice_get ring end ≡ Some visit
    → slice_get ring depth ≡ Some one → one.paragraph ≡ visit.paragraph
same_visit ring end depth visit one here stands e = cc

pub marked_next : (ring : List Visit) (end : ℕ) (all : List Bool) (visit : Visit) → slice_get ring end ≡ Some visit
    → visit.paragraph < length all → AreMarksTo ring end all
    → AreMarksTo ring (end + 1) (set all visit.paragraph true)
marked_next ring end all visit stands within are = record {
  marked = λ depth one lt e.
      elim (cases_eq one.paragraph visit.paragraph) [
        | inl same ↦ ap (marks (set all visit.paragraph true)) same
            ∙ get_or-set_same all visit.paragraph true false within
        | inr differs ↦ get_or-set_other all visit.paragraph one.paragraph true false differs
            ∙ elim (cases_lt depth end) [
              | inl below ↦ are.marked depth one below e
              | inr above ↦ (
                  let here : end ≡ depth = omega arith in
                  absurd (differs (same_visit ring end depth visit one here stands e)))
            ]
      ];
  of = λ paragraph on.
      elim (cases_eq paragraph visit.paragraph) [
        | inl same ↦ (end, record { visit = visit; stands = stands; same = sym same })
        | inr differs ↦
            are.of paragraph (sym (get_or-set_other all visit.paragraph paragraph true false differs) ∙ on)
      ];
}

pub marked_whole : (ring : List Visit) (end : ℕ) (all later : List Bool) → length ring ≤ end → end ≤ length ring
    → later ≡ all → AreMarksTo ring end all → AreMarks ring later
marked_whole ring end all later least most e are =
    let same : end ≡ length ring = omega arith in
    subst (AreMarksTo ring (length ring)) (sym e) (subst (λ n. AreMarksTo ring n all) same are)
