-- States of which one changes.
use Rattle.std.proofs.Common.{◌≡◌, ℕ, ◌<◌, ◌+◌, ◌⊎◌, inl, inr, true, false, List, length, set, refl, sym, ap, ◌∙◌}
use Rattle.std.proofs.Common.{arith}
use Rattle.std.specs.Prelude.{count_by, if◌then◌else◌}
use Rattle.std.proofs.lemmas.Bool.{cases_lt, cases_eq, false≢true, true≢false}
use Rattle.std.proofs.lemmas.List.{get_or_past, get_or-set_same, get_or-set_other}
use Rattle.std.proofs.lemmas.List.Sums.{sum_by-set}
use Rattle.perform_graph.specs.declared.performed.PerformedRange.{PerformedRange}
use Rattle.perform_graph.specs.declared.progress.Progress.{Progress}
use Rattle.perform_graph.specs.declared.progress.Progress.TheVariants.{Unseen, Open, Placed}
use Rattle.perform_graph.specs.declared.visit.Visit.{Visit}
use Rattle.perform_graph.specs.Walk.{HasGoneOver, IsBelow, ahead, is_placed, is_seen, state, weight}

pub open_within : (states : List Progress) (paragraph depth : ℕ) → state states paragraph ≡ Open depth
    → paragraph < length states
open_within states paragraph depth e =
    elim (cases_lt paragraph (length states)) [
      | inl h ↦ h
      | inr h ↦ (let past = get_or_past states paragraph Unseen h in let no : ⊥ = cc in absurd no)
    ]

pub has_height : (one : Progress) → is_placed one ≡ true → (height : ℕ) × (one ≡ Placed height)
has_height Unseen e = absurd (false≢true e)
has_height (Open depth) e = absurd (false≢true e)
has_height (Placed height) e = (height, refl)

pub is_unseen : (one : Progress) → is_placed one ≡ false → ((depth : ℕ) → one ≡ Open depth → ⊥) → one ≡ Unseen
is_unseen Unseen e closed = refl
is_unseen (Open depth) e closed = absurd (closed depth refl)
is_unseen (Placed height) e closed = absurd (true≢false e)

pub placed_is : (a b : ℕ) → Placed a ≡ Placed b → a ≡ b
placed_is a b e = cc

pub open_is : (a b : ℕ) → Open a ≡ Open b → a ≡ b
open_is a b e = cc

-- where the change stands, and elsewhere
pub changed_cases : (states : List Progress) (paragraph : ℕ) (now : Progress) (other : ℕ) (one : Progress)
    → paragraph < length states → state (set states paragraph now) other ≡ one
    → ((other ≡ paragraph) × (now ≡ one)) ⊎ ((other ≡ paragraph → ⊥) × (state states other ≡ one))
changed_cases states paragraph now other one within e =
    elim (cases_eq other paragraph) [
      | inl same ↦ inl (
        same,
        sym (get_or-set_same states paragraph now Unseen within) ∙ ap (state (set states paragraph now)) (sym same) ∙ e,
      )
      | inr differs ↦ inr (differs, sym (get_or-set_other states paragraph other now Unseen differs) ∙ e)
    ]

-- What is placed stays placed where the change is of another one.
pub keeps_height : (states : List Progress) (paragraph : ℕ) (now : Progress)
    → is_placed (state states paragraph) ≡ false
    → (other height : ℕ) → state states other ≡ Placed height → state (set states paragraph now) other ≡ Placed height
keeps_height states paragraph now unplaced other height e =
    elim (cases_eq other paragraph) [
      | inl same ↦ absurd (false≢true (sym unplaced ∙ ap (λ p. is_placed (state states p)) (sym same) ∙ ap is_placed e))
      | inr differs ↦ get_or-set_other states paragraph other now Unseen differs ∙ e
    ]

pub keeps_placed : (states : List Progress) (paragraph : ℕ) (now : Progress)
    → is_placed (state states paragraph) ≡ false
    → (other : ℕ) → is_placed (state states other) ≡ true → is_placed (state (set states paragraph now) other) ≡ true
keeps_placed states paragraph now unplaced other e =
    let has = has_height (state states other) e in
    ap is_placed (keeps_height states paragraph now unplaced other has.0 has.1)

pub below_kept : (states : List Progress) (paragraph : ℕ) (now : Progress) (above other : ℕ)
    → is_placed (state states paragraph) ≡ false
    → IsBelow states above other → IsBelow (set states paragraph now) above other
below_kept states paragraph now above other unplaced below =
    record {
      height = below.height;
      placed = keeps_height states paragraph now unplaced other below.height below.placed;
      lower = below.lower;
    }

pub over_kept : (performed : List PerformedRange) (states new : List Progress) (visit : Visit)
    → ((other : ℕ) → is_placed (state states other) ≡ true → is_placed (state new other) ≡ true)
    → HasGoneOver performed states visit → HasGoneOver performed new visit
over_kept performed states new visit keeps over =
    record {
      of = over.of;
      behind = λ number one h stands performer paragraph within.
          keeps paragraph (over.behind number one h stands performer paragraph within);
      begun = λ at one is stands paragraph within lt. keeps paragraph (over.begun at one is stands paragraph within lt);
    }

pub seen_kept : (states : List Progress) (paragraph : ℕ) (now : Progress) → paragraph < length states
    → is_seen now ≡ true
    → (other : ℕ) → is_seen (state states other) ≡ true → is_seen (state (set states paragraph now) other) ≡ true
seen_kept states paragraph now within seen other e =
    elim (cases_eq other paragraph) [
      | inl same ↦ ap (λ p. is_seen (state (set states paragraph now) p)) same
          ∙ ap is_seen (get_or-set_same states paragraph now Unseen within) ∙ seen
      | inr differs ↦ ap is_seen (get_or-set_other states paragraph other now Unseen differs) ∙ e
    ]

pub seen_here : (states new : List Progress) (paragraph : ℕ) (now : Progress) → paragraph < length states
    → is_seen now ≡ true → new ≡ set states paragraph now
    → is_seen (state new paragraph) ≡ true
seen_here states new paragraph now within seen e =
    ap (λ s. is_seen (state s paragraph)) e ∙ ap is_seen (get_or-set_same states paragraph now Unseen within) ∙ seen

pub less_ahead : (states : List Progress) (paragraph : ℕ) (now : Progress) → paragraph < length states
    → weight now < weight (state states paragraph) → ahead (set states paragraph now) < ahead states
less_ahead states paragraph now within less = let sums =
    sum_by-set weight states paragraph now Unseen within in omega arith

pub count_more : (states : List Progress) (paragraph depth height : ℕ) → paragraph < length states
    → state states paragraph ≡ Open depth
    → count_by is_placed (set states paragraph (Placed height)) ≡ count_by is_placed states + 1
count_more states paragraph depth height within e =
    let f : Progress → ℕ = λ one. if is_placed one then 1 else 0 in
    let sums = sum_by-set f states paragraph (Placed height) Unseen within in
    let none = ap f e in
    omega arith

pub count_same : (states : List Progress) (paragraph depth : ℕ) → paragraph < length states
    → state states paragraph ≡ Unseen
    → count_by is_placed (set states paragraph (Open depth)) ≡ count_by is_placed states
count_same states paragraph depth within e =
    let f : Progress → ℕ = λ one. if is_placed one then 1 else 0 in
    let sums = sum_by-set f states paragraph (Open depth) Unseen within in
    let none = ap f e in
    omega arith
