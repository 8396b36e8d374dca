-- Small programs, worked out.
use Rattle.std.proofs.Common.{◌≡◌, ℕ, zero, suc, ◌<◌, Bool, true, false, List, [], ◌∷◌, refl, arith}
use Rattle.std.proofs.lemmas.Bool.{false≢true}
use Rattle.std.proofs.lemmas.List.Elements.{All-cons, All-nil}
use Rattle.perform_graph.proofs.Descent.{none_leads_back}
use Rattle.perform_graph.specs.declared.performed.PerformedRange.{PerformedRange}
use Rattle.perform_graph.specs.Order.{AreRanks, Decreases, PerformOneAnother, PerformsOneOf, rank_in, marks}

abbrev range : ℕ → ℕ → ℕ → PerformedRange
range performer first last = record { performer = performer; first = first; last = last }

-- Paragraph 0 performs 1 through 2, and 2 performs 1.
abbrev nested : List PerformedRange
nested = range 0 1 2 ∷ range 2 1 1 ∷ []

-- Ranks 2, 0 and 1 decrease along both.
abbrev height : ℕ → ℕ
height = rank_in (2 ∷ 0 ∷ 1 ∷ [])

outer : Decreases height (range 0 1 2)
outer zero within = absurd (omega (arith, within.first))
outer (suc zero) within = omega arith
outer (suc (suc zero)) within = omega arith
outer (suc (suc (suc paragraph))) within = absurd (omega (arith, within.last))

inner : Decreases height (range 2 1 1)
inner zero within = absurd (omega (arith, within.first))
inner (suc zero) within = omega arith
inner (suc (suc paragraph)) within = absurd (omega (arith, within.last))

abbrev low : ℕ → Type 0
low one = one < 3

falling : AreRanks 3 nested (2 ∷ 0 ∷ 1 ∷ [])
falling = record {
  one_each = refl;
  below = All-cons low 2 (0 ∷ 1 ∷ []) (omega arith)
      (All-cons low 0 (1 ∷ []) (omega arith) (All-cons low 1 [] (omega arith) (All-nil low)));
  fall = All-cons (Decreases height) (range 0 1 2) (range 2 1 1 ∷ []) outer
      (All-cons (Decreases height) (range 2 1 1) [] inner (All-nil (Decreases height)));
}

-- So no paragraphs perform one another there.
no_ring : (among : ℕ → Bool) → PerformOneAnother among nested → ⊥
no_ring among = none_leads_back nested height among falling.fall

-- Ranks 2, 1 and 1 don't: paragraph 2 performs one that is as high.
not_falling : AreRanks 3 nested (2 ∷ 1 ∷ 1 ∷ []) → ⊥
not_falling are = let fall =
    are.fall 1 (range 0 0 0) (omega arith) 1 (record { first = omega arith; last = omega arith }) in omega (arith, fall)

-- Nor are 3, 0 and 1 ranks of three paragraphs, since 3 isn't below their count.
too_high : AreRanks 3 nested (3 ∷ 0 ∷ 1 ∷ []) → ⊥
too_high are = let below = are.below 0 0 (omega arith) in omega (arith, below)

-- Paragraphs 1 and 3 perform one another, the second by the last paragraph of a range.
abbrev ring : List PerformedRange
ring = range 0 1 1 ∷ range 1 2 3 ∷ range 3 1 1 ∷ []

both : PerformOneAnother (marks (false ∷ true ∷ false ∷ true ∷ [])) ring
both = record { some = 1; marked = refl; each = each } where
  each : (paragraph : ℕ) → marks (false ∷ true ∷ false ∷ true ∷ []) paragraph ≡ true
      → PerformsOneOf (marks (false ∷ true ∷ false ∷ true ∷ [])) ring paragraph
  each zero marked = absurd (false≢true marked)
  each (suc zero) marked = record {
    at = 1;
    one = range 1 2 3;
    stands = refl;
    performer = refl;
    other = 3;
    within = record { first = omega arith; last = omega arith };
    marked = refl;
  }
  each (suc (suc zero)) marked = absurd (false≢true marked)
  each (suc (suc (suc zero))) marked =
      record {
        at = 2;
        one = range 3 1 1;
        stands = refl;
        performer = refl;
        other = 1;
        within = record { first = omega arith; last = omega arith };
        marked = refl;
      }
  each (suc (suc (suc (suc paragraph)))) marked = absurd (false≢true marked)

-- A paragraph that performs itself.
itself : PerformOneAnother (marks (true ∷ [])) (range 0 0 0 ∷ [])
itself = record { some = 0; marked = refl; each = each } where
  each : (paragraph : ℕ) → marks (true ∷ []) paragraph ≡ true
      → PerformsOneOf (marks (true ∷ [])) (range 0 0 0 ∷ []) paragraph
  each zero marked = record {
    at = 0;
    one = range 0 0 0;
    stands = refl;
    performer = refl;
    other = 0;
    within = record { first = omega arith; last = omega arith };
    marked = refl;
  }
  each (suc paragraph) marked = absurd (false≢true marked)
