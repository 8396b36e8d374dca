-- Which paragraphs perform which (own choice: no paragraph performs itself, directly or through others).
use Rattle.std.specs.Prelude.{◌≡◌, ℕ, ◌≤◌, ◌<◌, Bool, true, false, List, length, get_or, slice_get, Some, All}
use Rattle.perform_graph.specs.declared.performed.PerformedRange.{PerformedRange}
use Rattle.perform_graph.specs.declared.order.Order.{Order}
use Rattle.perform_graph.specs.declared.order.Order.TheVariants.{Ranks, Recursive}

-- paragraphs of so many
pub record IsRange (count : ℕ) (one : PerformedRange) : Type 0 where
  pub performer : one.performer < count
  pub first : one.first ≤ one.last
  pub last : one.last < count

-- a paragraph is one of those that are performed
pub record IsIn (one : PerformedRange) (paragraph : ℕ) : Type 0 where
  pub first : one.first ≤ paragraph
  pub last : paragraph ≤ one.last

-- Each paragraph that is performed is lower than the one that performs it.
abbrev pub Decreases : (ℕ → ℕ) → PerformedRange → Type 0
Decreases height one = (paragraph : ℕ) → IsIn one paragraph → height paragraph < height one.performer

-- No PERFORM leads back.
abbrev pub AllDecrease : (ℕ → ℕ) → List PerformedRange → Type 0
AllDecrease height performed = All (Decreases height) performed

-- one of the paragraphs performs one of them
pub record PerformsOneOf (among : ℕ → Bool) (performed : List PerformedRange) (paragraph : ℕ) : Type 0 where
  pub at : ℕ
  pub one : PerformedRange
  pub stands : slice_get performed at ≡ Some one
  pub performer : one.performer ≡ paragraph
  pub other : ℕ
  pub within : IsIn one other
  pub marked : among other ≡ true

-- Paragraphs of which each performs one of them: some PERFORM leads back.
pub record PerformOneAnother (among : ℕ → Bool) (performed : List PerformedRange) : Type 0 where
  pub some : ℕ
  pub marked : among some ≡ true
  pub each : (paragraph : ℕ) → among paragraph ≡ true → PerformsOneOf among performed paragraph

abbrev pub marks : List Bool → ℕ → Bool
marks all paragraph = get_or all paragraph false

abbrev pub rank_in : List ℕ → ℕ → ℕ
rank_in all paragraph = get_or all paragraph 0

-- a rank for each of so many paragraphs, below their count, that decreases along each PERFORM
pub record AreRanks (count : ℕ) (performed : List PerformedRange) (all : List ℕ) : Type 0 where
  pub one_each : length all ≡ count
  pub below : All (λ (height : ℕ). height < count) all
  pub fall : AllDecrease (rank_in all) performed

abbrev pub IsOrder : ℕ → List PerformedRange → Order → Type 0
IsOrder count performed (Ranks all) = AreRanks count performed all
IsOrder count performed (Recursive all) = PerformOneAnother (marks all) performed
