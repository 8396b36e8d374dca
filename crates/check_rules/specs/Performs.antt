-- What PERFORMs perform, as it is collected; and those that lead back.
use Rattle.std.specs.Prelude.{◌≡◌, ℕ, ◌+◌, ◌<◌, ◌^◌, Bool, true, All, List, [], ◌++◌, map, get_or, slice_get, take}
use Rattle.std.specs.Prelude.{Option}
use Rattle.std.specs.Prelude.{None, Some}
use Rattle.lexical.specs.declared.place.Place.{Place}
use Rattle.perform_graph.specs.declared.performed.PerformedRange.{PerformedRange}
use Rattle.perform_graph.specs.Order.{IsIn, AreRanks, PerformOneAnother}
use Rattle.source_tree.specs.declared.perform_statement.Performed.{Performed}
use Rattle.source_tree.specs.declared.perform_statement.Performed.TheVariants.{Procedures, Statements}
use Rattle.source_tree.specs.declared.statement.Verb.{Verb}
use Rattle.source_tree.specs.declared.statement.Verb.TheVariants.{PerformStatement}
use Rattle.source_tree.specs.Broken.{RuleBreach}
use Rattle.source_tree.specs.Procedures.{Procedure, range_of}
use Rattle.source_tree.specs.Recursion.{Performance, by_paragraph, range_performs}
use Rattle.check_rules.specs.declared.performs.Performs.{Performs}

-- what PERFORMs in the paragraph of this number perform
abbrev pub in_paragraph : ℕ → List Performance → List (Place × PerformedRange)
in_paragraph number = map (by_paragraph number)

-- These follow the others.
pub record AppendsPerforms (old new : Performs) (more : List (Place × PerformedRange)) : Type 0 where
  pub places : new.places.items ≡ old.places.items ++ map (λ one. one.0) more
  pub ranges : new.ranges.items ≡ old.ranges.items ++ map (λ one. one.1) more

-- A PERFORM stands in one of some paragraphs, and performs one of them.
pub record PerformsWithin (among : ℕ → Bool) (one : PerformedRange) : Type 0 where
  pub performer : among one.performer ≡ true
  pub other : ℕ
  pub within : IsIn one other
  pub marked : among other ≡ true

-- a paragraph after the last one has a number
abbrev pub HasNext : PerformedRange → Type 0
HasNext one = one.last + 1 < 2 ^ 64

-- The PERFORM of this number does, and none before it.
pub record IsFirstWithin (among : ℕ → Bool) (ranges : List PerformedRange) (number : ℕ) : Type 0 where
  pub one : PerformedRange
  pub stands : slice_get ranges number ≡ Some one
  pub leads : PerformsWithin among one
  pub before : All (λ (other : PerformedRange). PerformsWithin among other → ⊥) (take number ranges)

-- Paragraphs of this number have ranks that decrease along each PERFORM.
abbrev pub AreOrdered : ℕ → List PerformedRange → Type 0
AreOrdered count ranges = (heights : List ℕ) × AreRanks count ranges heights

-- At this place is the first PERFORM that stands in one of some paragraphs that perform one another, and performs one
-- of them.
pub record LeadsBack (all : Performs) (place : Place) : Type 0 where
  pub among : ℕ → Bool
  pub ring : PerformOneAnother among all.ranges.items
  pub number : ℕ
  pub found : IsFirstWithin among all.ranges.items number
  pub stands : place ≡ get_or all.places.items number place

-- 54 is at such a PERFORM; of memory nothing is said
abbrev pub IsBackAmong : Performs → Option RuleBreach → Type 0
IsBackAmong all None = Unit {0}
IsBackAmong all (Some one) = (one.rule ≡ 54) × LeadsBack all one.place

-- ---- what a statement performs by itself, without those in it

abbrev pub named_performs : List Procedure → {S : Type 0} → Performed S → List Performance
named_performs procedures (Procedures first last) = range_performs first.place (range_of procedures first last)
named_performs procedures (Statements statements) = []

abbrev pub own_performs : List Procedure → {S : Type 0} → Verb S → List Performance
own_performs procedures (PerformStatement one) = named_performs procedures one.performed
own_performs procedures _ = []
