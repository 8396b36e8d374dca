-- The PERFORMs of each paragraph, the last one first.
use Rattle.std.specs.Prelude.{◌≡◌, ℕ, ◌+◌, ◌≤◌, ◌<◌, List, length, get_or, slice_get, Option, Some, None}
use Rattle.perform_graph.specs.declared.performed.PerformedRange.{PerformedRange}

-- how many PERFORMs there are up to this one
abbrev pub up_to : Option ℕ → ℕ
up_to None = 0
up_to (Some at) = at + 1

-- The PERFORM of this number stands in the paragraph.
pub record IsPerformOf (performed : List PerformedRange) (paragraph at : ℕ) : Type 0 where
  pub one : PerformedRange
  pub stands : slice_get performed at ≡ Some one
  pub performer : one.performer ≡ paragraph

-- the last PERFORM of the paragraph among the first ones, if there is one
pub record IsLastOf (performed : List PerformedRange) (paragraph end : ℕ) (found : Option ℕ) : Type 0 where
  pub of : (at : ℕ) → found ≡ Some at → IsPerformOf performed paragraph at
  pub within : up_to found ≤ end
  pub none : (number : ℕ) (one : PerformedRange) → up_to found ≤ number → number < end → slice_get performed number ≡ Some one → one.performer ≡ paragraph → ⊥

-- For the first PERFORMs: the last one of each paragraph, and before each one the one before it in its paragraph.
pub record IsGroupedTo (count : ℕ) (performed : List PerformedRange) (end : ℕ) (last before : List (Option ℕ)) : Type 0 where
  pub lasts : length last ≡ count
  pub befores : length before ≡ end
  pub each_last : (paragraph : ℕ) → paragraph < count → IsLastOf performed paragraph end (get_or last paragraph None)
  pub each_before : (number : ℕ) (one : PerformedRange) → number < end → slice_get performed number ≡ Some one → IsLastOf performed one.performer number (get_or before number None)

-- the same for all of them
abbrev pub IsGrouped : ℕ → List PerformedRange → List (Option ℕ) → List (Option ℕ) → Type 0
IsGrouped count performed last before = IsGroupedTo count performed (length performed) last before
