-- The walk along the PERFORMs: which paragraphs were seen, the path to where it stands, and which are placed.
use Rattle.std.specs.Prelude.{◌≡◌, ℕ, ◌+◌, ◌≤◌, ◌<◌, Bool, true, false, List, length, get_or, slice_get, sum_by, count_by, Some, []}
use Rattle.perform_graph.specs.declared.performed.PerformedRange.{PerformedRange}
use Rattle.perform_graph.specs.declared.progress.Progress.{Progress}
use Rattle.perform_graph.specs.declared.progress.Progress.TheVariants.{Unseen, Open, Placed}
use Rattle.perform_graph.specs.declared.visit.Visit.{Visit}
use Rattle.perform_graph.specs.Order.{IsIn, marks}
use Rattle.perform_graph.specs.Grouped.{up_to, IsPerformOf}

-- how far a paragraph is; one that doesn't exist is never seen
abbrev pub state : List Progress → ℕ → Progress
state states paragraph = get_or states paragraph Unseen

abbrev pub is_placed : Progress → Bool
is_placed Unseen = false
is_placed (Open depth) = false
is_placed (Placed height) = true

abbrev pub is_seen : Progress → Bool
is_seen Unseen = false
is_seen (Open depth) = true
is_seen (Placed height) = true

-- the rank of a placed one
abbrev pub rank_of : Progress → ℕ
rank_of Unseen = 0
rank_of (Open depth) = 0
rank_of (Placed height) = height

-- how often the walk still comes to it or leaves it
abbrev pub weight : Progress → ℕ
weight Unseen = 2
weight (Open depth) = 1
weight (Placed height) = 0

-- the same of all of them
abbrev pub ahead : List Progress → ℕ
ahead states = sum_by weight states

-- The paragraphs of a PERFORM are placed.
abbrev pub RangePlaced : List Progress → PerformedRange → Type 0
RangePlaced states one = (paragraph : ℕ) → IsIn one paragraph → is_placed (state states paragraph) ≡ true

-- The paragraphs that this one performs are placed.
abbrev pub AllPlaced : List PerformedRange → List Progress → ℕ → Type 0
AllPlaced performed states paragraph =
    (number : ℕ) (one : PerformedRange) → slice_get performed number ≡ Some one → one.performer ≡ paragraph → RangePlaced states one

-- the first one from here to there that isn't placed
pub record IsFirstUnplaced (states : List Progress) (first last paragraph : ℕ) : Type 0 where
  pub from : first ≤ paragraph
  pub to : paragraph ≤ last
  pub unplaced : is_placed (state states paragraph) ≡ false
  pub before : (other : ℕ) → first ≤ other → other < paragraph → is_placed (state states other) ≡ true

-- What a visit has gone over is placed: the PERFORMs after the one that it is at, and there the paragraphs in front of the next one.
pub record HasGoneOver (performed : List PerformedRange) (states : List Progress) (visit : Visit) : Type 0 where
  pub of : (at : ℕ) → visit.at ≡ Some at → IsPerformOf performed visit.paragraph at
  pub behind : (number : ℕ) (one : PerformedRange) → up_to visit.at ≤ number → slice_get performed number ≡ Some one
      → one.performer ≡ visit.paragraph → RangePlaced states one
  pub begun : (at : ℕ) (one : PerformedRange) → visit.at ≡ Some at → slice_get performed at ≡ Some one
      → (paragraph : ℕ) → IsIn one paragraph → paragraph < visit.next → is_placed (state states paragraph) ≡ true

-- The PERFORM that a visit is at performs the next paragraph.
pub record PerformsNext (performed : List PerformedRange) (visit : Visit) : Type 0 where
  pub at : ℕ
  pub one : PerformedRange
  pub is_at : visit.at ≡ Some at
  pub stands : slice_get performed at ≡ Some one
  pub performer : one.performer ≡ visit.paragraph
  pub within : IsIn one visit.next

-- a visit of the paragraph that has come to a next one that isn't placed
pub record HasNext (performed : List PerformedRange) (states : List Progress) (paragraph : ℕ) (visit : Visit) : Type 0 where
  pub same : visit.paragraph ≡ paragraph
  pub over : HasGoneOver performed states visit
  pub leads : PerformsNext performed visit
  pub within : visit.next < length states
  pub unplaced : is_placed (state states visit.next) ≡ false

-- a placed paragraph that stands lower
pub record IsBelow (states : List Progress) (above paragraph : ℕ) : Type 0 where
  pub height : ℕ
  pub placed : state states paragraph ≡ Placed height
  pub lower : height < above

-- the paragraph is visited at this depth of the path
pub record IsVisited (path : List Visit) (depth paragraph : ℕ) : Type 0 where
  pub visit : Visit
  pub stands : slice_get path depth ≡ Some visit
  pub same : visit.paragraph ≡ paragraph

-- a visit at this depth of the path
pub record IsOpen (performed : List PerformedRange) (states : List Progress) (depth : ℕ) (visit : Visit) : Type 0 where
  pub is_open : state states visit.paragraph ≡ Open depth
  pub over : HasGoneOver performed states visit

-- A visit leads to the paragraph of the later one.
pub record PerformsVisit (performed : List PerformedRange) (visit later : Visit) : Type 0 where
  pub leads : PerformsNext performed visit
  pub next : visit.next ≡ later.paragraph

-- How the walk stands: each placed paragraph performs only placed ones that are lower, the open ones are those of the path, and each on the
-- path performs the one after it.
pub record IsWalkState (performed : List PerformedRange) (states : List Progress) (path : List Visit) (placed : ℕ) : Type 0 where
  pub count : placed ≡ count_by is_placed states
  pub low : (paragraph height : ℕ) → state states paragraph ≡ Placed height → height < placed
  pub falls : (paragraph height : ℕ) → state states paragraph ≡ Placed height → (number : ℕ) (one : PerformedRange) → slice_get performed number ≡ Some one
      → one.performer ≡ paragraph → (other : ℕ) → IsIn one other → IsBelow states height other
  pub visited : (paragraph depth : ℕ) → state states paragraph ≡ Open depth → IsVisited path depth paragraph
  pub on_path : (depth : ℕ) (visit : Visit) → slice_get path depth ≡ Some visit → IsOpen performed states depth visit
  pub links : (depth : ℕ) (visit later : Visit) → slice_get path depth ≡ Some visit → slice_get path (depth + 1) ≡ Some later → PerformsVisit performed visit later

-- The walk went on: what was seen stays seen, and less is ahead.
pub record Advances (old new : List Progress) : Type 0 where
  pub same : length new ≡ length old
  pub seen : (paragraph : ℕ) → is_seen (state old paragraph) ≡ true → is_seen (state new paragraph) ≡ true
  pub less : ahead new < ahead old

-- the walk after it went on
pub record IsLaterWalkState (performed : List PerformedRange) (old new : List Progress) (path : List Visit) (placed : ℕ) : Type 0 where
  pub stands : IsWalkState performed new path placed
  pub on : Advances old new

-- one of the visits whose paragraph this visit performs
pub record LeadsIntoCycle (performed : List PerformedRange) (ring : List Visit) (visit : Visit) : Type 0 where
  pub depth : ℕ
  pub later : Visit
  pub stands : slice_get ring depth ≡ Some later
  pub leads : PerformsVisit performed visit later

-- Visits of which each leads to one of them.
pub record IsCycle (performed : List PerformedRange) (count : ℕ) (ring : List Visit) : Type 0 where
  pub some : 0 < length ring
  pub each : (depth : ℕ) (visit : Visit) → slice_get ring depth ≡ Some visit → LeadsIntoCycle performed ring visit
  pub within : (depth : ℕ) (visit : Visit) → slice_get ring depth ≡ Some visit → visit.paragraph < count

-- The paragraphs of the first visits are marked, and none that isn't of a visit.
pub record AreMarksTo (ring : List Visit) (end : ℕ) (all : List Bool) : Type 0 where
  pub marked : (depth : ℕ) (visit : Visit) → depth < end → slice_get ring depth ≡ Some visit → marks all visit.paragraph ≡ true
  pub of : (paragraph : ℕ) → marks all paragraph ≡ true → (depth : ℕ) × IsVisited ring depth paragraph

-- The paragraphs of the visits are marked, and no others.
abbrev pub AreMarks : List Visit → List Bool → Type 0
AreMarks ring all = AreMarksTo ring (length ring) all

-- a walk that began at a paragraph and is at its end
pub record IsWalked (performed : List PerformedRange) (root : ℕ) (old new : List Progress) (path : List Visit) (placed : ℕ) : Type 0 where
  pub stands : IsWalkState performed new path placed
  pub done : path ≡ []
  pub same : length new ≡ length old
  pub root_seen : is_seen (state new root) ≡ true
  pub seen : (paragraph : ℕ) → is_seen (state old paragraph) ≡ true → is_seen (state new paragraph) ≡ true
